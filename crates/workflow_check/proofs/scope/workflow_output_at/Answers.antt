use Rattle.std.proofs.Common.{◌∙◌, ap, sym}
use Rattle.std.specs.Prelude.{Some, option_map}
use Rattle.std.specs.Option.{option_copied}
use Rattle.workflow_check.proofs.Named.{value_of_map}
use Rattle.workflow_check.proofs.scope.workflow_output_at.Goals as goal

pub returns-in-Some : goal.returns-in-Some
returns-in-Some c =
    ap Some c.workflow_given.ensures ∙ sym (value_of_map (λ o. o.kind) c.args.id.now c.args.outputs.now ∙ ap (option_map (λ o. o.kind)) (sym c.find.ensures ∙ ap option_copied c.in-Some.is))

pub returns-in-None : goal.returns-in-None
returns-in-None c = sym (value_of_map (λ o. o.kind) c.args.id.now c.args.outputs.now ∙ ap (option_map (λ o. o.kind)) (sym c.find.ensures ∙ ap option_copied c.in-None.is))
