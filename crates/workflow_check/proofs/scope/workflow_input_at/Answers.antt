use Rattle.std.proofs.Common.{◌∙◌, ap, sym}
use Rattle.std.specs.Prelude.{Some, option_map}
use Rattle.std.specs.Option.{option_copied}
use Rattle.workflow_check.proofs.Named.{value_of_map}
use Rattle.workflow_check.specs.Scope.{workflow_asked}
use Rattle.workflow_check.proofs.scope.workflow_input_at.Goals as goal

pub returns-in-Some : goal.returns-in-Some
returns-in-Some c =
    ap Some c.workflow_taken.ensures ∙ sym (value_of_map workflow_asked c.args.id.now c.args.inputs.now ∙ ap (option_map workflow_asked) (sym c.find.ensures ∙ ap option_copied c.in-Some.is))

pub returns-in-None : goal.returns-in-None
returns-in-None c = sym (value_of_map workflow_asked c.args.id.now c.args.inputs.now ∙ ap (option_map workflow_asked) (sym c.find.ensures ∙ ap option_copied c.in-None.is))
