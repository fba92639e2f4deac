use Rattle.std.specs.Option.{option_copied}
use Rattle.std.proofs.Common.{◌++◌, ◌∙◌, ap, string_bytes}
use Rattle.param_refs.specs.Evaluation.{joined}
use Rattle.param_refs.proofs.Joined.{joined_more}
use Rattle.param_refs.proofs.evaluation.joined.Goals as goal

pub loop-part-preserved : goal.loop-part-preserved
loop-part-preserved c =
    let context = c.args.context.now in
    joined_more context.inputs.now (option_copied context.runtime) context.own.now c.args.parts.now c.loop-part.part-index c.part-item.result (string_bytes c.loop-part.text) c.in_ok-found.found (string_bytes c.push_str.new.self)
    (joined context.inputs.now (option_copied context.runtime) context.own.now c.args.parts.now) c.loop-part-test.true c.part-item.is c.in_ok-found.ensures.ok (c.in_ok-push_str.ensures.bytes ∙ ap (λ t. string_bytes c.loop-part.text ++ t) c.as_str.ensures.bytes) c.loop-part.invariant
