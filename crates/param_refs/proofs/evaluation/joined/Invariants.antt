use Rattle.std.proofs.Common.{◌≡◌, ◌++◌, drop, string_bytes}
use Rattle.std.specs.Option.{option_copied}
use Rattle.param_refs.specs.Descent.{and_map}
use Rattle.param_refs.specs.Evaluation.{joined}
use Rattle.param_refs.proofs.evaluation.joined.Given as goal

abbrev pub invariant-loop-part : goal.invariant-loop-part
invariant-loop-part l =
    let join = joined l.context.inputs.now (option_copied l.context.runtime) l.context.own.now in
    join l.parts ≡ and_map (λ rest. string_bytes l.text ++ rest) (join (drop l.part-index l.parts))
