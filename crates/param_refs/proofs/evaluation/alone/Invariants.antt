use Rattle.std.proofs.Common.{◌≡◌, drop}
use Rattle.param_refs.specs.Evaluation.{alone}
use Rattle.param_refs.proofs.evaluation.alone.Given as goal

abbrev pub invariant-loop-at : goal.invariant-loop-at
invariant-loop-at l = alone l.parts ≡ alone (drop l.at l.parts)
