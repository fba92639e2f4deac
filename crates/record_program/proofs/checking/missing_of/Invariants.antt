use Rattle.std.proofs.Common.{◌≡◌, take, not}
use Rattle.std.specs.Prelude.{filter}
use Rattle.plain_data.specs.ByName.{names}
use Rattle.record_program.specs.Checking as spec
use Rattle.record_program.proofs.checking.missing_of.Given as goal

abbrev pub invariant-loop-sum : goal.invariant-loop-sum
invariant-loop-sum l = l.left ≡ filter (λ sum. not (spec.is_in l.folders sum)) (names (take l.sum-index l.sums))
