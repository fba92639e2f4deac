use Rattle.std.proofs.Common.{◌≡◌, length}
use Rattle.test_values.proofs.scatters.put_each.Given as goal

abbrev pub invariant-loop-json : goal.invariant-loop-json
invariant-loop-json l = length l.gathering ≡ l.count
