use Rattle.std.proofs.Common.{◌≤◌, ◌-◌, length}
use Rattle.run_plan.specs.inner.Kept.{AreSameBetween}
use Rattle.run_plan.proofs.flags.past_same.Given as goal

abbrev pub invariant-loop-number : goal.invariant-loop-number
invariant-loop-number l = record {
  from : l.from ≤ l.number;
  within : l.number ≤ length l.before;
  same : AreSameBetween l.from l.number l.before l.needed;
}

abbrev pub decreases-loop-number : goal.decreases-loop-number
decreases-loop-number l = length l.initial.before - l.number
