use Rattle.std.proofs.Common.{◌≡◌, ◌≤◌, ◌-◌, length, map}
use Rattle.plan_keeper.specs.Kept.{IsKeptApart}
use Rattle.run_plan.specs.Touched.{costs_in}
use Rattle.run_plan.specs.inner.Flagged.{AreFlaggedBelow, HaveParents}
use Rattle.run_plan.proofs.FewBrought.{AreFlagsBelow}
use Rattle.run_plan.proofs.few.bring_flags.Given as goal

abbrev pub invariant-loop-number : goal.invariant-loop-number
invariant-loop-number l = record {
  within : l.number ≤ length l.before;
  kept : IsKeptApart l.made;
  count : length l.made.graph ≡ length l.initial.made.graph;
  parents : HaveParents l.known l.made.graph;
  costs : map costs_in l.made.graph ≡ map costs_in l.initial.made.graph;
  flagged : AreFlaggedBelow l.known l.needed l.made.graph l.number;
  flags : AreFlagsBelow l.needed l.initial.made.graph l.made.graph l.number;
}

abbrev pub decreases-loop-number : goal.decreases-loop-number
decreases-loop-number l = length l.initial.before - l.number
