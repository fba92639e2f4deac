use Rattle.std.proofs.Common.{◌≢◌, ◌<◌, ◌≤◌, ◌-◌}
use Rattle.plan_checker.specs.Graph.{vertex}
use Rattle.plan_keeper.specs.Kept.{IsKeptApart}
use Rattle.run_plan.specs.inner.Again.{vertices_of}
use Rattle.run_plan.proofs.Brought.{AreBroughtBelow, AreStayingBelow}
use Rattle.run_plan.proofs.again.bring_old.Given as goal

abbrev pub invariant-loop-number : goal.invariant-loop-number
invariant-loop-number l = record {
  kept : IsKeptApart l.made;
  brought : AreBroughtBelow l.made.graph (vertices_of l.known l.costs l.needed) l.count l.number;
  within : l.number ≤ l.count;
  staying : AreStayingBelow l.initial.made.graph l.made.graph (vertices_of l.known l.costs l.needed) l.number;
  other : l.number < l.count → vertex l.made.graph l.number ≢ vertex (vertices_of l.known l.costs l.needed) l.number;
}

abbrev pub decreases-loop-number : goal.decreases-loop-number
decreases-loop-number l = l.count - l.number
