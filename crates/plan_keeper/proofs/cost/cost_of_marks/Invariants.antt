use Rattle.std.proofs.Common.{◌≡◌, ◌≤◌, ◌*◌}
use Rattle.plan_checker.specs.Sums.{sum_below}
use Rattle.plan_checker.specs.Graph.{vertex}
use Rattle.plan_checker.specs.Plan.{mark, cost_of}
use Rattle.plan_keeper.proofs.cost.cost_of_marks.Given as goal

abbrev pub invariant-loop-i : goal.invariant-loop-i
invariant-loop-i l = record {
  so_far : l.total ≡ sum_below l.i (λ i. cost_of (vertex l.vertices i) (mark l.marks i));
  small : l.total ≤ l.i * 1000000000000;
}
