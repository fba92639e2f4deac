use Rattle.std.proofs.Common.{◌≡◌, ◌≤◌, ◌*◌, sum_by, take}
use Rattle.plan_checker.specs.inner.Children.{amount_from}
use Rattle.plan_checker.proofs.graph.Graph.received.Given as goal

abbrev pub invariant-loop-child : goal.invariant-loop-child
invariant-loop-child l = record {
  so_far : l.sum ≡ sum_by (amount_from l.charges) (take l.child-index l.child-items);
  small : l.sum ≤ 18446744073709551616 * l.child-index;
}
