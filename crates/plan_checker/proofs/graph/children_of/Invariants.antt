use Rattle.std.proofs.Common.{◌≡◌, replicate, []}
use Rattle.plan_checker.specs.inner.Children.{AreChildrenBelow}
use Rattle.plan_checker.proofs.graph.children_of.Given as goal

abbrev pub invariant-loop : goal.invariant-loop
invariant-loop l = l.children.items ≡ replicate l.counter []

abbrev pub invariant-loop-vertex : goal.invariant-loop-vertex
invariant-loop-vertex l = AreChildrenBelow l.vertices l.children.items l.vertex
