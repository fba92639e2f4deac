use Rattle.plan_checker.specs.inner.Children.{AddsChild}
use Rattle.plan_checker.proofs.graph.add_child.Given as goal

abbrev pub invariant-loop-place : goal.invariant-loop-place
invariant-loop-place l = AddsChild l.fn.children.items l.children.items l.vertex l.parents l.place
