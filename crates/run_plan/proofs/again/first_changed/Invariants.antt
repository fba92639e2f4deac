use Rattle.std.proofs.Common.{◌≡◌, ◌<◌, ◌≤◌, ℕ}
use Rattle.plan_checker.specs.Graph.{vertex}
use Rattle.run_plan.specs.inner.Again.{vertices_of}
use Rattle.run_plan.proofs.again.first_changed.Given as goal

abbrev pub invariant-loop-number : goal.invariant-loop-number
invariant-loop-number l = (i : ℕ) → l.from ≤ i → i < l.number → vertex l.vertices i ≡ vertex (vertices_of l.known l.costs l.needed) i
