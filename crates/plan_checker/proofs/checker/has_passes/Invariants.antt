use Rattle.std.proofs.Common.{◌≡◌, ℕ, ◌<◌, length}
use Rattle.plan_checker.specs.Graph.{vertex}
use Rattle.plan_checker.specs.Charges.{passes}
use Rattle.plan_checker.specs.inner.Claim.{graph_of, charges_of}
use Rattle.plan_checker.proofs.checker.has_passes.Given as goal

abbrev pub invariant-loop-i : goal.invariant-loop-i
invariant-loop-i l = (k : ℕ) → k < l.i → length (passes (charges_of l.claim) k) ≡ length (vertex (graph_of l.claim) k).parents
