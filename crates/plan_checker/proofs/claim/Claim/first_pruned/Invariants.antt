use Rattle.std.proofs.Common.{◌≢◌, ℕ, ◌<◌, get_or}
use Rattle.plan_checker.specs.declared.plan.Mark.TheVariants.{Prune}
use Rattle.plan_checker.specs.Plan.{mark}
use Rattle.plan_checker.specs.inner.Claim.{marks_of}
use Rattle.plan_checker.proofs.claim.Claim.first_pruned.Given as goal

abbrev pub invariant-loop-vertex : goal.invariant-loop-vertex
invariant-loop-vertex l = (k : ℕ) → k < l.vertex-index → mark (marks_of l.self) (get_or l.vertices k 0) ≢ Prune
