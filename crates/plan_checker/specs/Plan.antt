-- Plans: one mark for each vertex; when a plan is valid, and what it costs (Helix: each job is loaded, computed or pruned).
use Rattle.std.specs.Prelude.{◌≡◌, ◌≢◌, ℕ, List, length, false, IsSome, All, EachIndex, slice_index_or, unwrap_or}
use Rattle.plan_checker.specs.declared.vertex.Vertex.{Vertex}
use Rattle.plan_checker.specs.declared.plan.Mark.{Mark}
use Rattle.plan_checker.specs.declared.plan.Mark.TheVariants.{Load, Compute, Prune}
use Rattle.plan_checker.specs.Sums.{sum_below}
use Rattle.plan_checker.specs.Graph.{vertex}

-- the mark of this number; past the end of the plan nothing is done
abbrev pub mark : List Mark → ℕ → Mark
mark marks i = slice_index_or marks i Prune

-- what has to hold of a vertex under its mark: it can be loaded; all that it is computed from is there; it can be done without
abbrev pub IsAllowed : List Mark → Vertex → Mark → Type 0
IsAllowed marks job Load = IsSome job.load
IsAllowed marks job Compute = All (λ parent. mark marks parent ≢ Prune) job.parents
IsAllowed marks job Prune = job.needed ≡ false

-- one mark for each vertex, and each is allowed
pub record IsValid (graph : List Vertex) (marks : List Mark) : Type 0 where
  pub one_each : length marks ≡ length graph
  pub allowed : EachIndex graph (λ i. IsAllowed marks (vertex graph i) (mark marks i))

-- what a vertex costs under a mark
abbrev pub cost_of : Vertex → Mark → ℕ
cost_of job Load = unwrap_or job.load 0
cost_of job Compute = job.compute
cost_of job Prune = 0

-- what a plan costs
abbrev pub cost : List Vertex → List Mark → ℕ
cost graph marks = sum_below (length graph) (λ i. cost_of (vertex graph i) (mark marks i))
