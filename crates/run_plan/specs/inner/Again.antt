-- The vertices of known jobs, by their parts; and what it is to bring a graph up to date at one vertex.
use Rattle.std.specs.Prelude.{◌≡◌, ◌≢◌, ℕ, Bool, List, length, map, take}
use Rattle.std.specs.List.{zip}
use Rattle.job_graph.specs.declared.costs.Costs.{Costs}
use Rattle.job_graph.specs.declared.growth.KnownJob.{KnownJob}
use Rattle.plan_checker.specs.Graph.{vertex}
use Rattle.plan_checker.specs.declared.vertex.Vertex.{Vertex}

-- the vertex of a job with these parents and costs, where it is said whether it is needed
abbrev pub vertex_of : List ℕ → Costs → Bool → Vertex
vertex_of parents costs needed = record { load = costs.load; compute = costs.compute; parents = parents; needed = needed }

abbrev pub vertices_of : List KnownJob → List Costs → List Bool → List Vertex
vertices_of known costs needed = map (λ e. vertex_of e.0.parents e.1.0 e.1.1) (zip known (zip costs needed))

-- these are the first of those
abbrev pub AreFirst : List Vertex → List Vertex → Type 0
AreFirst graph all = graph ≡ take (length graph) all

-- the vertex of this number is this one, and no other has changed
pub record IsBrought (old new : List Vertex) (number : ℕ) (job : Vertex) : Type 0 where
  pub there : vertex new number ≡ job
  pub others : (i : ℕ) → i ≢ number → vertex new i ≡ vertex old i
