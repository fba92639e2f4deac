-- The costs of known jobs, by what the graph before has, what has changed since and what was added.
use Rattle.std.specs.Prelude.{◌≡◌, ◌<◌, ◌≤◌, ℕ, List, [], ◌∷◌, ◌++◌, Option, Some, None, length, map, slice_index_or, slice_set}
use Rattle.job_graph.specs.Jobs.{Job}
use Rattle.job_graph.specs.Unfold.{known_from}
use Rattle.job_graph.specs.declared.costs.Costs.{Costs}
use Rattle.plan_checker.specs.Graph.{vertex}
use Rattle.plan_checker.specs.declared.vertex.Vertex.{Vertex}
use Rattle.plan_keeper.specs.declared.planned.Planned.{Planned}

-- the graph of a plan; none without one
abbrev pub graph_in : Option Planned → List Vertex
graph_in None = []
graph_in (Some made) = made.graph

abbrev pub costs_in : Vertex → Costs
costs_in job = record { load = job.load; compute = job.compute }

-- these costs, but for those that changed, each with its number
abbrev pub patched : List Costs → List (ℕ × Costs) → List Costs
patched costs [] = costs
patched costs (one ∷ changed) = patched (slice_set costs one.0 one.1) changed

-- what the jobs cost now: those of the graph what they did, but for those that changed, and then the later ones
abbrev pub costs_after : List Vertex → List (ℕ × Costs) → List Costs → List Costs
costs_after graph changed later = patched (map costs_in graph) changed ++ later

-- the numbers of the parents of one of these jobs
abbrev pub parents_in : List Job → ℕ → List ℕ
parents_in jobs n = slice_index_or (map (λ known. known.parents) (known_from [] jobs)) n []

-- this is a graph of the first of these jobs, as far as its parents say
abbrev pub AreOfFirst : List Vertex → List Job → Type 0
AreOfFirst graph jobs = (length graph ≤ length jobs) × ((n : ℕ) → n < length graph → (vertex graph n).parents ≡ parents_in jobs n)
