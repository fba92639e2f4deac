-- The vertices that have the parents of their jobs, and are needed where those are.
use Rattle.std.specs.Prelude.{◌≡◌, ◌⊎◌, ◌<◌, ℕ, Bool, false, List, [], length, map, slice_index_or}
use Rattle.job_graph.specs.declared.growth.KnownJob.{KnownJob}
use Rattle.plan_checker.specs.Graph.{vertex}
use Rattle.plan_checker.specs.declared.vertex.Vertex.{Vertex}
use Rattle.plan_keeper.specs.Free.{IsFree}
use Rattle.run_plan.specs.Touched.{costs_in}
use Rattle.run_plan.specs.inner.Again.{vertex_of}

-- the parents of the known job of a number
abbrev pub parents_at : List KnownJob → ℕ → List ℕ
parents_at known n = slice_index_or (map (λ job. job.parents) known) n []

-- the vertices have the parents of these jobs
abbrev pub HaveParents : List KnownJob → List Vertex → Type 0
HaveParents known graph = (i : ℕ) → i < length graph → (vertex graph i).parents ≡ parents_at known i

-- the first n vertices have the parents of these jobs, and are needed or not as this says
abbrev pub AreFlaggedBelow : List KnownJob → List Bool → List Vertex → ℕ → Type 0
AreFlaggedBelow known needed graph n =
    (i : ℕ) → i < n → vertex graph i ≡ vertex_of (parents_at known i) (costs_in (vertex graph i)) (slice_index_or needed i false)

-- the vertex is needed or not as this says, or free
abbrev pub IsFlaggedOrFree : List Bool → List Vertex → ℕ → Type 0
IsFlaggedOrFree needed graph n = ((vertex graph n).needed ≡ slice_index_or needed n false) ⊎ IsFree (vertex graph n)

-- the vertex is free, and needed or not as this says
abbrev pub IsFreedAs : List Bool → List Vertex → ℕ → Type 0
IsFreedAs needed graph n = IsFree (vertex graph n) × ((vertex graph n).needed ≡ slice_index_or needed n false)

-- the vertex is needed or not as one of these says
abbrev pub IsFlaggedEither : List Bool → List Bool → List Vertex → ℕ → Type 0
IsFlaggedEither before needed graph n = ((vertex graph n).needed ≡ slice_index_or before n false) ⊎ ((vertex graph n).needed ≡ slice_index_or needed n false)
