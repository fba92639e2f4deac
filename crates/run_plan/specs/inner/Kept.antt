-- The flags that are kept beside a plan.
use Rattle.std.specs.Prelude.{◌≡◌, ◌<◌, ◌≤◌, ℕ, Bool, false, List, MatchOption, Option, map, slice_index_or}
use Rattle.std.specs.Global.{Vec}
use Rattle.plan_checker.specs.declared.vertex.Vertex.{Vertex}
use Rattle.plan_keeper.specs.Apart.{AreApart}
use Rattle.plan_keeper.specs.Kept.{IsKeptApart}
use Rattle.plan_keeper.specs.declared.planned.Planned.{Planned}

-- whether each of these vertices is needed
abbrev pub flags_in : List Vertex → List Bool
flags_in graph = map (λ job. job.needed) graph

-- beside the plan of vertices that stand apart are their flags, and no others beside any other plan
abbrev pub IsKeptWith : Planned → Option (Vec Bool) → Type 0
IsKeptWith made needed = MatchOption needed (¬ AreApart made.graph) (λ flags. IsKeptApart made × (flags.items ≡ flags_in made.graph))

-- from a number on, below another, these flags are the same
abbrev pub AreSameBetween : ℕ → ℕ → List Bool → List Bool → Type 0
AreSameBetween from below some others = (i : ℕ) → from ≤ i → i < below → slice_index_or some i false ≡ slice_index_or others i false
