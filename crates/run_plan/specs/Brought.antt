-- When a plan is brought up to date, and when it is made anew.
use Rattle.std.specs.Prelude.{◌≡◌, ◌⊎◌, ◌<◌, ◌≤◌, ℕ, List, [], ◌∷◌, Option, Some, None, length, slice_index_or, slice_set}
use Rattle.job_graph.specs.PresentJobGraph.{AreWithin}
use Rattle.job_graph.specs.declared.costs.Costs.{Costs}
use Rattle.plan_checker.specs.Graph.{IsGraph, vertex}
use Rattle.plan_checker.specs.declared.vertex.Vertex.{Vertex}
use Rattle.plan_keeper.specs.Apart.{AreApart}
use Rattle.plan_keeper.specs.Free.{IsFree}
use Rattle.plan_keeper.specs.declared.planned.Planned.{Planned}

-- the vertices are those of a graph, and stand apart
pub record IsGraphApart (graph : List Vertex) : Type 0 where
  pub good : IsGraph graph
  pub apart : AreApart graph

-- the job is as it was; or it is free now, as one in flight or at hand, and has the parents that it had
abbrev pub StaysOrIsFreed : Vertex → Vertex → Type 0
StaysOrIsFreed old new = (new ≡ old) ⊎ (IsFree new × (new.parents ≡ old.parents))

-- each job that was there stays or is freed, and others may have come
pub record AreStaying (old new : List Vertex) : Type 0 where
  pub longer : length old ≤ length new
  pub each : (n : ℕ) → n < length old → StaysOrIsFreed (vertex old n) (vertex new n)

-- the vertices stood apart, and do so still
pub record StaysApart (old new : List Vertex) : Type 0 where
  pub before : AreApart old
  pub staying : AreStaying old new
  pub after : IsGraphApart new

-- there is a last plan, and from its graph to this one the vertices stay apart: then that plan is brought up to date, and else one is made anew
abbrev pub CanBeBrought : Option Planned → List Vertex → Type 0
CanBeBrought None graph = ⊥
CanBeBrought (Some made) graph = StaysApart made.graph graph

-- a job that costs this is free, and its costs are within the limits
pub record AreFree (costs : Costs) : Type 0 where
  pub free : costs.load ≡ Some 0
  pub within : AreWithin costs

-- each of these changes, one after the other, frees its job, or changes nothing: it has the costs that are there, or nothing is there
abbrev pub AreFreeing : List Costs → List (ℕ × Costs) → Type 0
AreFreeing costs [] = Unit {0}
AreFreeing costs (one ∷ changed) = (AreFree one.1 ⊎ (slice_index_or costs one.0 one.1 ≡ one.1)) × AreFreeing (slice_set costs one.0 one.1) changed
