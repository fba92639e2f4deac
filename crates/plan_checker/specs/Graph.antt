-- Job graphs: vertices with costs and parents, within the limits. A vertex is a job, as in Helix (Xin et al., 2018).
use Rattle.std.specs.Prelude.{◌≡◌, ℕ, ◌+◌, ◌<◌, ◌≤◌, List, [], ◌∷◌, ◌++◌, length, false, None, All, EachIndex, slice_index, slice_index_or}
use Rattle.std.specs.Option.{ForSome}
use Rattle.std.specs.List.Sorted.{IsStrictlyIncreasing}
use Rattle.plan_checker.specs.declared.vertex.Vertex.{Vertex}
use Rattle.plan_checker.specs.declared.child.Child.{Child}
use Rattle.plan_checker.specs.declared.graph.TheConstants.{MOST_VERTICES, MOST_ENTRIES, MOST_COST}
use Rattle.plan_checker.specs.declared.graph_error.GraphError.{GraphError}
use Rattle.plan_checker.specs.declared.graph_error.GraphError.TheVariants.{BadGraph, OutOfMemory}
use Rattle.plan_checker.specs.Sums.{sum_below}

-- what is read past the end of a list of vertices: one that nothing wants
abbrev pub no_vertex : Vertex
no_vertex = record { load = None; compute = 0; parents = []; needed = false }

-- the vertex of this number
abbrev pub vertex : List Vertex → ℕ → Vertex
vertex graph i = slice_index_or graph i no_vertex

-- how many parent entries the vertices below n have
abbrev pub entries_below : List Vertex → ℕ → ℕ
entries_below graph n = sum_below n (λ i. length (vertex graph i).parents)

-- a vertex has this one as a parent, at this place among its parents
pub record IsChild (graph : List Vertex) (parent : ℕ) (child : Child) : Type 0 where
  pub numbered : child.vertex < length graph
  pub placed : child.place < length (vertex graph child.vertex).parents
  pub of : slice_index (vertex graph child.vertex).parents child.place ≡ parent

-- a vertex of this number, with this many parent entries up to its own, is within the limits; its parents are below
-- it, in rising order
pub record Fits (number entries : ℕ) (job : Vertex) : Type 0 where
  pub few_vertices : number < MOST_VERTICES
  pub few_entries : entries ≤ MOST_ENTRIES
  pub load_cost : ForSome job.load (λ cost. cost ≤ MOST_COST)
  pub compute_cost : (1 ≤ job.compute) × (job.compute ≤ MOST_COST)
  pub below : All (λ parent. parent < number) job.parents
  pub rising : IsStrictlyIncreasing job.parents

abbrev pub FitsAt : List Vertex → ℕ → Type 0
FitsAt graph i = Fits i (entries_below graph (i + 1)) (vertex graph i)

-- a job graph: each vertex fits
abbrev pub IsGraph : List Vertex → Type 0
IsGraph graph = EachIndex graph (FitsAt graph)

-- the lowest vertex that does not fit
pub record IsFirstMisfit (graph : List Vertex) (i : ℕ) : Type 0 where
  pub there : i < length graph
  pub fit_before : (k : ℕ) → k < i → FitsAt graph k
  pub misfit : ¬ FitsAt graph i

-- why a list of vertices is refused: it is no graph, or out of memory
abbrev pub IsRefused : List Vertex → GraphError → Type 0
IsRefused graph (BadGraph i) = IsFirstMisfit graph i
IsRefused graph OutOfMemory = Unit {0}

-- why a vertex after those of a graph is refused: it does not fit there, or out of memory
abbrev pub IsRefusedLast : List Vertex → Vertex → GraphError → Type 0
IsRefusedLast graph job (BadGraph i) = (i ≡ length graph) × ¬ FitsAt (graph ++ job ∷ []) i
IsRefusedLast graph job OutOfMemory = Unit {0}
