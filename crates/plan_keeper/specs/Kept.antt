-- Plans of vertices that stand apart, which are kept while their graphs change.
use Rattle.std.specs.Prelude.{◌≡◌, ◌⊎◌, ℕ, ◌<◌, Bool, Some, List, length, slice_index, slice_set, All, Contains}
use Rattle.plan_checker.specs.declared.vertex.Vertex.{Vertex}
use Rattle.plan_checker.specs.declared.plan.Mark.{Mark}
use Rattle.plan_checker.specs.declared.plan.Mark.TheVariants.{Load, Compute}
use Rattle.plan_checker.specs.declared.charges.Charges.{Charges}
use Rattle.plan_checker.specs.Graph.{vertex, IsGraph}
use Rattle.plan_checker.specs.Plan.{mark, cost}
use Rattle.plan_keeper.specs.declared.planned.Planned.{Planned}
use Rattle.plan_keeper.specs.Apart.{AreApart, alone, AreMarkedApart, AreChargesApart}

-- vertices that stand apart, with the marks and charges of each by itself, and what they cost
pub record IsKeptApart (kept : Planned) : Type 0 where
  pub good : IsGraph kept.graph
  pub apart : AreApart kept.graph
  pub marked : AreMarkedApart kept.graph kept.plan.marks (length kept.graph)
  pub charged : AreChargesApart kept.graph kept.charges
  pub its_cost : kept.cost ≡ cost kept.graph kept.plan.marks

-- the job as a free one, at this compute cost and wanted or not
abbrev pub freed : Vertex → ℕ → Bool → Vertex
freed job compute needed = record { load = Some 0; compute = compute; parents = job.parents; needed = needed }

-- no vertex that is computed has this parent
abbrev pub IsLeft : List Vertex → ℕ → Type 0
IsLeft graph number = All (λ job. alone job ≡ Compute → ¬ Contains job.parents number) graph

-- what is done with vertex i: it is loaded as a parent of a computed one, or marked as by itself
pub record IsMarkApart (graph : List Vertex) (i : ℕ) (its : Mark) : Type 0 where
  pub loaded : (j : ℕ) → j < length graph → alone (vertex graph j) ≡ Compute → Contains (vertex graph j).parents i → its ≡ Load
  pub others : ((j : ℕ) → j < length graph → alone (vertex graph j) ≡ Compute → ¬ Contains (vertex graph j).parents i) → its ≡ alone (vertex graph i)

-- the first n of these numbers have their marks, and what had its mark has it
pub record AreRemarked (graph : List Vertex) (old new : List Mark) (numbers : List ℕ) (n : ℕ) : Type 0 where
  pub count : length new ≡ length old
  pub made : (k : ℕ) → k < n → IsMarkApart graph (slice_index numbers k) (mark new (slice_index numbers k))
  pub stays : (i : ℕ) → IsMarkApart graph i (mark old i) → IsMarkApart graph i (mark new i)

-- a vertex has its mark, if that by itself is another than it was, its parents where it was computed, and what had its mark has it
pub record IsRemarked (graph : List Vertex) (old new : List Mark) (number : ℕ) (was : Mark) : Type 0 where
  pub count : length new ≡ length old
  pub made : (was ≡ alone (vertex graph number)) ⊎ IsMarkApart graph number (mark new number)
  pub parents : was ≡ Compute → (i : ℕ) → Contains (vertex graph number).parents i → IsMarkApart graph i (mark new i)
  pub stays : (i : ℕ) → IsMarkApart graph i (mark old i) → IsMarkApart graph i (mark new i)

-- the charges without those of a vertex
abbrev pub uncharged : Charges → ℕ → Charges
uncharged charges number = record {
  enter = slice_set charges.enter number 0;
  through = slice_set charges.through number 0;
  pay = slice_set charges.pay number 0;
  pass = charges.pass;
}
