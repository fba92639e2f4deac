-- The children of each vertex, listed, so that what they pass to it can be summed in linear time.
use Rattle.std.specs.Prelude.{◌≡◌, ℕ, ◌+◌, ◌<◌, List, [], length, sum_by, All, Contains, ◌==◌, slice_index, slice_index_or, if◌then◌else◌}
use Rattle.plan_checker.specs.declared.vertex.Vertex.{Vertex}
use Rattle.plan_checker.specs.declared.child.Child.{Child}
use Rattle.plan_checker.specs.declared.charges.Charges.{Charges}
use Rattle.plan_checker.specs.Sums.{sum_below}
use Rattle.plan_checker.specs.Graph.{IsChild, vertex}
use Rattle.plan_checker.specs.Charges.{passes, passed_to}

-- what a child passes to this parent of it
abbrev pub amount_from : Charges → Child → ℕ
amount_from charges child = slice_index (passes charges child.vertex) child.place

-- for each vertex its children among the vertices below n, all of them: summing over them gives what the vertex receives from
-- those, for all charges
pub record AreChildrenBelow (graph : List Vertex) (children : List (List Child)) (n : ℕ) : Type 0 where
  pub one_each : length children ≡ length graph
  pub there : (p : ℕ) → All (IsChild graph p) (slice_index_or children p [])
  pub listed : (i k : ℕ) → i < n → k < length (vertex graph i).parents → Contains (slice_index_or children (slice_index (vertex graph i).parents k) []) (record { vertex = i; place = k })
  pub sums : (charges : Charges) (p : ℕ) → p < length graph → sum_by (amount_from charges) (slice_index_or children p []) ≡ sum_below n (λ i. passed_to p (vertex graph i).parents (passes charges i))

-- for each vertex its children
abbrev pub AreChildren : List Vertex → List (List Child) → Type 0
AreChildren graph children = AreChildrenBelow graph children (length graph)

-- the vertex child is added to the children of the first n of its parents
pub record AddsChild (old new : List (List Child)) (child : ℕ) (parents : List ℕ) (n : ℕ) : Type 0 where
  pub one_each : length new ≡ length old
  pub there : (graph : List Vertex) → child < length graph → parents ≡ (vertex graph child).parents → ((p : ℕ) → All (IsChild graph p) (slice_index_or old p [])) → (p : ℕ) → All (IsChild graph p) (slice_index_or new p [])
  pub stays : (p : ℕ) (one : Child) → Contains (slice_index_or old p []) one → Contains (slice_index_or new p []) one
  pub listed : (k : ℕ) → k < n → Contains (slice_index_or new (slice_index parents k) []) (record { vertex = child; place = k })
  pub sums : (charges : Charges) (p : ℕ) → p < length old → sum_by (amount_from charges) (slice_index_or new p []) ≡ sum_by (amount_from charges) (slice_index_or old p []) + sum_below n (λ k. if slice_index parents k == p then slice_index (passes charges child) k else 0)
