-- Charges: amounts at each vertex that obey five rules, and what they are worth. They are a flow in the network of the graph.
use Rattle.std.specs.Prelude.{◌≡◌, ℕ, ◌+◌, ◌≤◌, ◌==◌, List, [], length, sum, false, EachIndex, slice_index, slice_index_or, if◌then◌else◌}
use Rattle.std.specs.Option.{ForSome}
use Rattle.plan_checker.specs.declared.vertex.Vertex.{Vertex}
use Rattle.plan_checker.specs.declared.charges.Charges.{Charges}
use Rattle.plan_checker.specs.Sums.{sum_below}
use Rattle.plan_checker.specs.Graph.{vertex}

-- what vertex i passes to its parents, in their order
abbrev pub passes : Charges → ℕ → List ℕ
passes charges i = slice_index_or charges.pass i []

-- how much of these amounts, one for each parent, goes to vertex p
abbrev pub passed_to : ℕ → List ℕ → List ℕ → ℕ
passed_to p parents amounts =
    sum_below (length parents) (λ k. if slice_index parents k == p then slice_index amounts k else 0)

-- what the children of vertex p pass to it
abbrev pub received : List Vertex → Charges → ℕ → ℕ
received graph charges p =
    sum_below (length graph) (λ i. passed_to p (vertex graph i).parents (passes charges i))

-- one entry for each vertex, and one pass for each of its parents
pub record IsCounted (graph : List Vertex) (charges : Charges) : Type 0 where
  pub enters : length charges.enter ≡ length graph
  pub throughs : length charges.through ≡ length graph
  pub pays : length charges.pay ≡ length graph
  pub passing : length charges.pass ≡ length graph
  pub each_pass : EachIndex graph (λ i. length (passes charges i) ≡ length (vertex graph i).parents)

-- the five rules at vertex i: only what is needed is charged for its own sake; what goes through is at most the load
-- cost; what it pays is at most its compute cost; `through` = `enter` + what the children pass; `through` = `pay` + what is passed to the parents
pub record IsFair (graph : List Vertex) (charges : Charges) (i : ℕ) : Type 0 where
  pub entering : (vertex graph i).needed ≡ false → slice_index charges.enter i ≡ 0
  pub loading : ForSome (vertex graph i).load (λ load. slice_index charges.through i ≤ load)
  pub paying : slice_index charges.pay i ≤ (vertex graph i).compute
  pub coming_in : slice_index charges.enter i + received graph charges i ≡ slice_index charges.through i
  pub going_out : slice_index charges.through i ≡ slice_index charges.pay i + sum (passes charges i)

-- charges that are fair at each vertex
pub record AreFair (graph : List Vertex) (charges : Charges) : Type 0 where
  pub counted : IsCounted graph charges
  pub fair : EachIndex graph (IsFair graph charges)

-- what the charges show: that no valid plan costs less
abbrev pub value : Charges → ℕ
value charges = sum charges.enter
