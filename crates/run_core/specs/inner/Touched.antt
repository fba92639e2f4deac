-- Which known jobs were touched since the last plan, and what the later ones cost.
use Rattle.std.specs.Prelude.{◌≡◌, ◌+◌, ◌<◌, ℕ, List, Option, Some, None, Contains, length, slice_get}
use Rattle.job_graph.specs.declared.costs.Costs.{Costs}

-- the job of a number is one of these, or all are
abbrev pub IsTouched : Option (List ℕ) → ℕ → Type 0
IsTouched None n = Unit {0}
IsTouched (Some numbers) n = Contains numbers n

-- the job of a number is touched, and what was touched is so still
pub record Touches (number : ℕ) (old new : Option (List ℕ)) : Type 0 where
  pub it : IsTouched new number
  pub others : (n : ℕ) → IsTouched old n → IsTouched new n

-- the same, where it is below a count
pub record TouchesBelow (count number : ℕ) (old new : Option (List ℕ)) : Type 0 where
  pub it : number < count → IsTouched new number
  pub others : (n : ℕ) → IsTouched old n → IsTouched new n

-- what the jobs from a number on cost, below another
pub record AreCostsFrom (costs : ℕ → Costs) (from below : ℕ) (found : List Costs) : Type 0 where
  pub as_many : from + length found ≡ below
  pub each : (k : ℕ) → from + k < below → slice_get found k ≡ Some (costs (from + k))
