-- Marks of which some were set to `Load`.
use Rattle.std.specs.Prelude.{◌≡◌, ◌≢◌, ℕ, ◌<◌, List, length, slice_index, Contains}
use Rattle.plan_checker.specs.declared.plan.Mark.{Mark}
use Rattle.plan_checker.specs.declared.plan.Mark.TheVariants.{Load, Compute}
use Rattle.plan_checker.specs.Plan.{mark}

-- the first n of these numbers are loaded, and nothing else has changed
pub record LoadsAll (old new : List Mark) (numbers : List ℕ) (n : ℕ) : Type 0 where
  pub count : length new ≡ length old
  pub loaded : (k : ℕ) → k < n → mark new (slice_index numbers k) ≡ Load
  pub stays : (i : ℕ) → mark old i ≡ Load → mark new i ≡ Load
  pub others : (i : ℕ) → ((k : ℕ) → k < n → slice_index numbers k ≢ i) → mark new i ≡ mark old i

-- these numbers are loaded for a vertex that is computed, and nothing else has changed
pub record LoadsFor (old new : List Mark) (numbers : List ℕ) (its : Mark) : Type 0 where
  pub count : length new ≡ length old
  pub loaded : its ≡ Compute → (i : ℕ) → Contains numbers i → mark new i ≡ Load
  pub stays : (i : ℕ) → mark old i ≡ Load → mark new i ≡ Load
  pub others : (i : ℕ) → (its ≡ Compute → ¬ Contains numbers i) → mark new i ≡ mark old i
