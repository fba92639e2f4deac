-- What it costs to load files.
use Rattle.std.specs.Prelude.{◌≡◌, ℕ, ◌+◌, ◌*◌, ◌≤◌, min}
use Rattle.plan_checker.specs.declared.graph.TheConstants.{MOST_COST}

-- the bytes over the rate, rounded up: the least number that, times the rate, is no less than the bytes
pub record IsRoundedUp (bytes rate quotient : ℕ) : Type 0 where
  pub enough : bytes ≤ quotient * rate
  pub least : (n : ℕ) → bytes ≤ n * rate → quotient ≤ n

-- the base and the bytes over the rate, rounded up; the whole held to the highest cost
pub record IsLoadCost (base rate bytes cost : ℕ) : Type 0 where
  pub quotient : ℕ
  pub rounded : IsRoundedUp bytes rate quotient
  pub held : cost ≡ min (base + quotient) MOST_COST
