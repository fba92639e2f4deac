-- The tickets that a run holds.
use Rattle.std.specs.Prelude.{ℕ, List, Contains}

-- each child that runs is one of theirs
pub record Covers (held running : List ℕ) : Type 0 where
  pub each : (ticket : ℕ) → Contains running ticket → Contains held ticket
