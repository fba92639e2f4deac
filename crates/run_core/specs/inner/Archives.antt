-- Which archives of rows that were found can be fetched.
use Rattle.std.specs.Prelude.{◌&&◌, ℕ, Bool, false, not, List, Option, Some, None, bytes_eq}
use Rattle.std.specs.List.{list_any}
use Rattle.job_rows.specs.declared.row.Row.{Row}

abbrev pub is_lost_in : List (List ℕ) → List ℕ → Bool
is_lost_in lost key = list_any (λ other. bytes_eq other key) lost

abbrev pub archived_in : List (List ℕ) → Option Row → Bool
archived_in lost None = false
archived_in lost (Some row) = row.archived && not (is_lost_in lost row.key)
