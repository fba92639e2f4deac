-- The row that is put of a job, and its files.
use Rattle.std.specs.Prelude.{◌↔◌, ℕ, ◌-◌, ◌^◌, max, min, Bool, List, Contains, sum_by}
use Rattle.cwl_value.specs.declared.value.Value.{Value}
use Rattle.job_rows.specs.declared.row.Row.{Row}
use Rattle.plan_checker.specs.declared.graph.TheConstants.{MOST_COST}
use Rattle.staging.specs.declared.found.Found.{Found}

-- milliseconds as a cost: 1 at least, and at most what a plan takes
abbrev pub held : ℕ → ℕ
held millis = max 1 (min millis MOST_COST)

abbrev pub made_row : List ℕ → List (List ℕ × Value) → List Found → ℕ → Bool → Row
made_row key outputs files millis archived = record { key = key; outputs = outputs; files = files; cost = held millis; archived = archived }

-- the bytes of the files in all, held to the greatest number of 64 bits
abbrev pub bytes_of : List Found → ℕ
bytes_of files = min (sum_by (λ f. f.size) files) (2 ^ 64 - 1)

-- the same files and folders: of the same names, kinds, sizes and sums, in whatever order
abbrev pub AreTheSame : List Found → List Found → Type 0
AreTheSame files fetched = (f : Found) → Contains files f ↔ Contains fetched f
