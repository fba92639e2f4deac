-- The rows that were found, by the numbers of their jobs: a job past the last of these has none.
use Rattle.std.specs.Prelude.{ℕ, suc, zero, List, [], ◌∷◌, Option, Some, None, slice_index_or}
use Rattle.job_rows.specs.declared.row.Row.{Row}
use Rattle.run_rules.specs.declared.request.RecordAnswer.{RecordAnswer}

abbrev pub row_in : List (Option Row) → ℕ → Option Row
row_in rows number = slice_index_or rows number None

-- this row was found for the job of a number
abbrev pub row_set : ℕ → Row → List (Option Row) → List (Option Row)
row_set zero row [] = Some row ∷ []
row_set zero row (before ∷ rows) = Some row ∷ rows
row_set (suc number) row [] = None ∷ row_set number row []
row_set (suc number) row (before ∷ rows) = before ∷ row_set number row rows

-- the record has told this of the job of a number
abbrev pub rows_after : ℕ → RecordAnswer → List (Option Row) → List (Option Row)
rows_after number (RecordAnswer.Found (Some row)) rows = row_set number row rows
rows_after number answer rows = rows
