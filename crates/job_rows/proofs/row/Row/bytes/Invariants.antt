use Rattle.std.proofs.Common.{◌≡◌, min, take}
use Rattle.std.specs.Prelude.{sum_by}
use Rattle.job_rows.specs.Map.{greatest_number}
use Rattle.job_rows.proofs.row.Row.bytes.Given as goal

abbrev pub invariant-loop-found : goal.invariant-loop-found
invariant-loop-found l = min l.bytes greatest_number ≡ min (sum_by (λ file. file.size) (take l.found-index l.found-items)) greatest_number
