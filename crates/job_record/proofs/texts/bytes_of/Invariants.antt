use Rattle.std.proofs.Common.{◌≡◌, min, take}
use Rattle.std.specs.Prelude.{sum_by}
use Rattle.job_rows.specs.Map.{greatest_number}
use Rattle.job_record.proofs.texts.bytes_of.Given as goal

abbrev pub invariant-loop-file : goal.invariant-loop-file
invariant-loop-file l = min l.bytes greatest_number ≡ min (sum_by (λ file. file.size) (take l.file-index l.file-items)) greatest_number
