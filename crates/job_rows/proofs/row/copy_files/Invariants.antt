use Rattle.std.proofs.Common.{◌≡◌, take}
use Rattle.job_rows.proofs.row.copy_files.Given as goal

abbrev pub invariant-loop-found : goal.invariant-loop-found
invariant-loop-found l = l.copies ≡ take l.found-index l.files
