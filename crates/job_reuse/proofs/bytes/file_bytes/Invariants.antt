use Rattle.std.proofs.Common.{◌≡◌, take}
use Rattle.job_reuse.specs.Rows.{bytes_of}
use Rattle.job_reuse.proofs.bytes.file_bytes.Given as goal

abbrev pub invariant-loop-found : goal.invariant-loop-found
invariant-loop-found l = l.bytes ≡ bytes_of (take l.found-index l.found-items)
