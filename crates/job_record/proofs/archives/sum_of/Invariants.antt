use Rattle.std.proofs.Common.{◌≡◌, ◌-◌, ◌^◌, min, take}
use Rattle.job_record.specs.inner.Inside.{sum_in}
use Rattle.job_record.proofs.archives.sum_of.Given as goal

abbrev pub invariant-loop-columns : goal.invariant-loop-columns
invariant-loop-columns l = l.sum ≡ min (sum_in (take l.columns-index l.all)) (2 ^ 128 - 1)
