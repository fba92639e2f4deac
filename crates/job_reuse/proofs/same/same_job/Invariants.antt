use Rattle.std.proofs.Common.{◌≡◌, take}
use Rattle.job_reuse.proofs.same.same_job.Given as goal

abbrev pub invariant-loop-index : goal.invariant-loop-index
invariant-loop-index l = take l.index l.segment-items ≡ take l.index l.those
