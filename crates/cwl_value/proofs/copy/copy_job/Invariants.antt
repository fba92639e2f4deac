use Rattle.std.proofs.Common.{◌≡◌, take}
use Rattle.cwl_value.proofs.copy.copy_job.Given as goal

abbrev pub invariant-loop-segment : goal.invariant-loop-segment
invariant-loop-segment l = l.copies ≡ take l.segment-index l.segment-items
