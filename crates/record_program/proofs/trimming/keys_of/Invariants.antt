use Rattle.std.proofs.Common.{◌≡◌, take}
use Rattle.job_rows.specs.Map.{keys_in}
use Rattle.record_program.proofs.trimming.keys_of.Given as goal

abbrev pub invariant-loop-archive : goal.invariant-loop-archive
invariant-loop-archive l = l.keys ≡ keys_in (take l.archive-index l.archives)
