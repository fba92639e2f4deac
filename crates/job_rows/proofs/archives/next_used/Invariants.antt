use Rattle.std.proofs.Common.{◌≡◌, max, drop}
use Rattle.job_rows.specs.Map.{greatest_used}
use Rattle.job_rows.proofs.archives.next_used.Given as goal

abbrev pub invariant-loop-archive : goal.invariant-loop-archive
invariant-loop-archive l = max l.greatest (greatest_used (drop l.archive-index l.archives)) ≡ greatest_used l.archives
