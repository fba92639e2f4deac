use Rattle.std.proofs.Common.{◌≡◌, take}
use Rattle.end_words.specs.Failures as spec
use Rattle.end_words.proofs.failures.failed_jobs.Given as goal

abbrev pub invariant-loop-ended : goal.invariant-loop-ended
invariant-loop-ended l = l.tickets.items ≡ spec.failed_jobs l.process l.last (take l.ended-index l.ends)
