use Rattle.std.proofs.Common.{◌≡◌, true, drop, length, map}
use Rattle.std.specs.Prelude.{◌-◌}
use Rattle.job_graph.specs.KnownJobs.{jobs_in}
use Rattle.job_graph.specs.inner.Outputs.{are_learned}
use Rattle.job_graph.specs.inner.Views.{resolved_of}
use Rattle.job_graph.proofs.outcome.are_learned.Given as goal

abbrev pub invariant-loop-back : goal.invariant-loop-back
invariant-loop-back l = are_learned (map resolved_of l.learned) (jobs_in (drop (length l.known - l.back) l.known)) ≡ true
