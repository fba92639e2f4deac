use Rattle.job_graph.specs.KnownJobs.{jobs_in}
use Rattle.run_core.specs.inner.Picks.{NoneBetween}
use Rattle.run_core.proofs.finding.first_reusable.Given as goal

abbrev pub invariant-loop-number : goal.invariant-loop-number
invariant-loop-number l = NoneBetween (jobs_in l.known) l.from l.number
