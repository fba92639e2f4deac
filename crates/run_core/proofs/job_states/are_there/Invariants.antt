use Rattle.std.specs.List.{list_all}
use Rattle.std.proofs.Common.{◌≡◌, drop}
use Rattle.run_core.specs.inner.JobStates.{is_there}
use Rattle.run_core.proofs.job_states.are_there.Given as goal

abbrev pub invariant-loop-job : goal.invariant-loop-job
invariant-loop-job l = list_all (is_there l.states) l.fn.jobs ≡ list_all (is_there l.states) (drop l.job-index l.jobs)
