use Rattle.std.specs.Prelude.{map}
use Rattle.job_graph.specs.KnownJobs.{known_of}
use Rattle.run_core.specs.inner.JobStates.{NoneReady}
use Rattle.run_core.proofs.job_states.first_ready.Given as goal

abbrev pub invariant-loop-number : goal.invariant-loop-number
invariant-loop-number l = NoneReady l.marks (map known_of l.known) l.states l.number
