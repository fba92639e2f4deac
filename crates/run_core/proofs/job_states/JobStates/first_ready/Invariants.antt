use Rattle.std.proofs.Common.{◌≡◌, ◌≤◌, ◌-◌, length}
use Rattle.run_core.specs.inner.JobStates.{NoneWaits}
use Rattle.run_core.proofs.job_states.JobStates.first_ready.Given as goal

abbrev pub invariant-loop-self : goal.invariant-loop-self
invariant-loop-self l = record {
  same : l.self-inside.states ≡ l.initial.self-inside.states;
  within : l.self-inside.lowest ≤ length l.self-inside.states.items;
  below : NoneWaits l.self-inside.states.items l.self-inside.lowest;
}

abbrev pub decreases-loop-self : goal.decreases-loop-self
decreases-loop-self l = length l.self-inside.states.items - l.self-inside.lowest
