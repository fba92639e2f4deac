use Rattle.std.proofs.Common.{◌≡◌, ◌≤◌, ◌-◌, ◌+◌, ℕ, length}
use Rattle.run_core.specs.inner.JobStates.{NoneWaits, loaded_in, missed_in, staged_in}
use Rattle.run_core.proofs.job_states.JobStates.reach.Given as goal

abbrev pub invariant-loop-self : goal.invariant-loop-self
invariant-loop-self l = record {
  same : (folder : ℕ) → staged_in l.number folder l.self-inside.states.items ≡ staged_in l.number folder l.initial.self-inside.states.items;
  loaded : (folder : ℕ) → loaded_in l.number folder l.self-inside.states.items ≡ loaded_in l.number folder l.initial.self-inside.states.items;
  missed : missed_in l.number l.self-inside.states.items ≡ missed_in l.number l.initial.self-inside.states.items;
  within : l.self-inside.lowest ≤ length l.self-inside.states.items;
  below : NoneWaits l.self-inside.states.items l.self-inside.lowest;
}

abbrev pub decreases-loop-self : goal.decreases-loop-self
decreases-loop-self l = l.number + 1 - length l.self-inside.states.items
