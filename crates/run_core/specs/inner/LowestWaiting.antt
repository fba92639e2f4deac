-- From where on the next job is looked for.
use Rattle.std.specs.Prelude.{◌≤◌, length}
use Rattle.run_core.specs.declared.job_states.JobStates.TheInside.{Inside}
use Rattle.run_core.specs.inner.JobStates.{NoneWaits}

pub record IsLookedFor (held : Inside) : Type 0 where
  pub within : held.lowest ≤ length held.states.items
  pub below : NoneWaits held.states.items held.lowest
