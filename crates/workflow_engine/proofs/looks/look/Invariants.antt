use Rattle.std.proofs.Common.{◌≡◌}
use Rattle.run_core.specs.Core.{IsAtRest}
use Rattle.workflow_engine.specs.inner.Looks.{Looks}
use Rattle.workflow_engine.proofs.looks.look.Given as goal

abbrev pub invariant-loop-host : goal.invariant-loop-host
invariant-loop-host g l = record {
  looks : Looks (g.H.Host.log l.initial.host) (g.H.Host.log l.host) (g.R.Record.log l.initial.rows) (g.R.Record.log l.rows) (g.R.Record.is_sound l.initial.rows)
      (g.R.Record.is_sound l.rows) (g.R.Record.holds l.initial.rows) (g.R.Record.holds l.rows) l.initial.core l.core;
  running : g.H.Host.running l.host ≡ g.H.Host.running l.initial.host;
  rest : IsAtRest l.core;
}

abbrev pub decreases-loop-host : goal.decreases-loop-host
decreases-loop-host g l = l.core.steps_left
