use Rattle.std.proofs.Common.{◌≡◌}
use Rattle.workflow_engine.specs.inner.Held.{Covers}
use Rattle.workflow_engine.proofs.tickets.close_all.Given as goal

abbrev pub invariant-loop-ticket : goal.invariant-loop-ticket
invariant-loop-ticket g l =
    (g.H.Host.log l.host ≡ g.H.Host.log l.initial.host) × Covers l.held.items (g.H.Host.running l.host)

abbrev pub decreases-loop-ticket : goal.decreases-loop-ticket
decreases-loop-ticket g l = goal.left-loop-ticket g l
