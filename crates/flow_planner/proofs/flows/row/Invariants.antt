use Rattle.flow_planner.specs.inner.Network.{IsRow}
use Rattle.flow_planner.proofs.flows.row.Given as goal

abbrev pub invariant-loop-parent : goal.invariant-loop-parent
invariant-loop-parent l = IsRow l.network.arcs.items l.first l.row.items l.parent
