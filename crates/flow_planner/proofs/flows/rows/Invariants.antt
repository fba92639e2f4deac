use Rattle.std.proofs.Common.{◌≡◌}
use Rattle.flow_planner.specs.Network.{first_arc}
use Rattle.flow_planner.specs.inner.Network.{AreRows}
use Rattle.flow_planner.proofs.flows.rows.Given as goal

abbrev pub invariant-loop-vertex : goal.invariant-loop-vertex
invariant-loop-vertex l = record {
  rows : AreRows l.vertices l.network.arcs.items l.rows.items l.vertex-index;
  first : l.first ≡ first_arc l.vertices l.vertex-index;
}
