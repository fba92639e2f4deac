use Rattle.std.proofs.Common.{◌≡◌}
use Rattle.flow_planner.specs.Network.{first_arc}
use Rattle.flow_planner.specs.inner.Network.{AreFlows}
use Rattle.flow_planner.proofs.flows.flows.Given as goal

abbrev pub invariant-loop-vertex : goal.invariant-loop-vertex
invariant-loop-vertex l = record {
  amounts : AreFlows l.vertices l.network.arcs.items l.place l.amounts.items l.vertex-index;
  first : l.first ≡ first_arc l.vertices l.vertex-index;
}
