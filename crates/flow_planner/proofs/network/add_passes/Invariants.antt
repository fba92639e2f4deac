use Rattle.flow_planner.specs.inner.Network.{IsPartBuilt}
use Rattle.flow_planner.proofs.network.add_passes.Given as goal

abbrev pub invariant-loop-slot : goal.invariant-loop-slot
invariant-loop-slot l = IsPartBuilt l.vertices l.start l.job l.slot l.network
