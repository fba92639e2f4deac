use Rattle.flow_planner.specs.inner.Network.{IsBuilt}
use Rattle.flow_planner.proofs.network.network_of.Given as goal

abbrev pub invariant-loop-job : goal.invariant-loop-job
invariant-loop-job l = IsBuilt l.vertices l.start l.job l.network
