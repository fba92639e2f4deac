use Rattle.flow_planner.specs.inner.Network.{AreShown}
use Rattle.flow_planner.proofs.greatest.plan_of.Given as goal

abbrev pub invariant-loop-job : goal.invariant-loop-job
invariant-loop-job l = AreShown l.jobs l.levels.of.items l.marks l.job
