use Rattle.run_core.proofs.ending.Asking.{has_plans}
use Rattle.run_core.proofs.runner.RunCore.plan_now.Goals as goal

pub returns-in-None-clause-planned : goal.returns-in-None-clause-planned
returns-in-None-clause-planned c = rw (← c.self.view_is) (has_plans c.self.inside c.self.invariant)

pub returns-in-Some-clause-planned : goal.returns-in-Some-clause-planned
returns-in-Some-clause-planned c = rw (← c.self.view_is) (has_plans c.self.inside c.self.invariant)
