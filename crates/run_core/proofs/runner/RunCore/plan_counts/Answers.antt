use Rattle.run_core.proofs.ending.Asking.{has_counted}
use Rattle.run_core.proofs.runner.RunCore.plan_counts.Goals as goal

pub returns : goal.returns
returns c = rw (← c.self.view_is) (has_counted c.self.inside c.self.invariant)
