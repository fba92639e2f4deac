use Rattle.run_core.proofs.ending.Asking.{may_ask, waits_for_one}
use Rattle.run_core.proofs.runner.RunCore.next.Goals as goal

pub returns-clause-flying : goal.returns-clause-flying
returns-clause-flying c = rw (← c.self.view_is) (waits_for_one c.self.inside c.self.invariant)

pub returns-clause-allowed : goal.returns-clause-allowed
returns-clause-allowed c = rw (← c.self.view_is) (may_ask c.self.inside c.self.invariant)
