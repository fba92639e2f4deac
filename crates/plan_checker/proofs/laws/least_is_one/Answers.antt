use Rattle.plan_checker.proofs.OneLeast.{least_plans_are_equal}
use Rattle.plan_checker.proofs.laws.least_is_one.Goals as goal

pub returns : goal.returns
returns c = least_plans_are_equal
