use Rattle.plan_checker.proofs.SomeLeast.{each_has_least}
use Rattle.plan_checker.proofs.laws.each_has_least.Goals as goal

pub returns : goal.returns
returns c = each_has_least
