use Rattle.plan_checker.proofs.Duality.{value-le-cost}
use Rattle.plan_checker.proofs.laws.charges_bound_costs.Goals as goal

pub returns : goal.returns
returns c = value-le-cost
