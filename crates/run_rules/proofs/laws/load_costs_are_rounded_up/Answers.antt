use Rattle.run_rules.proofs.LoadCosts.{is_load_cost}
use Rattle.run_rules.proofs.laws.load_costs_are_rounded_up.Goals as goal

pub returns : goal.returns
returns c = λ base rate bytes cost some. is_load_cost bytes rate some base cost
