use Rattle.plan_checker.proofs.Duality.{certificate_is_cheapest}
use Rattle.plan_checker.proofs.laws.certificates_are_cheapest.Goals as goal

pub returns : goal.returns
returns c = certificate_is_cheapest
