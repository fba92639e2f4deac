use Rattle.run_rules.proofs.PlacesErased.{keeps_the_value}
use Rattle.run_rules.proofs.laws.delivery_keeps_the_value.Goals as goal

pub returns : goal.returns
returns c = keeps_the_value
