use Rattle.std.proofs.Common.{refl}
use Rattle.run_rules.proofs.Fronts.{each_front}
use Rattle.run_rules.proofs.laws.plans_followed_are_cheapest.Goals as goal

pub returns : goal.returns
returns c = λ setting front rest f plans goes. each_front setting goes front rest refl
