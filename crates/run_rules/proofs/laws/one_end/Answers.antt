use Rattle.run_rules.proofs.NothingFollows.{one_end}
use Rattle.run_rules.proofs.laws.one_end.Goals as goal

pub returns : goal.returns
returns c = λ s f marks one other. one_end s f marks
