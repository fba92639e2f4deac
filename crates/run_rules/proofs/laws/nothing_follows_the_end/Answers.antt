use Rattle.run_rules.proofs.NothingFollows.{over}
use Rattle.run_rules.proofs.laws.nothing_follows_the_end.Goals as goal

pub returns : goal.returns
returns c = λ s f marks end request. over s f marks request
