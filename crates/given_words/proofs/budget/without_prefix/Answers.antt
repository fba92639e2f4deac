use Rattle.given_words.proofs.Cuts.{behind_prefix}
use Rattle.given_words.proofs.budget.without_prefix.Goals as goal

pub returns : goal.returns
returns c = behind_prefix c.args.prefix.now c.args.text.now c.strip_prefix.result c.strip_prefix.ensures.cases
