use Rattle.given_words.proofs.Cuts.{before_suffix}
use Rattle.given_words.proofs.budget.without_suffix.Goals as goal

pub returns : goal.returns
returns c = before_suffix c.args.suffix.now c.args.text.now c.strip_suffix.result c.strip_suffix.ensures.cases
