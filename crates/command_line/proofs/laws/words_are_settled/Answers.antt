use Rattle.command_line.proofs.Settled.{words_same}
use Rattle.command_line.proofs.laws.words_are_settled.Goals as goal

pub returns : goal.returns
returns c = words_same
