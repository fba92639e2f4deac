use Rattle.program_words.proofs.ReadOnce.{line_once}
use Rattle.program_words.proofs.laws.line_is_one_command.Goals as goal

pub returns : goal.returns
returns c = line_once
