use Rattle.program_words.proofs.ReadOnce.{read_once}
use Rattle.program_words.proofs.laws.text_is_one_word.Goals as goal

pub returns : goal.returns
returns c = read_once
