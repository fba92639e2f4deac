use Rattle.std.proofs.Common.{take, string_bytes}
use Rattle.program_words.specs.ShellWords.{AreRead, IsShown}
use Rattle.program_words.proofs.shell_words.words_of.Given as goal

abbrev pub invariant-loop-index : goal.invariant-loop-index
invariant-loop-index l = record { read : AreRead (take l.index l.words) (string_bytes l.line); shown : IsShown (string_bytes l.line) }
