use Rattle.std.proofs.Common.{◌≡◌, take}
use Rattle.command_line.proofs.words.base_words.Given as goal

abbrev pub invariant-loop-word : goal.invariant-loop-word
invariant-loop-word l = l.words.items ≡ take l.word-index l.base
