use Rattle.std.proofs.Common.{◌≡◌, ◌++◌, take}
use Rattle.program_words.proofs.launcher.add_words.Given as goal

-- the words so far stand behind those that were there
abbrev pub invariant-loop-word : goal.invariant-loop-word
invariant-loop-word l = l.words ≡ l.fn.words ++ take l.word-index l.more
