use Rattle.std.proofs.Common.{◌≡◌, ◌++◌, string_bytes, take}
use Rattle.program_words.specs.Progress.{text_of}
use Rattle.program_words.proofs.progress.add_chars.Given as goal

abbrev pub invariant-loop-c : goal.invariant-loop-c
invariant-loop-c l = string_bytes l.text ≡ string_bytes l.fn.text ++ text_of (take l.c-index l.chars)
