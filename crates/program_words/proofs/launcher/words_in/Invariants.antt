use Rattle.std.proofs.Common.{◌≡◌, map}
use Rattle.std.specs.List.{filter}
use Rattle.program_words.specs.Launcher.{is_word}
use Rattle.program_words.proofs.launcher.words_in.Given as goal

abbrev pub invariant-loop-part : goal.invariant-loop-part
invariant-loop-part l = l.words ≡ filter is_word (map (λ s. s.now) l.yielded)
