use Rattle.std.proofs.Common.{◌≡◌, [], ◌∷◌, ◌++◌, string_bytes}
use Rattle.std.specs.List.{flat_map}
use Rattle.program_words.proofs.ShellWords.{in_quotes}
use Rattle.program_words.proofs.shell_words.add_quoted.Given as goal

abbrev pub invariant-loop-c : goal.invariant-loop-c
invariant-loop-c l = string_bytes l.line ≡ (string_bytes l.fn.line ++ 39 ∷ []) ++ flat_map in_quotes l.yielded
