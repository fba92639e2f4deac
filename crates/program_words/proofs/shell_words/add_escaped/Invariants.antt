use Rattle.std.proofs.Common.{◌++◌, codes, string_bytes}
use Rattle.std.proofs.Math.Utf8.{encodes}
use Rattle.program_words.specs.ShellWords.{Adds, IsWritten}
use Rattle.program_words.proofs.shell_words.add_escaped.Given as goal

abbrev pub invariant-loop-c : goal.invariant-loop-c
invariant-loop-c l = Adds (IsWritten (encodes l.yielded)) (string_bytes l.fn.line ++ codes "$'") (string_bytes l.line)
