use Rattle.std.proofs.Common.{take, string_bytes}
use Rattle.program_words.specs.ShellWords.{Adds, IsWritten}
use Rattle.program_words.proofs.shell_words.add_bytes.Given as goal

abbrev pub invariant-loop-byte : goal.invariant-loop-byte
invariant-loop-byte l = Adds (IsWritten (take l.byte-index l.byte-items)) (string_bytes l.fn.line) (string_bytes l.line)
