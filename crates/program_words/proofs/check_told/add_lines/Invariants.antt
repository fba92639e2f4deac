use Rattle.std.proofs.Common.{◌≡◌, ◌++◌, take, string_bytes}
use Rattle.program_words.specs.CheckLines.{lines_of}
use Rattle.program_words.proofs.check_told.add_lines.Given as goal

abbrev pub invariant-loop-name : goal.invariant-loop-name
invariant-loop-name l = string_bytes l.lines ≡ string_bytes l.fn.lines ++ lines_of l.word (take l.name-index l.names)
