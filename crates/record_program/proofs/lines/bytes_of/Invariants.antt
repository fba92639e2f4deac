use Rattle.std.proofs.Common.{◌≡◌, take}
use Rattle.record_program.specs.Lines.{bytes_of}
use Rattle.record_program.proofs.lines.bytes_of.Given as goal

abbrev pub invariant-loop-found : goal.invariant-loop-found
invariant-loop-found l = l.bytes ≡ bytes_of (take l.found-index l.files)
