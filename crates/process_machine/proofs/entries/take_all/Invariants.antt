use Rattle.std.proofs.Common.{take}
use Rattle.process_machine.specs.inner.Taken.{AreTaken}
use Rattle.process_machine.proofs.entries.take_all.Given as goal

-- what was taken under the names so far
abbrev pub invariant-loop-file : goal.invariant-loop-file
invariant-loop-file g l = AreTaken (g.S.Source.there l.source) (take l.file-index l.files) l.found
