use Rattle.std.proofs.Common.{◌≡◌, fold, take}
use Rattle.job_graph.specs.inner.Marks.{mixed}
use Rattle.job_graph.proofs.mark.of_text.Given as goal

abbrev pub invariant-loop-byte : goal.invariant-loop-byte
invariant-loop-byte l = l.mark ≡ fold mixed l.start (take l.byte-index l.byte-items)
