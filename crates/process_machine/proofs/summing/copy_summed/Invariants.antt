use Rattle.std.proofs.Common.{◌<◌, vec_len}
use Rattle.process_machine.proofs.SummedCopy.{IsSoFar}
use Rattle.process_machine.proofs.summing.copy_summed.Given as goal

-- what was read so far was written and is what the sum is made of
abbrev pub invariant-loop : goal.invariant-loop
invariant-loop g l =
    (0 < vec_len l.block) × IsSoFar (g.F.Read.remaining l.fn.reader) (g.F.Read.remaining l.reader) (g.W.Write.contents l.fn.writer) (g.W.Write.contents l.writer) l.hasher l.size
