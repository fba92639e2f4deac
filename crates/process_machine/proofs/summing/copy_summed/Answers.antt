use Rattle.process_machine.proofs.SummedCopy.{copied_all, so_far_more, so_far_none}
use Rattle.process_machine.proofs.summing.copy_summed.Goals as goal

pub loop-init : goal.loop-init
loop-init g c = (rw c.in_ok-block.ensures.len c.block_length.ensures, so_far_none _ _ _ c.new-hasher.ensures)

pub returns-then-count-eq0 : goal.returns-then-count-eq0
returns-then-count-eq0 g c = copied_all _ _ _ _ _ _ _ _ _ _ _ c.loop.invariant.1 c.in_ok-count.ensures c.if-count-eq0.true c.in_ok-finished.ensures

pub loop-preserved : goal.loop-preserved
loop-preserved g c = (c.loop.invariant.0, rw c.in_ok-size.ensures (so_far_more _ _ _ _ _ _ _ _ _ _ c.loop.invariant.1 c.in_ok-count.ensures))
