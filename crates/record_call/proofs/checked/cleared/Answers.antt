use Rattle.record_call.proofs.RecordLines.{parts_more}
use Rattle.record_call.proofs.checked.cleared.Goals as goal

pub loop-name-preserved : goal.loop-name-preserved
loop-name-preserved g c =
    parts_more c.args.unknown.now c.loop-name.name-index c.name-item.result c.args.remove _ _ _ _ c.loop-name-test.true c.name-item.is c.loop-name.invariant c.in_ok-clear.ensures
