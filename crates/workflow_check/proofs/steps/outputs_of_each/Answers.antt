use Rattle.std.proofs.Common.{arith}
use Rattle.workflow_check.proofs.Indexed.{all_mapped, map_more, none_mapped}
use Rattle.workflow_check.proofs.steps.outputs_of_each.Goals as goal

pub loop-entry-init : goal.loop-entry-init
loop-entry-init c = none_mapped c.new-outputs.result c.args.entries.now c.new-outputs.ensures.empty

pub loop-entry-preserved : goal.loop-entry-preserved
loop-entry-preserved c =
    map_more c.args.entries.now c.loop-entry.entry-index c.loop-entry.outputs c.put_new.new.values c.entry-item.result _ c.in_ok-given.ensures c.loop-entry-test.true c.entry-item.is c.in_ok-put_new.ensures c.loop-entry.invariant

pub returns : goal.returns
returns c = all_mapped c.args.entries.now c.loop-entry.entry-index c.loop-entry.outputs (omega arith) c.loop-entry.invariant
