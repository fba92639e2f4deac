use Rattle.std.proofs.Common.{arith}
use Rattle.workflow_check.proofs.Indexed.{all_held, none_held, set_more}
use Rattle.workflow_check.proofs.texts.held_of.Goals as goal

pub loop-text-init : goal.loop-text-init
loop-text-init c = none_held c.new-held.result c.args.texts.now c.new-held.ensures.empty

pub loop-text-preserved : goal.loop-text-preserved
loop-text-preserved c =
    set_more c.args.texts.now c.loop-text.text-index c.loop-text.held c.insert.new.self c.as_str.result c.text-item.result c.as_str.ensures.bytes c.loop-text-test.true c.text-item.is c.in_ok-insert.ensures.updates c.loop-text.invariant

pub returns : goal.returns
returns c = all_held c.args.texts.now c.loop-text.text-index c.loop-text.held (omega arith) c.loop-text.invariant
