use Rattle.std.proofs.Common.{arith, refl}
use Rattle.workflow_check.proofs.Indexed.{all_lent, lent_more, no_lent}
use Rattle.workflow_check.proofs.index.values_of.Goals as goal

pub loop-entry-init : goal.loop-entry-init
loop-entry-init g c = no_lent c.new-values.result c.args.entries.now c.new-values.ensures.empty

pub loop-entry-preserved : goal.loop-entry-preserved
loop-entry-preserved g c =
    lent_more c.args.entries.now c.loop-entry.entry-index c.loop-entry.values c.put_new.new.values c.entry-item.result _ refl c.loop-entry-test.true c.entry-item.is c.in_ok-put_new.ensures c.loop-entry.invariant

pub returns : goal.returns
returns g c = all_lent c.args.entries.now c.loop-entry.entry-index c.loop-entry.values (omega arith) c.loop-entry.invariant
