use Rattle.std.proofs.Common.{arith}
use Rattle.plan_checker.proofs.ReadRows.{lengths_more, pair_read, too_few_pairs, line_goes_on, pairs_pushed}
use Rattle.plan_checker.proofs.row.read_pairs.Goals as goal

pub returns-in_default : goal.returns-in_default
returns-in_default c =
    let counted = c.loop.invariant.counted in
    let more = c.loop-test.true in
    too_few_pairs c.args.text.now c.args.count _ _ _ c.loop.invariant.one_each c.loop.invariant.read (omega arith) c.in_default.ensures

pub loop-preserved : goal.loop-preserved
loop-preserved c = record {
  counted = pairs_pushed _ _ _ c.loop.counter c.loop.invariant.counted c.in_ok-push.ensures.ok;
  one_each = lengths_more _ _ _ _ _ _ c.loop.invariant.one_each c.in_ok-push.ensures.ok c.in_ok-push-2.ensures.ok;
  read = pair_read _ _ _ _ _ _ _ _ _ c.loop.invariant.one_each c.loop.invariant.read c.in-Some.ensures c.in_ok-push.ensures.ok c.in_ok-push-2.ensures.ok;
}

pub returns-in_default-after : goal.returns-in_default-after
returns-in_default-after c =
    let counted = c.loop.invariant.counted in
    line_goes_on c.args.text.now c.args.count _ _ _ c.as_slice.result.now c.loop.invariant.one_each c.loop.invariant.read (omega arith) c.as_slice.ensures c.in_default-after.ensures
