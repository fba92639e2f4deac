use Rattle.std.proofs.Common.{get_or, refl, arith}
use Rattle.plan_keeper.proofs.Remarked.{remarked_more}
use Rattle.plan_keeper.proofs.kept.remark_all.Goals as goal

pub loop-place-preserved : goal.loop-place-preserved
loop-place-preserved c =
    let there = c.requires.there c.loop-place.place 0 c.loop-place-test.true in
    let all = c.requires.counted in
    let kept = c.loop-place.invariant.count in
    remarked_more c.args.graph.now c.args.marks.now.items c.loop-place.marks.items c.args.numbers.now c.loop-place.place
    (get_or c.args.numbers.now c.loop-place.place 0) c.mark_now.result c.loop-place.invariant refl (omega arith) c.mark_now.ensures
