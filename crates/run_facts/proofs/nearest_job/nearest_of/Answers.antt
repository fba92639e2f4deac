use Rattle.std.proofs.Common.{◌≡◌, Some, arith, length, refl, slice_get}
use Rattle.std.proofs.lemmas.Option.{slice_get_read}
use Rattle.run_facts.proofs.BestSoFar.{best_more, found_row, never_lost, no_row}
use Rattle.run_facts.proofs.nearest_job.nearest_of.Goals as goal

pub loop-index-preserved : goal.loop-index-preserved
loop-index-preserved c =
    let rows = c.args.rows.now in
    let i = c.loop-index.index in
    let row = c.index-rows-index.result in
    let there : slice_get rows i ≡ Some row = slice_get_read rows (length rows) i row refl (omega arith) c.index-rows-index.is in
    rw c.nearer-best.ensures (best_more c.args.alike c.args.own.now rows i row there c.loop-index.best c.distance.result c.distance.ensures.some c.distance.ensures.none c.loop-index.invariant)
