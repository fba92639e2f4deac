use Rattle.std.proofs.Common.{refl, sym, ◌∙◌, arith, rules}
use Rattle.file_values.proofs.Summing.{so_far_none, so_far_more, fits_more, sums_all, memory_wanting, on_ok, bound_met}
use Rattle.file_values.proofs.sum.sum_of.Goals as goal

pub loop-size-init : goal.loop-size-init
loop-size-init g c = (search rules, omega arith, so_far_none _ _ c.new-hasher.ensures, refl)

pub loop-size-preserved : goal.loop-size-preserved
loop-size-preserved g c =
    (search rules, fits_more c.loop-size.size c.in_ok-count.count _ c.in_ok-count.ensures.ok.fits c.loop-size.invariant.1, so_far_more _ _ _ _ _ _ _ _ c.loop-size.invariant.2 c.in_ok-count.ensures.ok, c.loop-size.invariant.3 ∙ c.in_ok-count.ensures.before ∙ sym c.in_ok-count.ensures.after)

pub returns-then-count-eq0-clause-ok : goal.returns-then-count-eq0-clause-ok
returns-then-count-eq0-clause-ok g c =
    sums_all _ _ _ _ _ _ _ _ c.finished.result c.loop-size.invariant.2 c.in_ok-count.ensures.ok c.if-count-eq0.true c.finished.ensures.ok

pub returns-then-count-eq0-clause-whole : goal.returns-then-count-eq0-clause-whole
returns-then-count-eq0-clause-whole g c = on_ok c.finished.result _ (c.loop-size.invariant.3 ∙ c.in_ok-count.ensures.before, c.in_ok-count.ensures.after)

pub returns-then-count-eq0-clause-err : goal.returns-then-count-eq0-clause-err
returns-then-count-eq0-clause-err g c = memory_wanting _ _ _ c.finished.result c.finished.ensures.err

pub returns-clause-err : goal.returns-clause-err
returns-clause-err g c = bound_met _ _ _ c.loop-size.size _ c.loop-size.invariant.2 c.loop-size.invariant.1 c.loop-size-test.false
