use Rattle.std.proofs.Common.{◌∙◌, true≢false, sym}
use Rattle.run_core.proofs.Loops.{lost_here, lost_later}
use Rattle.run_core.proofs.fetching.is_lost.Goals as goal

pub returns-then-equals : goal.returns-then-equals
returns-then-equals c =
    sym (c.loop-other.invariant
    ∙ lost_here c.args.lost.now c.args.key.now c.loop-other.other-index c.other-item.result c.loop-other-test.true c.other-item.is (c.equals.ensures.0 c.if-equals.true))

pub loop-other-preserved : goal.loop-other-preserved
loop-other-preserved c =
    c.loop-other.invariant
    ∙ lost_later c.args.lost.now c.args.key.now c.loop-other.other-index c.other-item.result c.loop-other-test.true c.other-item.is
    (λ same. true≢false (sym (c.equals.ensures.1 same) ∙ c.if-equals.false))
