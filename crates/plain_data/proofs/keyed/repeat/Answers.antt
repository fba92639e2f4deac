use Rattle.std.proofs.Common.{arith, ap, sym, ◌∙◌}
use mathlib.Core.Bool.{false≢true}
use Rattle.plain_data.proofs.Once.{unrepeated_more}
use Rattle.plain_data.proofs.keyed.repeat.Goals as goal

pub loop-index-preserved : goal.loop-index-preserved
loop-index-preserved g c =
    unrepeated_more _ c.loop-index.index _ _ c.loop-index.invariant (omega arith) (omega arith) c.index-entries-index.is c.index-entries-index-in-loop-index.is
    (λ same. false≢true (c.if-equals.ensures.1 (ap (λ e. e.0) (sym c.index-entries-index.is) ∙ same ∙ ap (λ e. e.0) c.index-entries-index-in-loop-index.is)))
