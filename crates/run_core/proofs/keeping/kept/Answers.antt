use Rattle.std.proofs.Common.{sym, subst}
use Rattle.run_core.specs.inner.Due.{KeepsAt}
use Rattle.run_core.proofs.Kept.{kept_none, kept_not, kept_row}
use Rattle.run_core.proofs.keeping.kept.Goals as goal

pub returns-then-not-reuse : goal.returns-then-not-reuse
returns-then-not-reuse c = kept_none c.args.site c.args.reading.now.millis c.args.reading.now.found c.args.outputs c.reuse.result c.reuse.ensures c.if-not-reuse.true

pub returns-then-differs_from : goal.returns-then-differs_from
returns-then-differs_from c =
    kept_not c.args.site c.args.reading.now.millis c.args.reading.now.found c.args.outputs c.reuse.result c.reuse.ensures c.if-not-reuse.false
    (c.differs_from.ensures.0 c.if-differs_from.true)

pub returns-in-Ok : goal.returns-in-Ok
returns-in-Ok c =
    subst (KeepsAt c.args.site c.args.reading.now.millis c.args.reading.now.found c.args.outputs) (sym c.given.ensures)
    (kept_row c.args.site c.args.reading.now.millis c.args.reading.now.found c.args.outputs c.reuse.result c.reuse.ensures c.if-not-reuse.false
    c.outputs_are_the_same_or_not.ensures c.differs_from.result c.differs_from.ensures c.if-differs_from.false c.in-Ok.row c.in-Ok.ensures)
