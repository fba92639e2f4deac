use Rattle.std.proofs.Common.{◌∙◌, sym}
use Rattle.run_core.proofs.Reusable.{first_one, none_further, none_left}
use Rattle.run_core.proofs.finding.first_reusable.Goals as goal

pub returns-then-reuse : goal.returns-then-reuse
returns-then-reuse c =
    first_one c.args.known.now c.args.from c.loop-number.number c.index-known-number.result c.loop-number-test.true c.loop-number.auto.number c.loop-number.invariant
    (sym c.reuse.ensures ∙ c.if-reuse.true)

pub loop-number-preserved : goal.loop-number-preserved
loop-number-preserved c =
    none_further c.args.known.now c.args.from c.loop-number.number c.index-known-number.result c.loop-number-test.true c.loop-number.invariant
    (sym c.reuse.ensures ∙ c.if-reuse.false)

pub returns : goal.returns
returns c = none_left c.args.known.now c.args.from c.loop-number.number c.loop-number-test.false c.loop-number.invariant
