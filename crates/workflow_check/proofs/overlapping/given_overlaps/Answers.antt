use Rattle.std.proofs.Common.{◌∙◌, ap, sym}
use Rattle.type_check.specs.Overlaps.{overlaps}
use Rattle.workflow_check.specs.Types.{base}
use Rattle.workflow_check.specs.inner.Seen.{gift_seen, sink_seen}
use Rattle.workflow_check.proofs.Overlap.{closed_part, opened_more, opened_once}
use Rattle.workflow_check.proofs.overlapping.given_overlaps.Goals as goal

pub returns-then-given-eq1 : goal.returns-then-given-eq1
returns-then-given-eq1 c =
    c.base_overlaps-then-given-eq1.ensures
    ∙ sym (ap (λ ms. overlaps ms (sink_seen c.args.sink)) (opened_once c.args.form c.args.given.arrays (base (gift_seen c.args.given)) c.if-given-eq1.true c.if-form.true))

pub returns-then-form : goal.returns-then-form
returns-then-form c =
    c.arrays_overlap.ensures
    ∙ sym (ap (λ ms. overlaps ms (sink_seen c.args.sink)) (opened_more c.args.form c.args.given.arrays (base (gift_seen c.args.given)) c.if-given-eq0.false c.if-given-eq1.false c.if-form.true))

pub returns : goal.returns
returns c =
    c.arrays_overlap-2.ensures
    ∙ sym (ap (λ ms. overlaps ms (sink_seen c.args.sink)) (closed_part c.args.form c.args.given.arrays (base (gift_seen c.args.given)) c.if-given-eq0.false c.if-form.false))
