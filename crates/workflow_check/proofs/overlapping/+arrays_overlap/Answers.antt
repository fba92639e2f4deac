use Rattle.std.proofs.Common.{◌-◌, ◌∙◌, ap, sym}
use Rattle.std.specs.Prelude.{None, ◌||◌}
use Rattle.type_check.specs.Depths.{items_of}
use Rattle.type_check.specs.Levels.{members_at}
use Rattle.type_check.specs.Overlaps.{overlaps}
use Rattle.type_check.proofs.Meets.{array_among}
use Rattle.workflow_check.specs.Types.{base, in_arrays, sink_type}
use Rattle.workflow_check.specs.inner.Seen.{gift_seen}
use Rattle.workflow_check.proofs.Overlap.{peeled, peeled_in}
use Rattle.workflow_check.proofs.overlapping.+arrays_overlap.Goals as goal

pub returns-then-sink : goal.returns-then-sink
returns-then-sink t c =
    let b = base (gift_seen c.args.given) in
    let ms = members_at c.args.sink.kind in
    c.arrays_overlap.ensures ∙ sym (ap (λ s. overlaps (in_arrays c.args.arrays b) (sink_type s ms)) c.if-sink.true ∙ peeled c.args.arrays b ms c.if-arrays-eq0.false)

pub returns-then-has_lists : goal.returns-then-has_lists
returns-then-has_lists t c =
    let b = base (gift_seen c.args.given) in
    let ms = members_at c.args.sink.kind in
    let u = in_arrays (c.args.arrays - 1) b in
    sym (ap (λ s. overlaps (in_arrays c.args.arrays b) (sink_type s ms)) c.if-sink.false ∙ peeled_in c.args.arrays b ms c.if-arrays-eq0.false
    ∙ array_among (record { items = u; binding = None }) ms
    ∙ ap (λ found. found || overlaps u (items_of ms)) (sym c.has_lists.ensures ∙ c.if-has_lists.true))

pub returns : goal.returns
returns t c =
    let b = base (gift_seen c.args.given) in
    let ms = members_at c.args.sink.kind in
    let u = in_arrays (c.args.arrays - 1) b in
    c.arrays_overlap-2.ensures ∙ ap (overlaps u) c.items.ensures
    ∙ sym (ap (λ s. overlaps (in_arrays c.args.arrays b) (sink_type s ms)) c.if-sink.false ∙ peeled_in c.args.arrays b ms c.if-arrays-eq0.false
    ∙ array_among (record { items = u; binding = None }) ms
    ∙ ap (λ found. found || overlaps u (items_of ms)) (sym c.has_lists.ensures ∙ c.if-has_lists.false))
