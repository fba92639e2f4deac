use Rattle.std.proofs.Common.{◌∙◌, ap, sym, map}
use Rattle.std.specs.List.{flat_map}
use Rattle.type_check.specs.Levels.{members_at}
use Rattle.type_check.specs.Overlaps.{overlaps}
use Rattle.workflow_check.specs.Scope.{gift}
use Rattle.workflow_check.specs.Types.{in_array, link_type, part_of, sink_type}
use Rattle.workflow_check.specs.inner.Seen.{sink_seen}
use Rattle.workflow_check.proofs.Overlap.{arrays_meet, listed, listed_in, not_listed, union_by_one}
use Rattle.workflow_check.proofs.overlapping.sources_overlap.Goals as goal

pub returns-then-sink : goal.returns-then-sink
returns-then-sink c =
    let g = gift c.args.scope.inputs.now c.args.scope.steps.now in
    let form = c.form_of-form.result in
    let kind = members_at c.args.sink.kind in
    let u = flat_map (part_of form) (map g c.args.sources.now) in
    c.union_overlaps.ensures ∙ sym (union_by_one form g kind c.args.sources.now)
    ∙ sym (arrays_meet u kind)
    ∙ sym (ap (λ s. overlaps (in_array u) (sink_type s kind)) c.if-sink.true)
    ∙ sym (listed form (map g c.args.sources.now) (sink_seen c.args.sink) c.if-form.true)
    ∙ ap (λ f. overlaps (link_type f (map g c.args.sources.now)) (sink_seen c.args.sink)) c.form_of-form.ensures

pub returns-then-form : goal.returns-then-form
returns-then-form c =
    let g = gift c.args.scope.inputs.now c.args.scope.steps.now in
    let form = c.form_of-form.result in
    let kind = members_at c.args.sink.kind in
    let u = flat_map (part_of form) (map g c.args.sources.now) in
    c.list_overlaps.ensures ∙ listed_in u kind
    ∙ sym (ap (λ s. overlaps (in_array u) (sink_type s kind)) c.if-sink.false)
    ∙ sym (listed form (map g c.args.sources.now) (sink_seen c.args.sink) c.if-form.true)
    ∙ ap (λ f. overlaps (link_type f (map g c.args.sources.now)) (sink_seen c.args.sink)) c.form_of-form.ensures

pub returns : goal.returns
returns c =
    let g = gift c.args.scope.inputs.now c.args.scope.steps.now in
    let form = c.form_of-form.result in
    c.union_overlaps-2.ensures ∙ sym (union_by_one form g (sink_seen c.args.sink) c.args.sources.now)
    ∙ sym (not_listed form (map g c.args.sources.now) (sink_seen c.args.sink) c.if-form.false)
    ∙ ap (λ f. overlaps (link_type f (map g c.args.sources.now)) (sink_seen c.args.sink)) c.form_of-form.ensures
