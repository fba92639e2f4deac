use Rattle.std.proofs.Common.{◌∙◌, ap, sym, map}
use Rattle.std.specs.Prelude.{None, ◌||◌}
use Rattle.std.specs.List.{flat_map}
use Rattle.type_check.specs.Depths.{items_of}
use Rattle.type_check.specs.Levels.{members_at}
use Rattle.type_check.specs.Overlaps.{overlaps}
use Rattle.type_check.proofs.Meets.{array_among}
use Rattle.workflow_check.specs.Scope.{gift}
use Rattle.workflow_check.specs.Types.{part_of}
use Rattle.workflow_check.proofs.Overlap.{union_by_one}
use Rattle.workflow_check.proofs.overlapping.list_overlaps.Goals as goal

pub returns-then-has_lists : goal.returns-then-has_lists
returns-then-has_lists c =
    let u = flat_map (part_of c.args.form) (map (gift c.args.scope.inputs.now c.args.scope.steps.now) c.args.sources.now) in
    let ms = members_at c.args.kind in
    sym (array_among (record { items = u; binding = None }) ms ∙ ap (λ found. found || overlaps u (items_of ms)) (sym c.has_lists.ensures ∙ c.if-has_lists.true))

pub returns : goal.returns
returns c =
    let g = gift c.args.scope.inputs.now c.args.scope.steps.now in
    let u = flat_map (part_of c.args.form) (map g c.args.sources.now) in
    let ms = members_at c.args.kind in
    c.union_overlaps.ensures ∙ sym (union_by_one c.args.form g (members_at c.items.result) c.args.sources.now)
    ∙ ap (overlaps u) c.items.ensures
    ∙ sym (array_among (record { items = u; binding = None }) ms ∙ ap (λ found. found || overlaps u (items_of ms)) (sym c.has_lists.ensures ∙ c.if-has_lists.false))
