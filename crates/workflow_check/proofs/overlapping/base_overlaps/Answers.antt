use Rattle.std.proofs.Common.{◌∙◌, ◌∷◌, [], ap, sym}
use Rattle.std.specs.Prelude.{◌||◌}
use Rattle.std.specs.List.{list_any}
use Rattle.type_check.specs.Overlaps.{overlaps}
use Rattle.workflow_check.specs.Types.{kept_type, opened_type}
use Rattle.workflow_check.specs.inner.Seen.{gift_seen, sink_seen}
use Rattle.workflow_check.proofs.Overlap.{some_base, some_base_null}
use Rattle.workflow_check.proofs.overlapping.base_overlaps.Goals as goal

pub returns-then-null_overlaps : goal.returns-then-null_overlaps
returns-then-null_overlaps c =
    let rest = list_any (λ m. overlaps (kept_type c.args.without_null (opened_type c.args.opened (m ∷ []))) (sink_seen c.args.sink)) c.args.given.members.now in
    sym (some_base_null c.args.opened c.args.without_null (gift_seen c.args.given) (sink_seen c.args.sink) c.if-given.true
    ∙ ap (λ b. b || rest) (sym c.null_overlaps.ensures ∙ c.if-null_overlaps.true))

pub returns-then-given : goal.returns-then-given
returns-then-given c =
    let rest = list_any (λ m. overlaps (kept_type c.args.without_null (opened_type c.args.opened (m ∷ []))) (sink_seen c.args.sink)) c.args.given.members.now in
    c.some_part_overlaps.ensures
    ∙ sym (some_base_null c.args.opened c.args.without_null (gift_seen c.args.given) (sink_seen c.args.sink) c.if-given.true
    ∙ ap (λ b. b || rest) (sym c.null_overlaps.ensures ∙ c.if-null_overlaps.false))

pub returns : goal.returns
returns c = c.some_part_overlaps-2.ensures ∙ sym (some_base c.args.opened c.args.without_null (gift_seen c.args.given) (sink_seen c.args.sink) c.if-given.false)
