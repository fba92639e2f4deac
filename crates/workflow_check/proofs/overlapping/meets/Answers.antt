use Rattle.std.proofs.Common.{◌∙◌, ◌∷◌, [], ap, sym}
use Rattle.type_check.specs.Levels.{members_at}
use Rattle.type_check.specs.Overlaps.{overlaps}
use Rattle.workflow_check.specs.Types.{sink_type}
use Rattle.workflow_check.proofs.Overlap.{one, one_with_array}
use Rattle.workflow_check.proofs.overlapping.meets.Goals as goal

pub returns-then-sink : goal.returns-then-sink
returns-then-sink c =
    c.meets_list.ensures ∙ sym (one_with_array c.args.member.now (members_at c.args.sink.kind))
    ∙ sym (ap (λ s. overlaps (c.args.member.now ∷ []) (sink_type s (members_at c.args.sink.kind))) c.if-sink.true)

pub returns-else-sink : goal.returns-else-sink
returns-else-sink c =
    c.meets.ensures ∙ sym (one c.args.member.now (members_at c.args.sink.kind))
    ∙ sym (ap (λ s. overlaps (c.args.member.now ∷ []) (sink_type s (members_at c.args.sink.kind))) c.if-sink.false)
