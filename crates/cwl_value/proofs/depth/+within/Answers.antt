use Rattle.std.proofs.Common.{[], ◌∷◌, ◌++◌, append_assoc, sym, ap, ◌∙◌}
use Rattle.std.proofs.lemmas.Bool.{leb-true}
use Rattle.serde_json.specs.Data.{depth}
use Rattle.serde_json.specs.View.{view}
use Rattle.cwl_value.proofs.JsonReads.{Entry}
use Rattle.cwl_value.proofs.JsonDepths.{items_more, members_push, item_over, member_over}
use Rattle.cwl_value.proofs.depth.+within.Goals as goal

pub items_nest_within-returns-then-not-nests_within : goal.items_nest_within-returns-then-not-nests_within
items_nest_within-returns-then-not-nests_within t c =
    rw (← c.deref-item-items.ensures.value)
    (item_over c.deref-item-items.result.now c.loop-item.item-index c.item-item.result c.args.levels c.loop-item-test.true c.item-item.is (sym c.nests_within.ensures ∙ c.if-not-nests_within.true))

pub items_nest_within-loop-item-preserved : goal.items_nest_within-loop-item-preserved
items_nest_within-loop-item-preserved t c =
    items_more c.deref-item-items.result.now c.loop-item.item-index c.item-item.result c.args.levels c.loop-item-test.true c.item-item.is c.loop-item.invariant
    (leb-true (depth (view c.item-item.result)) c.args.levels (sym c.nests_within.ensures ∙ c.if-not-nests_within.false))

pub members_nest_within-returns-then-not-nests_within : goal.members_nest_within-returns-then-not-nests_within
members_nest_within-returns-then-not-nests_within t c =
    let done = c.loop-member.invariant.0 in
    let e : Entry = (c.in-Some.field-0-0.now, c.in-Some.member.now) in
    member_over c.args.members.now.entries done e c.next.new.self c.args.levels (c.loop-member.invariant.1 ∙ ap (λ es. done ++ es) c.in-Some.ensures.steps)
    (sym c.nests_within.ensures ∙ c.if-not-nests_within.true)

pub members_nest_within-loop-member-preserved : goal.members_nest_within-loop-member-preserved
members_nest_within-loop-member-preserved t c =
    let done = c.loop-member.invariant.0 in
    let e : Entry = (c.in-Some.field-0-0.now, c.in-Some.member.now) in
    let all = c.loop-member.invariant.1 ∙ ap (λ es. done ++ es) c.in-Some.ensures.steps in (
      done ++ e ∷ [],
      all ∙ sym (append_assoc done (e ∷ []) c.next.new.self),
      members_push done e c.args.levels c.loop-member.invariant.2 (leb-true (depth (view c.in-Some.member.now)) c.args.levels (sym c.nests_within.ensures ∙ c.if-not-nests_within.false)),
    )
