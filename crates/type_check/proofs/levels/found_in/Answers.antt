use Rattle.std.proofs.Common.{◌≡◌, ◌≢◌, ◌∙◌, ◌<◌, ap, length, subst, sym}
use Rattle.std.specs.Prelude.{vec_len}
use Rattle.std.proofs.lemmas.Bool.{eqb-false}
use Rattle.std.proofs.lemmas.List.{length-map}
use Rattle.type_check.specs.Depths.{items_of}
use Rattle.type_check.specs.inner.Members.{AreMembers, all_lent, lent}
use Rattle.type_check.specs.inner.Parted.{ArePartedTo}
use Rattle.type_check.proofs.Depths.{parted_more}
use Rattle.type_check.proofs.Weights.{next_is_lighter, weights}
use Rattle.type_check.proofs.levels.found_in.Goals as goal

pub loop-alloc-smaller : goal.loop-alloc-smaller
loop-alloc-smaller c =
    let level = c.loop-alloc.level.items in
    let next : all_lent c.in_ok-level.level.items ≡ items_of (all_lent level) = c.in_ok-level.ensures ∙ ap (λ xs. items_of (all_lent xs)) c.as_slice-in-loop-alloc.ensures.value in
    let count : vec_len c.loop-alloc.level ≡ length (all_lent level) = sym c.as_slice.ensures.len ∙ ap length c.as_slice.ensures.value ∙ sym (length-map level lent) in
    let some : length (all_lent level) ≢ 0 = λ none. eqb-false (vec_len c.loop-alloc.level) 0 (sym c.is_empty.ensures ∙ c.loop-alloc-test.true) (count ∙ none) in
    subst (λ ms. weights ms < weights (all_lent level)) (sym next) (next_is_lighter (all_lent level) some)

pub loop-alloc-preserved : goal.loop-alloc-preserved
loop-alloc-preserved c =
    let level = c.loop-alloc.level.items in
    let members = c.args.members.now in
    let one = c.in_ok-of.field-0 in
    let next : all_lent c.in_ok-level.level.items ≡ items_of (all_lent level) = c.in_ok-level.ensures ∙ ap (λ xs. items_of (all_lent xs)) c.as_slice-in-loop-alloc.ensures.value in
    subst (λ ms. ArePartedTo c.push.new.self.items members ms) (sym next)
    (subst (λ found. ArePartedTo found members (items_of (all_lent level))) (sym c.in_ok-push.ensures.items)
    (parted_more c.loop-alloc.found.items members (all_lent level) one c.loop-alloc.invariant (subst (λ xs. AreMembers one (all_lent xs)) c.as_slice.ensures.value c.in_ok-of.ensures)))
