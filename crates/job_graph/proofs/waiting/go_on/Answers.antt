use Rattle.std.proofs.Common.{◌≡◌, ◌∙◌, ◌<◌, ℕ, List, Some, [], ap, get_or, length, refl, rules, subst, sym, true}
use Rattle.std.specs.Map.{keys_of}
use Rattle.document_links.specs.declared.process.Step.{Step}
use Rattle.job_graph.specs.Apart.{differ}
use Rattle.job_graph.specs.Words.{Name}
use Rattle.job_graph.specs.declared.waiting.Going.{Going}
use Rattle.job_graph.specs.inner.Going.{IsAbove}
use Rattle.job_graph.proofs.Above.{none_popped, nothing_above}
use Rattle.job_graph.proofs.Counting.{can_lower, counts_long, stuck_where}
use Rattle.job_graph.proofs.Gone.{goes_to_first, gone_none}
use Rattle.job_graph.proofs.Pending.{goes_to_next, goes_to_past, goes_to_walked, gone_to, next_within}
use Rattle.job_graph.proofs.laws_of_walks.Places.{names_differ}
use Rattle.job_graph.proofs.waiting.go_on.Goals as goal

pub returns-in_default : goal.returns-in_default
returns-in_default c =
    let entries : List (Name × Step) = c.as_slice-entries.result.now in
    let same : entries ≡ c.args.steps.now = c.as_slice-entries.ensures.entries in
    let apart : differ (keys_of c.args.steps.now) ≡ true = subst (λ (some : List (Name × Step)). differ (keys_of some) ≡ true) same (names_differ (keys_of entries) c.as_slice-entries.ensures.ids) in
    gone_none c.args.facts.now c.args.place.now c.args.ended.now c.requires.ended c.args.inputs.now c.args.steps.now apart c.requires.apart c.args.env c.requires.before
    (record { env = c.args.env; met = c.new.result; changed = c.new-2.result; waits = record { counts = c.args.counts; pending = c.new-pending.result } }) refl c.new.ensures.empty c.new-2.ensures c.requires.counted
    (nothing_above c.args.ended.now c.args.env c.args.steps.now c.step_above-above.result c.in_default.not-Some (c.step_above-above.ensures c.args.steps.now c.requires.table))

pub loop-number-init : goal.loop-number-init
loop-number-init c =
    let entries : List (Name × Step) = c.as_slice-entries.result.now in
    let steps : List (Name × Step) = c.args.steps.now in
    let same : entries ≡ steps = c.as_slice-entries.ensures.entries in
    let apart : differ (keys_of steps) ≡ true = subst (λ (some : List (Name × Step)). differ (keys_of some) ≡ true) same (names_differ (keys_of entries) c.as_slice-entries.ensures.ids) in
    let k : Name × Step = c.index-entries-number.result in
    let above : IsAbove c.args.ended.now c.args.env steps (Some c.in-Some.number) = subst (IsAbove c.args.ended.now c.args.env steps) c.in-Some.is (c.step_above-above.ensures steps c.requires.table) in
    let here_is : k ≡ get_or steps c.in-Some.number k = c.index-entries-number.is ∙ ap (λ (some : List (Name × Step)). get_or some c.in-Some.number k) same in
    let first : Going = record { env = c.args.env; met = c.new.result; changed = c.new-2.result; waits = record { counts = c.args.counts; pending = c.new-pending.result } } in
    goes_to_first c.args.facts.now c.args.place.now c.args.ended.now c.requires.ended c.args.inputs.now steps apart c.requires.apart c.args.env c.requires.before c.in-Some.number k above.0 here_is
    (above.1 k here_is).0 (above.1 k here_is).1 c.args.readers.now c.requires.table first c.walk_one.new.going refl c.new.ensures.empty c.new-2.ensures c.new-pending.ensures c.requires.counted c.in_ok-walk_one.ensures

pub walk_one-requires : goal.walk_one-requires
walk_one-requires c outs m = can_lower c.args.env c.index-entries-number.result.0 outs c.args.readers.now c.args.steps.now c.requires.table c.args.counts.items c.requires.counted m

pub bounds-entries-number-in-Some-pop : goal.bounds-entries-number-in-Some-pop
bounds-entries-number-in-Some-pop c =
    subst (λ (some : List (Name × Step)). c.in-Some-pop.number < length some) (sym c.as_slice-entries.ensures.entries)
    (next_within c.args.facts.now c.args.place.now c.args.inputs.now c.args.steps.now c.args.ended.now c.args.env c.loop-number.going c.in-Some-pop.number c.pop.new.self c.in-Some-pop.ensures c.loop-number.invariant)

pub offset_bounds-entries-number-in-Some-pop : goal.offset_bounds-entries-number-in-Some-pop
offset_bounds-entries-number-in-Some-pop c =
    let within : c.in-Some-pop.number < length c.as_slice-entries.result.now =
    subst (λ (some : List (Name × Step)). c.in-Some-pop.number < length some) (sym c.as_slice-entries.ensures.entries)
    (next_within c.args.facts.now c.args.place.now c.args.inputs.now c.args.steps.now c.args.ended.now c.args.env c.loop-number.going c.in-Some-pop.number c.pop.new.self c.in-Some-pop.ensures c.loop-number.invariant) in
    search (rules, within)

pub is_stuck-requires : goal.is_stuck-requires
is_stuck-requires c =
    subst (λ (n : ℕ). c.in-Some-pop.number < n) (sym (counts_long c.loop-number.going.env c.args.steps.now c.loop-number.going.waits.counts.items c.loop-number.invariant.left.counted))
    (next_within c.args.facts.now c.args.place.now c.args.inputs.now c.args.steps.now c.args.ended.now c.args.env c.loop-number.going c.in-Some-pop.number c.pop.new.self c.in-Some-pop.ensures c.loop-number.invariant)

pub walk_one-requires-then-not-is_stuck : goal.walk_one-requires-then-not-is_stuck
walk_one-requires-then-not-is_stuck c outs m =
    can_lower c.loop-number.going.env c.index-entries-number-in-Some-pop.result.0 outs c.args.readers.now c.args.steps.now c.requires.table c.loop-number.going.waits.counts.items c.loop-number.invariant.left.counted m

pub loop-number-preserved-in-Continue-branch-2 : goal.loop-number-preserved-in-Continue-branch-2
loop-number-preserved-in-Continue-branch-2 c =
    let steps : List (Name × Step) = c.args.steps.now in
    let same : c.as_slice-entries.result.now ≡ steps = c.as_slice-entries.ensures.entries in
    let apart : differ (keys_of steps) ≡ true = subst (λ (some : List (Name × Step)). differ (keys_of some) ≡ true) same (names_differ (keys_of c.as_slice-entries.result.now) c.as_slice-entries.ensures.ids) in
    let n : ℕ = c.in-Some-pop.number in
    let k : Name × Step = c.index-entries-number-in-Some-pop.result in
    let within : n < length steps = next_within c.args.facts.now c.args.place.now c.args.inputs.now steps c.args.ended.now c.args.env c.loop-number.going n c.pop.new.self c.in-Some-pop.ensures c.loop-number.invariant in
    let here_is : k ≡ get_or steps n k = c.index-entries-number-in-Some-pop.is ∙ ap (λ (some : List (Name × Step)). get_or some n k) same in
    goes_to_walked c.args.facts.now c.args.place.now c.args.inputs.now steps c.args.ended.now c.args.env
    (record { env = c.loop-number.going.env; met = c.loop-number.going.met; changed = c.loop-number.going.changed; waits = record { counts = c.loop-number.going.waits.counts; pending = c.pop.new.self } })
    n k within here_is (goes_to_next c.args.facts.now c.args.place.now c.args.inputs.now steps c.args.ended.now c.args.env c.loop-number.going n c.pop.new.self c.in-Some-pop.ensures c.loop-number.invariant)
    apart c.args.readers.now c.requires.table c.walk_one-then-not-is_stuck.new.going
    (sym (stuck_where c.loop-number.going.env steps c.loop-number.going.waits.counts.items c.loop-number.invariant.left.counted n k within here_is) ∙ sym c.is_stuck.ensures ∙ c.if-not-is_stuck.true)
    c.in_ok-walk_one-2.ensures

pub loop-number-preserved : goal.loop-number-preserved
loop-number-preserved c =
    let steps : List (Name × Step) = c.args.steps.now in
    let same : c.as_slice-entries.result.now ≡ steps = c.as_slice-entries.ensures.entries in
    let n : ℕ = c.in-Some-pop.number in
    let k : Name × Step = c.index-entries-number-in-Some-pop.result in
    let within : n < length steps = next_within c.args.facts.now c.args.place.now c.args.inputs.now steps c.args.ended.now c.args.env c.loop-number.going n c.pop.new.self c.in-Some-pop.ensures c.loop-number.invariant in
    let here_is : k ≡ get_or steps n k = c.index-entries-number-in-Some-pop.is ∙ ap (λ (some : List (Name × Step)). get_or some n k) same in
    goes_to_past c.args.facts.now c.args.place.now c.args.inputs.now steps c.args.ended.now c.args.env
    (record { env = c.loop-number.going.env; met = c.loop-number.going.met; changed = c.loop-number.going.changed; waits = record { counts = c.loop-number.going.waits.counts; pending = c.pop.new.self } })
    n k within here_is (goes_to_next c.args.facts.now c.args.place.now c.args.inputs.now steps c.args.ended.now c.args.env c.loop-number.going n c.pop.new.self c.in-Some-pop.ensures c.loop-number.invariant)
    (sym (stuck_where c.loop-number.going.env steps c.loop-number.going.waits.counts.items c.loop-number.invariant.left.counted n k within here_is) ∙ sym c.is_stuck.ensures ∙ c.if-not-is_stuck.false)

pub returns : goal.returns
returns c =
    let none : (c.loop-number.going.waits.pending ≡ []) × (c.pop.new.self ≡ []) = none_popped c.pop.result _ c.in_default-pop.not-Some c.pop.ensures in
    gone_to c.args.facts.now c.args.place.now c.args.inputs.now c.args.steps.now c.args.ended.now c.args.env c.loop-number.going c.pop.new.self none.0 c.loop-number.invariant
