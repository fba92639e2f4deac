-- Whatever the order of ends, each tuple has its own value.
use Rattle.std.proofs.Common.{◌≡◌, ℕ, zero, suc, ◌<◌, List, [], ◌∷◌, length, map, get_or, set, Option, Some, None, refl, sym, ap, ◌∙◌, arith, ⊎_elim}
use Rattle.std.specs.Prelude.{replicate}
use Rattle.std.specs.List.{AllByRecursion, range_with_len}
use Rattle.std.proofs.lemmas.Bool.{cases_eq}
use Rattle.std.proofs.lemmas.List.{get_or-set_same, get_or-set_other, length-set, length-replicate, same_lists}
use Rattle.std.proofs.lemmas.List.Elements.{recursion_from_All}
use Rattle.std.proofs.lemmas.List.FromFn.{length-map-range_with_len, get_or-map-range_with_len}
use Rattle.cwl_value.specs.declared.value.Value.{Value}
use Rattle.scatter_shape.specs.Tuples.{below}
use Rattle.scatter_shape.specs.Laws.{after_ends, AnyOrderOfEnds}

-- each end has its tuple's own value
abbrev Own : (ℕ → Value) → List (ℕ × Value) → Type 0
Own at ends = AllByRecursion (λ end. end.1 ≡ at end.0) ends

length-after_ends : (slots : List (Option Value)) (ends : List (ℕ × Value)) → length (after_ends slots ends) ≡ length slots
length-after_ends slots [] = refl
length-after_ends slots (e ∷ es) = length-after_ends (set slots e.0 (Some e.1)) es ∙ length-set slots e.0 (Some e.1)

-- a value that is there stays, whatever ends after it
kept : (at : ℕ → Value) (ends : List (ℕ × Value)) (slots : List (Option Value)) (k : ℕ) (d : Option Value) →
    Own at ends → k < length slots → get_or slots k d ≡ Some (at k) → get_or (after_ends slots ends) k d ≡ Some (at k)
kept at [] slots k d own within h = h
kept at (e ∷ es) slots k d own within h =
    let room : k < length (set slots e.0 (Some e.1)) = rw (length-set slots e.0 (Some e.1)) within in
    kept at es (set slots e.0 (Some e.1)) k d own.1 room
    (⊎_elim
    (λ (same : k ≡ e.0). rw same (get_or-set_same slots e.0 (Some e.1) d (rw same at within) ∙ ap Some own.0))
    (λ (other : k ≡ e.0 → ⊥). get_or-set_other slots e.0 k (Some e.1) d other ∙ h)
    (cases_eq k e.0))

-- the tuple of an end has its value
reached : (at : ℕ → Value) (ends : List (ℕ × Value)) (slots : List (Option Value)) (k : ℕ) (d : Option Value) (j : ℕ) →
    Own at ends → k < length slots → j < length (map (λ end. end.0) ends) → get_or (map (λ end. end.0) ends) j k ≡ k →
    get_or (after_ends slots ends) k d ≡ Some (at k)
reached at [] slots k d j own within there is = absurd (omega arith)
reached at (e ∷ es) slots k d zero own within there is =
    let room : k < length (set slots e.0 (Some e.1)) = rw (length-set slots e.0 (Some e.1)) within in
    kept at es (set slots e.0 (Some e.1)) k d own.1 room
    (rw (sym is) (get_or-set_same slots e.0 (Some e.1) d (rw (sym is) at within) ∙ ap Some own.0))
reached at (e ∷ es) slots k d (suc j) own within there is =
    reached at es (set slots e.0 (Some e.1)) k d j own.1 (rw (length-set slots e.0 (Some e.1)) within) (omega arith) is

pub any_order_of_ends : AnyOrderOfEnds
unfolding below
any_order_of_ends n at ends own all =
    let start : List (Option Value) = replicate n None in
    let few : length start ≡ n = length-replicate {A = Option Value} n None in
    let size : length (after_ends start ends) ≡ n = length-after_ends start ends ∙ few in
    same_lists (after_ends start ends) (map (λ k. Some (at k)) (range_with_len 0 n))
    (size ∙ sym (length-map-range_with_len (λ k. Some (at k)) 0 n))
    (λ k d within.
    let low : k < n = omega arith in
    let there = all k low in
    reached at ends start k d there.0 (recursion_from_All (λ end. end.1 ≡ at end.0) ends own) (rw few low) there.1 there.2
    ∙ sym (get_or-map-range_with_len (λ k. Some (at k)) 0 n k k d low (omega arith)))
