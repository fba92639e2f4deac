-- Names that are looked at one by one, from the last on, each beside those after it.
use Rattle.std.proofs.Common.{◌≡◌, ℕ, ◌+◌, ◌-◌, ◌<◌, ◌≤◌, List, [], ◌∷◌, Some, length, get_or, drop, zero, suc, Bool, true, false, cond, ◌||◌, ◌&&◌, refl, sym, ap, ◌∙◌, arith, bytes_eq}
use Rattle.std.specs.Prelude.{not}
use Rattle.std.specs.Cmp.Lexicographic.{nat_list_eq_equiv, slice_cmp}
use Rattle.std.specs.List.{list_any}
use Rattle.std.specs.Ordering.{is_eq, nat_cmp}
use Rattle.std.proofs.lemmas.List.{drop_more}
use Rattle.std.proofs.lemmas.Map.Text.{is_eq-slice_cmp}
use Rattle.cwl_value.specs.Secondary.{name_of, has_name, is_new, are_distinct}
use Rattle.cwl_value.specs.declared.value.Value.{Value}

joined : (test old : Bool) → cond test true old ≡ (test || old)
joined true old = refl
joined false old = refl

and_none : (b : Bool) → (b && false) ≡ false
and_none true = refl
and_none false = refl

-- names that repeat among the last values repeat among all
repeats-above : (n : ℕ) (vs : List Value) → are_distinct (drop n vs) ≡ false → are_distinct vs ≡ false
repeats-above zero vs repeats = repeats
repeats-above (suc n) [] repeats = repeats
repeats-above (suc n) (v ∷ vs) repeats = ap (λ b. is_new (name_of v) vs && b) (repeats-above n vs repeats) ∙ and_none (is_new (name_of v) vs)

-- the value before those from `at` on, and its name
module _ (vs : List Value) (at : ℕ) (v : Value) (name : List ℕ) (some : 0 < at) (within : at ≤ length vs) (is : v ≡ get_or vs (at - 1) v) (named : Some name ≡ name_of v) where
  one_more : drop (at - 1) vs ≡ v ∷ drop at vs
  one_more =
      let back : at - 1 + 1 ≡ at = omega arith in
      drop_more vs (at - 1) v (omega arith) ∙ ap (λ x. x ∷ drop (at - 1 + 1) vs) (sym is) ∙ ap (λ n. v ∷ drop n vs) back

  new_by : (b : Bool) → list_any (has_name name) (drop at vs) ≡ b → are_distinct (drop (at - 1) vs) ≡ (not b && are_distinct (drop at vs))
  new_by b found = ap are_distinct one_more ∙ ap (λ n. is_new n (drop at vs) && are_distinct (drop at vs)) (sym named) ∙ ap (λ f. not f && are_distinct (drop at vs)) found

  pub still_distinct : are_distinct (drop at vs) ≡ true → list_any (has_name name) (drop at vs) ≡ false → are_distinct (drop (at - 1) vs) ≡ true
  still_distinct before none = new_by false none ∙ before

  pub repeated : list_any (has_name name) (drop at vs) ≡ true → are_distinct vs ≡ false
  repeated found = repeats-above (at - 1) vs (new_by true found)

  -- a set that had the names of the values after this one, and its name
  pub seen_more : (other : List ℕ) (old new : Bool) → old ≡ list_any (has_name other) (drop at vs) → new ≡ cond (is_eq (slice_cmp nat_cmp name other)) true old → new ≡ list_any (has_name other) (drop (at - 1) vs)
  seen_more other old new was more =
      let its : has_name other v ≡ bytes_eq other name = rw (← named) refl in
      more ∙ ap (λ test. cond test true old) (is_eq-slice_cmp name other ∙ nat_list_eq_equiv.symm name other ∙ sym its)
      ∙ joined (has_name other v) old ∙ ap (λ b. has_name other v || b) was ∙ ap (list_any (has_name other)) (sym one_more)
