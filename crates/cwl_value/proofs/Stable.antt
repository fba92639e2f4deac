-- A stable sort has one answer: two lists that are sorted, and whose ties stand alike, are one.
use Rattle.std.proofs.Common.{◌≡◌, ℕ, ◌+◌, ◌-◌, ◌<◌, Bool, cond, true, false, true≢false, List, [], ◌∷◌, ◌++◌, suc, length, get_or, drop, map, reverse, refl, sym, ap, ◌∙◌, inl, inr, arith}
use Rattle.std.specs.Prelude.{not}
use Rattle.std.specs.List.{insert, prefix_len, suffix_len, fold, filter}
use Rattle.std.specs.List.Sorted.{IsSortedBy, IsStableBy, ties}
use Rattle.std.specs.Cmp.{IsStrictWeakOrder}
use Rattle.std.proofs.lemmas.Bool.{cases_Bool, and_parts, not-true}
use Rattle.std.proofs.lemmas.List as lists
use Rattle.std.proofs.lemmas.List.Sorted.{sorted_far}
use Rattle.cwl_value.proofs.Sorting.{place, put_in, none_left, all_in-sorted, all_in-stable}

module _ {X : Type 0} (q : X → Bool) where
  kept : (x : X) (xs : List X) → q x ≡ true → filter q (x ∷ xs) ≡ x ∷ filter q xs
  kept x xs is = rw is refl

  left_out : (x : X) (xs : List X) → q x ≡ false → filter q (x ∷ xs) ≡ filter q xs
  left_out x xs is = rw is refl

  rest_same : (x y : X) (xs ys : List X) (b : Bool) → q x ≡ b → q y ≡ b → filter q (x ∷ xs) ≡ filter q (y ∷ ys) → filter q xs ≡ filter q ys
  rest_same x y xs ys true left right same = ap (drop 1) (sym (kept x xs left) ∙ same ∙ kept y ys right)
  rest_same x y xs ys false left right same = sym (left_out x xs left) ∙ same ∙ left_out y ys right

module _ {X : Type 0} (lt : X → X → Bool) (order : IsStrictWeakOrder lt) where
  sorted_rest : (x : X) (xs : List X) → IsSortedBy lt (x ∷ xs) → IsSortedBy lt xs
  sorted_rest x xs sorted k d low high =
      let one : suc (k + 1) ≡ suc k + 1 = omega arith in
      ap (λ n. lt (get_or (x ∷ xs) n d) (get_or xs k d)) one ∙ sorted (suc k) d (omega arith) (omega arith)

  itself : (x : X) → lt x x ≡ false
  itself x = elim (cases_Bool (lt x x)) [ inl below ↦ order.one_way x x below | inr above ↦ above ]

  tie_by : (x y : X) → lt x y ≡ false → lt y x ≡ false → ties lt x y ≡ true
  tie_by x y up down = rw (up, down) refl

  ties_itself : (x : X) → ties lt x x ≡ true
  ties_itself x = tie_by x x (itself x) (itself x)

  no_first : (y : X) (ys : List X) → [] ≡ filter (ties lt y) (y ∷ ys) → ⊥
  no_first y ys none =
      let long : 0 ≡ length (y ∷ filter (ties lt y) ys) = ap length (none ∙ kept (ties lt y) y ys (ties_itself y)) in
      omega (arith, long)

  -- an element that ties with one of a sorted list is not below its first
  not_below : (x y : X) (xs ys : List X) → IsSortedBy lt (x ∷ xs) → filter (ties lt y) (x ∷ xs) ≡ filter (ties lt y) (y ∷ ys) → lt y x ≡ false
  not_below x y xs ys sorted same = elim (cases_Bool (lt y x)) [
    | inl below ↦
        let apart : (k : ℕ) (d : X) → k < length (x ∷ xs) → ties lt y (get_or (x ∷ xs) k d) ≡ false = λ k d high.
        let e : X = get_or (x ∷ xs) k d in
        elim (cases_Bool (ties lt y e)) [
          | inl tie ↦
              let both = and_parts (not (lt y e)) (not (lt e y)) tie in
              absurd (true≢false (sym below ∙ order.chain y e x (not-true (lt y e) both.0) (sorted_far lt order (x ∷ xs) sorted 0 k d (omega arith) high)))
          | inr none ↦ none
        ] in
        absurd (no_first y ys (sym (none_left lt order (ties lt y) (x ∷ xs) apart) ∙ same))
    | inr above ↦ above
  ]

  only : (xs ys : List X) → IsSortedBy lt xs → IsSortedBy lt ys → ((z : X) → filter (ties lt z) xs ≡ filter (ties lt z) ys) → xs ≡ ys
  only [] [] left right same = refl
  only [] (y ∷ ys) left right same = absurd (no_first y ys (same y))
  only (x ∷ xs) [] left right same = absurd (no_first x xs (sym (same x)))
  only (x ∷ xs) (y ∷ ys) left right same =
      let tie = tie_by x y (not_below y x ys xs right (sym (same x))) (not_below x y xs ys left (same y)) in
      let first : x ≡ y = ap (λ l. get_or l 0 x) (sym (kept (ties lt x) x xs (ties_itself x)) ∙ same x ∙ kept (ties lt x) y ys tie) in
      let rest : xs ≡ ys = only xs ys (sorted_rest x xs left) (sorted_rest y ys right) (λ z. rest_same (ties lt z) x y xs ys (ties lt z x) refl (ap (ties lt z) (sym first)) (same z)) in
      ap (λ e. e ∷ xs) first ∙ ap (λ l. y ∷ l) rest

  -- what a stable sort gives is what putting the elements in one by one gives
  pub stably_sorted : (xs ys : List X) → IsSortedBy lt ys → IsStableBy lt xs ys → ys ≡ fold (put_in lt) [] xs
  stably_sorted xs ys sorted stable =
      only ys (fold (put_in lt) [] xs) sorted (all_in-sorted lt order [] xs (λ k d low high. absurd (omega arith))) (λ z. stable z ∙ sym (all_in-stable lt order [] xs z))

-- elements put in by what they map to
module _ {X Y : Type 0} (f : X → Y) (lt : Y → Y → Bool) where
  abbrev pub below : X → X → Bool
  below x y = lt (f x) (f y)

  passing : (p : Y → Bool) (xs : List X) → prefix_len p (map f xs) ≡ prefix_len (λ x. p (f x)) xs
  passing p [] = refl
  passing p (x ∷ xs) = ap (λ n. cond (p (f x)) (1 + n) 0) (passing p xs)

  mapped_back : (xs : List X) → map f (reverse xs) ≡ reverse (map f xs)
  mapped_back [] = refl
  mapped_back (x ∷ xs) =
      ap (map f) (lists.reverse-append (x ∷ []) xs) ∙ lists.map-append f (reverse xs) (x ∷ []) ∙ ap (λ l. l ++ f x ∷ []) (mapped_back xs)
      ∙ sym (lists.reverse-append (f x ∷ []) (map f xs))

  place_by : (xs : List X) (x : X) → place lt (map f xs) (f x) ≡ place below xs x
  place_by xs x =
      ap (λ n. n - suffix_len (lt (f x)) (map f xs)) (lists.length-map xs f)
      ∙ ap (λ l. length xs - prefix_len (lt (f x)) l) (sym (mapped_back xs)) ∙ ap (λ n. length xs - n) (passing (lt (f x)) (reverse xs))

  inserted : (xs : List X) (i : ℕ) (x : X) → map f (insert xs i x) ≡ insert (map f xs) i (f x)
  inserted xs i x = simp (lists.map-append, lists.take-map, lists.drop-map)

  put_by : (xs : List X) (x : X) → map f (put_in below xs x) ≡ put_in lt (map f xs) (f x)
  put_by xs x = inserted xs (place below xs x) x ∙ ap (λ n. insert (map f xs) n (f x)) (sym (place_by xs x))

  all_by : (done xs : List X) → map f (fold (put_in below) done xs) ≡ fold (put_in lt) (map f done) (map f xs)
  all_by done [] = refl
  all_by done (x ∷ xs) = all_by (put_in below done x) xs ∙ ap (λ l. fold (put_in lt) l (map f xs)) (put_by done x)

  -- the same, of a stable sort by what the elements map to
  pub stably_sorted_by : IsStrictWeakOrder below → (xs ys : List X) → IsSortedBy below ys → IsStableBy below xs ys → map f ys ≡ fold (put_in lt) [] (map f xs)
  stably_sorted_by order xs ys sorted stable = ap (map f) (stably_sorted below order xs ys sorted stable) ∙ all_by [] xs
