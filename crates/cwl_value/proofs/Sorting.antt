-- Elements put in one by one, each before the last ones that are all above it: the list is sorted, and its ties stand as they came.
use Rattle.std.proofs.Common.{◌≡◌, ℕ, ◌+◌, ◌-◌, ◌<◌, ◌≤◌, Bool, true, false, true≢false, List, [], ◌∷◌, ◌++◌, suc, length, get_or, take, drop, refl, sym, ap, subst, ◌∙◌, inl, inr, arith}
use Rattle.std.specs.Prelude.{not}
use Rattle.std.specs.List.{insert, suffix_len, fold, filter}
use Rattle.std.specs.List.Sorted.{IsPermutation, IsSortedBy, ties}
use Rattle.std.specs.Cmp.{IsStrictWeakOrder}
use Rattle.std.proofs.lemmas.Bool.{cases_lt, cases_Bool, and_parts, not-true}
use Rattle.std.proofs.lemmas.List as lists
use Rattle.std.proofs.lemmas.List.Edits.{length-insert, get_or-insert_below, get_or-insert_at, get_or-insert_above}
use Rattle.std.proofs.lemmas.List.Elements.{filter-append}
use Rattle.std.proofs.lemmas.List.Sorted.{IsPermutation-refl, IsPermutation-trans, IsPermutation-middle, IsPermutation-insert, IsPermutation-append_left}
use Rattle.std.proofs.lemmas.List.Sums.{prefix_len_passes, prefix_len_stops, suffix_len-le-length}

module _ {X : Type 0} (lt : X → X → Bool) where
  -- where an element goes
  abbrev pub place : List X → X → ℕ
  place xs x = length xs - suffix_len (lt x) xs

  abbrev pub put_in : List X → X → List X
  put_in xs x = insert xs (place xs x) x

  place-le : (xs : List X) (x : X) → place xs x ≤ length xs
  place-le xs x = omega arith

  -- what stands after the place is above the element
  passes : (xs : List X) (x : X) (k : ℕ) (d : X) → place xs x ≤ k → k < length xs → lt x (get_or xs k d) ≡ true
  passes xs x k d low high =
      let short = suffix_len-le-length (lt x) xs in
      let back : length xs - 1 - (length xs - 1 - k) ≡ k = omega arith in
      ap (λ n. lt x (get_or xs n d)) (sym back) ∙ ap (lt x) (sym (lists.get_or-reverse xs (length xs - 1 - k) d (omega arith)))
      ∙ prefix_len_passes (lt x) _ (length xs - 1 - k) d (omega arith)

  -- what stands right before it is not
  stops : (xs : List X) (x : X) (k : ℕ) (d : X) → k + 1 ≡ place xs x → lt x (get_or xs k d) ≡ false
  stops xs x k d at =
      let short = suffix_len-le-length (lt x) xs in
      let long = lists.length-reverse xs in
      let back : length xs - 1 - suffix_len (lt x) xs ≡ k = omega arith in
      ap (λ n. lt x (get_or xs n d)) (sym back) ∙ ap (lt x) (sym (lists.get_or-reverse xs (suffix_len (lt x) xs) d (omega arith)))
      ∙ prefix_len_stops (lt x) _ d (omega arith)

  same_two : (a b c d : X) → a ≡ c → b ≡ d → lt c d ≡ false → lt a b ≡ false
  same_two a b c d p q h = ap (λ u. lt u b) p ∙ ap (lt c) q ∙ h

  module _ (order : IsStrictWeakOrder lt) where
    pub put_in-sorted : (xs : List X) (x : X) → IsSortedBy lt xs → IsSortedBy lt (put_in xs x)
    put_in-sorted xs x sorted k d low high =
        let p = place xs x in
        let within : p ≤ length xs = place-le xs x in
        let long = length-insert xs p x within in
        let one : 0 < k → k ≡ k - 1 + 1 = λ h. omega arith in
        elim (cases_lt (k + 1) p) [
          | inl before ↦ same_two _ _ _ _ (get_or-insert_below xs p x d (k + 1) before within) (get_or-insert_below xs p x d k (omega arith) within) (sorted k d (omega arith) (omega arith))
          | inr from ↦ elim (cases_lt k p) [
            | inl at ↦
                let is : k + 1 ≡ p = omega arith in
                same_two _ _ _ _ (ap (λ n. get_or (put_in xs x) n d) is ∙ get_or-insert_at xs p x d within) (get_or-insert_below xs p x d k at within) (stops xs x k d is)
            | inr after ↦ elim (cases_lt p k) [
              | inl past ↦
                  let is : k ≡ k - 1 + 1 = one (omega arith) in
                  same_two _ _ _ _ (get_or-insert_above xs p x d k after within) (ap (λ n. get_or (put_in xs x) n d) is ∙ get_or-insert_above xs p x d (k - 1) (omega arith) within)
                  (ap (λ n. lt (get_or xs n d) (get_or xs (k - 1) d)) is ∙ sorted (k - 1) d (omega arith) (omega arith))
              | inr here ↦
                  let is : k ≡ p = omega arith in
                  same_two _ _ _ _ (get_or-insert_above xs p x d k after within) (ap (λ n. get_or (put_in xs x) n d) is ∙ get_or-insert_at xs p x d within)
                  (order.one_way x (get_or xs k d) (passes xs x k d (omega arith) (omega arith)))
            ]
          ]
        ]

    -- what ties with an element that goes before others ties with none of them
    no_tie : (x y e : X) → ties lt y x ≡ true → lt x e ≡ true → ties lt y e ≡ false
    no_tie x y e tie above = elim (cases_Bool (ties lt y e)) [
      | inl other ↦
          let both = and_parts (not (lt y x)) (not (lt x y)) tie in
          let these = and_parts (not (lt y e)) (not (lt e y)) other in
          absurd (true≢false (sym above ∙ order.chain x y e (not-true (lt x y) both.1) (not-true (lt y e) these.0)))
      | inr none ↦ none
    ]

    pub none_left : (q : X → Bool) (xs : List X) → ((k : ℕ) (d : X) → k < length xs → q (get_or xs k d) ≡ false) → filter q xs ≡ []
    none_left q [] h = refl
    none_left q (x ∷ xs) h = rw (h 0 x (omega arith), none_left q xs (λ k d high. h (suc k) d (omega arith))) refl

    put_in-stable : (xs : List X) (x y : X) → filter (ties lt y) (put_in xs x) ≡ filter (ties lt y) (xs ++ x ∷ [])
    put_in-stable xs x y =
        let q : X → Bool = ties lt y in
        let p = place xs x in
        let split : filter q xs ≡ filter q (take p xs) ++ filter q (drop p xs) = ap (filter q) (sym (lists.take-append-drop p xs)) ∙ filter-append q (take p xs) (drop p xs) in
        let parted : filter q (put_in xs x) ≡ filter q (take p xs) ++ filter q (x ∷ drop p xs) = filter-append q (take p xs) (x ∷ drop p xs) in
        let pushed : filter q (xs ++ x ∷ []) ≡ filter q xs ++ filter q (x ∷ []) = filter-append q xs (x ∷ []) in
        elim (cases_Bool (q x)) [
          | inl tie ↦
              let empty : filter q (drop p xs) ≡ [] = none_left q (drop p xs) (λ k d high. ap q (lists.get_or-drop p xs k d) ∙ no_tie x y (get_or xs (p + k) d) tie (passes xs x (p + k) d (omega arith) (let short = lists.length-drop p xs in omega arith))) in
              parted ∙ rw (tie, empty) (sym (pushed ∙ rw (split, empty, tie, lists.append-nil) refl))
          | inr none ↦ parted ∙ rw none (sym (pushed ∙ rw (none, lists.append-nil) split))
        ]

    -- the elements, put in one by one
    pub all_in-sorted : (done xs : List X) → IsSortedBy lt done → IsSortedBy lt (fold put_in done xs)
    all_in-sorted done [] sorted = sorted
    all_in-sorted done (x ∷ xs) sorted = all_in-sorted (put_in done x) xs (put_in-sorted done x sorted)

    pub all_in-stable : (done xs : List X) (y : X) → filter (ties lt y) (fold put_in done xs) ≡ filter (ties lt y) (done ++ xs)
    all_in-stable done [] y = ap (filter (ties lt y)) (sym (lists.append-nil done))
    all_in-stable done (x ∷ xs) y =
        all_in-stable (put_in done x) xs y ∙ filter-append (ties lt y) (put_in done x) xs
        ∙ ap (λ l. l ++ filter (ties lt y) xs) (put_in-stable done x y)
        ∙ sym (filter-append (ties lt y) (done ++ x ∷ []) xs) ∙ ap (filter (ties lt y)) (lists.append_assoc done (x ∷ []) xs)

  pub all_in-permutation : (done xs : List X) → IsPermutation (done ++ xs) (fold put_in done xs)
  all_in-permutation done [] = subst (λ l. IsPermutation l done) (sym (lists.append-nil done)) (IsPermutation-refl done)
  all_in-permutation done (x ∷ xs) =
      IsPermutation-trans _ _ _ (IsPermutation-middle done x xs)
      (IsPermutation-trans _ _ _ (IsPermutation-append_left xs (x ∷ done) (put_in done x) (IsPermutation-insert done (place done x) x)) (all_in-permutation (put_in done x) xs))
