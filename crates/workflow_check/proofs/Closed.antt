-- Rounds in each of which all elements go that wait for none that is left.
use Rattle.std.proofs.Common.{◌≡◌, ◌∙◌, ◌≤◌, ℕ, zero, suc, Bool, true, false, List, [], ◌∷◌, length, cond, ap, sym, refl, subst, arith, inl, inr}
use Rattle.std.specs.List.{filter}
use Rattle.std.proofs.lemmas.Bool.{cases_lt}
use Rattle.workflow_check.specs.Sound.{IsIn}

module _ {X : Type 0} where
  -- ---- what passes a test

  one_passes : (p : X → Bool) (x y : X) (ys : List X) (test : Bool) → p y ≡ test → (IsIn x (filter p ys) → IsIn x ys × (p x ≡ true))
      → IsIn x (cond test (y ∷ filter p ys) (filter p ys)) → IsIn x (y ∷ ys) × (p x ≡ true)
  one_passes p x y ys true is later (inl same) = (inl same, ap p same ∙ is)
  one_passes p x y ys true is later (inr at) = let rest = later at in (inr rest.0, rest.1)
  one_passes p x y ys false is later at = let rest = later at in (inr rest.0, rest.1)

  -- what is left of a filter is of the list, and passes
  pub passes : (p : X → Bool) (x : X) (xs : List X) → IsIn x (filter p xs) → IsIn x xs × (p x ≡ true)
  passes p x [] at = absurd at
  passes p x (y ∷ ys) at = one_passes p x y ys (p y) refl (passes p x ys) at

  -- an element that passes is among those that pass
  pub kept : (p : X → Bool) (x : X) (xs : List X) → p x ≡ true → IsIn x xs → IsIn x (filter p xs)
  kept p x [] is at = at
  kept p x (y ∷ ys) is (inl same) = subst (λ b. IsIn x (cond b (y ∷ filter p ys) (filter p ys))) (sym (ap p (sym same) ∙ is)) (inl same)
  kept p x (y ∷ ys) is (inr rest) =
      elim (p y) as (λ b. IsIn x (cond b (y ∷ filter p ys) (filter p ys))) [ true ↦ inr (kept p x ys is rest) | false ↦ kept p x ys is rest ]

  no_longer_by : (y : X) (rest those : List X) (test : Bool) → length rest ≤ length those → length (cond test (y ∷ rest) rest) ≤ length (y ∷ those)
  no_longer_by y rest those true less = omega (arith, less)
  no_longer_by y rest those false less = omega (arith, less)

  no_longer : (p : X → Bool) (xs : List X) → length (filter p xs) ≤ length xs
  no_longer p [] = omega arith
  no_longer p (y ∷ ys) = no_longer_by y (filter p ys) ys (p y) (no_longer p ys)

  all_stay_by : (p : X → Bool) (y : X) (ys : List X) (test : Bool) → p y ≡ test → (length ys ≤ length (filter p ys) → (filter p ys ≡ ys) × ((x : X) → IsIn x ys → p x ≡ true))
      → length (y ∷ ys) ≤ length (cond test (y ∷ filter p ys) (filter p ys)) → (cond test (y ∷ filter p ys) (filter p ys) ≡ y ∷ ys) × ((x : X) → IsIn x (y ∷ ys) → p x ≡ true)
  all_stay_by p y ys true is later less =
      let rest = later (omega (arith, less)) in
      (ap (λ zs. y ∷ zs) rest.0, λ x at. elim at as (λ _. p x ≡ true) [ inl same ↦ ap p same ∙ is | inr on ↦ rest.1 x on ])
  all_stay_by p y ys false is later less = absurd (omega (arith, less, no_longer p ys))

  -- where none goes, all pass
  all_stay : (p : X → Bool) (xs : List X) → length xs ≤ length (filter p xs) → (filter p xs ≡ xs) × ((x : X) → IsIn x xs → p x ≡ true)
  all_stay p [] less = (refl, λ x at. absurd at)
  all_stay p (y ∷ ys) less = all_stay_by p y ys (p y) refl (all_stay p ys) less

  all_pass : (p : X → Bool) (xs : List X) → ((x : X) → IsIn x xs → p x ≡ true) → filter p xs ≡ xs
  all_pass p [] all = refl
  all_pass p (y ∷ ys) all = ap (λ b. cond b (y ∷ filter p ys) (filter p ys)) (all y (inl refl)) ∙ ap (λ zs. y ∷ zs) (all_pass p ys (λ x at. all x (inr at)))

  -- ---- rounds

  module _ (waits : List X → X → Bool) where
    abbrev pub round : List X → List X
    round xs = filter (waits xs) xs

    abbrev pub after : ℕ → List X → List X
    after zero xs = xs
    after (suc n) xs = after n (round xs)

    -- each waits for one of them
    abbrev pub IsClosed : List X → Type 0
    IsClosed xs = (x : X) → IsIn x xs → waits xs x ≡ true

    -- those that are left are of the first
    pub left_are_of : (n : ℕ) (xs : List X) (x : X) → IsIn x (after n xs) → IsIn x xs
    left_are_of zero xs x at = at
    left_are_of (suc n) xs x at = (passes (waits xs) x xs (left_are_of n (round xs) x at)).0

    closed_stays : (n : ℕ) (xs : List X) → IsClosed xs → after n xs ≡ xs
    closed_stays zero xs closed = refl
    closed_stays (suc n) xs closed = let same : round xs ≡ xs = all_pass (waits xs) xs closed in ap (after n) same ∙ closed_stays n xs closed

    -- after as many rounds as there are elements, each that is left waits for one that is left
    pub closed_after : (n : ℕ) (xs : List X) → length xs ≤ n → IsClosed (after n xs)
    closed_after zero [] most = λ x at. absurd at
    closed_after zero (x ∷ xs) most = absurd (omega (arith, most))
    closed_after (suc n) xs most = elim (cases_lt n (length (round xs))) as (λ _. IsClosed (after n (round xs))) [
      | inl as_many ↦
          let all = all_stay (waits xs) xs (omega (arith, as_many, most)) in
          let same : after n (round xs) ≡ xs = ap (after n) all.0 ∙ closed_stays n xs all.1 in
          subst IsClosed (sym same) all.1
      | inr fewer ↦ closed_after n (round xs) fewer
    ]

    -- elements that wait for one another stay in each round
    module _ (more : (xs ys : List X) → ((x : X) → IsIn x xs → IsIn x ys) → (x : X) → waits xs x ≡ true → waits ys x ≡ true) where
      pub they_stay : (n : ℕ) (xs ys : List X) → IsClosed xs → ((x : X) → IsIn x xs → IsIn x ys) → (x : X) → IsIn x xs → IsIn x (after n ys)
      they_stay zero xs ys closed within x at = within x at
      they_stay (suc n) xs ys closed within x at =
          they_stay n xs (round ys) closed (λ y among. kept (waits ys) y ys (more xs ys within y (closed y among)) (within y among)) x at

  -- ---- a way back

  -- where each leads on to one of them, one leads back to itself
  pub one_leads_back : (T : X → X → Type 0) → ((x y z : X) → T x y → T y z → T x z) → (xs : List X)
      → ((x : X) → IsIn x xs → (y : X) × IsIn y xs × T x y) → (x : X) → IsIn x xs → (y : X) × T y y
  one_leads_back T on [] each x at = absurd at
  one_leads_back T on (h ∷ xs) each x at =
      let first = each h (inl refl) in
      elim first.1 as (λ _. (y : X) × T y y) [
        | inl same ↦ (h, subst (λ y. T h y) same first.2)
        | inr among ↦
            one_leads_back T on xs
            (λ y in_rest.
            let next = each y (inr in_rest) in
            elim next.1 as (λ _. (z : X) × IsIn z xs × T y z) [
              | inl back ↦ (first.0, among, on y h first.0 (subst (λ z. T y z) back next.2) first.2)
              | inr further ↦ (next.0, further, next.2)
            ])
            first.0 among
      ]
