-- One round of a loop that goes down a list with a test.
use Rattle.std.proofs.Common.{◌≡◌, ◌∙◌, ℕ, suc, ◌+◌, ◌<◌, ◌≤◌, Bool, true, false, List, [], ◌∷◌, length, drop, map, get_or, sym, ap, subst, add-one, drop-cons}
use Rattle.std.specs.Prelude.{◌||◌, ◌&&◌}
use Rattle.std.specs.List.{list_any, list_all}
use Rattle.std.proofs.lemmas.List.{drop_all}

-- an element of a slice of the list
pub record IsAt {X : Type 0} (xs slice : List X) (i : ℕ) (x : X) : Type 0 where
  pub same : slice ≡ xs
  pub within : i < length slice
  pub is : x ≡ get_or slice i x

module _ {X : Type 0} where
  -- what is left at an element begins with it
  left_at : (xs : List X) (i : ℕ) (x : X) → i < length xs → x ≡ get_or xs i x → drop i xs ≡ x ∷ drop (i + 1) xs
  left_at xs i x within is = rw (add-one, drop-cons xs i x) (ap (λ y. y ∷ drop (suc i) xs) (sym is))

  left : (xs slice : List X) (i : ℕ) (x : X) → IsAt xs slice i x → drop i xs ≡ x ∷ drop (i + 1) xs
  left xs slice i x at = left_at xs i x (subst (λ ys. i < length ys) at.same at.within) (at.is ∙ ap (λ ys. get_or ys i x) at.same)

  -- past the end nothing is left
  none_left : (xs slice : List X) (i : ℕ) → slice ≡ xs → length slice ≤ i → drop i xs ≡ []
  none_left xs slice i same past = drop_all i xs (subst (λ ys. length ys ≤ i) same past)

  module _ (p : X → Bool) (xs slice : List X) (i : ℕ) where
    -- an element that fails decides that not all pass
    pub all_failed : (x : X) → IsAt xs slice i x → list_all p (drop i xs) ≡ list_all p xs → p x ≡ false → false ≡ list_all p xs
    all_failed x at rest fails = sym (ap (λ b. b && list_all p (drop (i + 1) xs)) fails) ∙ sym (ap (list_all p) (left xs slice i x at)) ∙ rest

    -- after one that passes the rest decides
    pub all_passed : (x : X) → IsAt xs slice i x → list_all p (drop i xs) ≡ list_all p xs → p x ≡ true → list_all p (drop (i + 1) xs) ≡ list_all p xs
    all_passed x at rest passes = sym (ap (λ b. b && list_all p (drop (i + 1) xs)) passes) ∙ sym (ap (list_all p) (left xs slice i x at)) ∙ rest

    pub all_done : slice ≡ xs → length slice ≤ i → list_all p (drop i xs) ≡ list_all p xs → true ≡ list_all p xs
    all_done same past rest = sym (ap (list_all p) (none_left xs slice i same past)) ∙ rest

  module _ {V : Type 0} (f : X → V → Bool) (v : V) where
    -- whether one of the tests that the elements stand for passes
    abbrev pub any_in : List X → Bool
    any_in ys = list_any (λ test. test v) (map f ys)

    module _ (xs slice : List X) (i : ℕ) where
      -- an element that passes decides that one does
      pub any_met : (x : X) → IsAt xs slice i x → any_in (drop i xs) ≡ any_in xs → f x v ≡ true → true ≡ any_in xs
      any_met x at rest passes = sym (ap (λ b. b || any_in (drop (i + 1) xs)) passes) ∙ sym (ap any_in (left xs slice i x at)) ∙ rest

      -- after one that fails the rest decides
      pub any_missed : (x : X) → IsAt xs slice i x → any_in (drop i xs) ≡ any_in xs → f x v ≡ false → any_in (drop (i + 1) xs) ≡ any_in xs
      any_missed x at rest fails = sym (ap (λ b. b || any_in (drop (i + 1) xs)) fails) ∙ sym (ap any_in (left xs slice i x at)) ∙ rest

      pub any_done : slice ≡ xs → length slice ≤ i → any_in (drop i xs) ≡ any_in xs → false ≡ any_in xs
      any_done same past rest = sym (ap any_in (none_left xs slice i same past)) ∙ rest
