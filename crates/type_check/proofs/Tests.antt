-- Whether one of a list passes a test.
use Rattle.std.proofs.Common.{◌≡◌, ◌∙◌, Bool, true, false, List, [], ◌∷◌, map, refl, sym, ap}
use Rattle.std.specs.Prelude.{◌||◌}
use Rattle.std.specs.List.{list_any}

pub or_false : (a : Bool) → (a || false) ≡ a
or_false true = refl
or_false false = refl

or_true : (a : Bool) → (a || true) ≡ true
or_true true = refl
or_true false = refl

-- the second and the third change places
pub or_turned : (a b c d : Bool) → ((a || b) || (c || d)) ≡ ((a || c) || (b || d))
or_turned true b c d = refl
or_turned false true c d = sym (or_true c)
or_turned false false c d = refl

module _ {X : Type 0} where
  pub any_none : (xs : List X) → list_any (λ x. false) xs ≡ false
  any_none [] = refl
  any_none (x ∷ xs) = any_none xs

  pub any_either : (p q : X → Bool) (xs : List X) → list_any (λ x. p x || q x) xs ≡ (list_any p xs || list_any q xs)
  any_either p q [] = refl
  any_either p q (x ∷ xs) = ap (λ b. (p x || q x) || b) (any_either p q xs) ∙ or_turned (p x) (q x) (list_any p xs) (list_any q xs)

  pub any_alike : (p q : X → Bool) (xs : List X) → ((x : X) → p x ≡ q x) → list_any p xs ≡ list_any q xs
  any_alike p q [] same = refl
  any_alike p q (x ∷ xs) same = ap (λ b. b || list_any p xs) (same x) ∙ ap (λ b. q x || b) (any_alike p q xs same)

  pub any_mapped : {Y : Type 0} (f : Y → X) (p : X → Bool) (ys : List Y) → list_any p (map f ys) ≡ list_any (λ y. p (f y)) ys
  any_mapped f p [] = refl
  any_mapped f p (y ∷ ys) = ap (λ b. p (f y) || b) (any_mapped f p ys)
