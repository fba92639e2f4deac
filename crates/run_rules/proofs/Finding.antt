-- What is found in a list is one of its items.
use Rattle.std.specs.Prelude.{Contains}
use Rattle.std.proofs.Common.{◌≡◌, Bool, true, false, cond, suc, List, [], ◌∷◌, find, Option, Some, unwrap_or, ap, arith}

module _ {X : Type 0} (p : X → Bool) where
  by_first : (x : X) (xs : List X) (y : X) (holds : Bool) → cond holds (Some x) (find p xs) ≡ Some y → (find p xs ≡ Some y → Contains xs y) → Contains (x ∷ xs) y
  by_first x xs y true is rest = (0, omega arith, ap (λ (o : Option X). unwrap_or o y) is)
  by_first x xs y false is rest = let there : Contains xs y = rest is in (suc there.0, omega (arith, there.1), there.2)

  pub found_in : (xs : List X) (y : X) → find p xs ≡ Some y → Contains xs y
  found_in [] y is = absurd cc
  found_in (x ∷ xs) y is = by_first x xs y (p x) is (found_in xs y)
