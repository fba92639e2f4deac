-- Tests and searches of a list through a view of its elements.
use Rattle.std.proofs.Common.{◌≡◌, ◌∙◌, Bool, true, false, cond, ◌||◌, List, [], ◌∷◌, ap, map, refl, Option, Some, option_map, find}
use Rattle.std.specs.List.{list_any}

pub any_of : {X Y : Type 0} (p : Y → Bool) (view : X → Y) (xs : List X) → list_any (λ x. p (view x)) xs ≡ list_any p (map view xs)
any_of p view [] = refl
any_of p view (x ∷ xs) = ap (λ b. p (view x) || b) (any_of p view xs)

chosen : {X Y : Type 0} (view : X → Y) (b : Bool) (x : X) (r : Option X) → option_map view (cond b (Some x) r) ≡ cond b (Some (view x)) (option_map view r)
chosen view true x r = refl
chosen view false x r = refl

pub find_of : {X Y : Type 0} (p : Y → Bool) (view : X → Y) (xs : List X) → option_map view (find (λ x. p (view x)) xs) ≡ find p (map view xs)
find_of p view [] = refl
find_of p view (x ∷ xs) = chosen view (p (view x)) x (find (λ y. p (view y)) xs) ∙ ap (λ r. cond (p (view x)) (Some (view x)) r) (find_of p view xs)
