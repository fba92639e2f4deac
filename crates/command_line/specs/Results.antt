-- Values that may have a cause in their place.
use Rattle.std.specs.Prelude.{List, [], ◌∷◌, ◌++◌, Result, Ok, Err}

abbrev pub and_then : {S T E : Type 0} → Result S E → (S → Result T E) → Result T E
and_then (Ok x) f = f x
and_then (Err e) f = Err e

-- what each gives, one after the other, or the first cause
abbrev pub all_given : {X T E : Type 0} → (X → Result (List T) E) → List X → Result (List T) E
all_given f [] = Ok []
all_given f (x ∷ xs) = and_then (f x) (λ ys. and_then (all_given f xs) (λ zs. Ok (ys ++ zs)))
