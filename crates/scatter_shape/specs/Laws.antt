-- What holds of all scatters, in the words of the standard; each law is the contract of a function in src/laws.rt.
use Rattle.std.specs.Prelude.{◌≡◌, ◌<◌, ℕ, List, [], ◌∷◌, ◌⊎◌, ◌↔◌, map, fold, replicate, All, AllPairs, Contains, Option, Some, None, slice_set}
use Rattle.cwl_value.specs.declared.value.Value.{Value}
use Rattle.scatter_shape.specs.declared.shape.Method.{Method}
use Rattle.scatter_shape.specs.declared.tuples.TheConstants.{MOST_TUPLES}
use Rattle.scatter_shape.specs.Tuples.{below, cross, tuples_of}
use Rattle.scatter_shape.specs.Gathered.{filled, gathered}

-- one entry for each length, each below its own
abbrev pub IsBelow : List ℕ → List ℕ → Type 0
IsBelow [] [] = Unit {0}
IsBelow (i ∷ is) (n ∷ ns) = (i < n) × IsBelow is ns
IsBelow [] (n ∷ ns) = ⊥
IsBelow (i ∷ is) [] = ⊥

-- the first entry in which two tuples differ is less in the first tuple
abbrev pub IsBefore : List ℕ → List ℕ → Type 0
IsBefore (i ∷ is) (j ∷ js) = (i < j) ⊎ ((i ≡ j) × IsBefore is js)
IsBefore _ _ = ⊥

-- exactly the tuples below the lengths; each once, since they rise and no tuple is before itself
pub record AreAllBelow (lengths : List ℕ) (tuples : List (List ℕ)) : Type 0 where
  pub all_below : (tuple : List ℕ) → Contains tuples tuple ↔ IsBelow tuple lengths
  pub rising : AllPairs IsBefore tuples

abbrev pub TuplesAreAllBelow : Type 0
TuplesAreAllBelow = (lengths : List ℕ) → AreAllBelow lengths (cross lengths)

-- values in the order of their tuples are gathered with each at its own tuple
abbrev pub EachValueAtItsTuple : Type 0
EachValueAtItsTuple =
    (method : Method) (lengths : List ℕ) (at : List ℕ → Value) →
    gathered method lengths (map at (tuples_of method lengths)) ≡ filled method lengths at

-- one end after another, each a tuple's number and its value
abbrev pub after_ends : List (Option Value) → List (ℕ × Value) → List (Option Value)
after_ends slots ends = fold (λ now end. slice_set now end.0 (Some end.1)) slots ends

-- ends in any order, each with its tuple's own value, leave each tuple with its own, once each has ended
abbrev pub AnyOrderOfEnds : Type 0
AnyOrderOfEnds =
    (n : ℕ) (at : ℕ → Value) (ends : List (ℕ × Value)) →
    All (λ end. end.1 ≡ at end.0) ends → ((k : ℕ) → k < n → Contains (map (λ end. end.0) ends) k) →
    after_ends (replicate n None) ends ≡ map (λ k. Some (at k)) (below n)

-- the limit of tuples, as a number (own)
abbrev pub AreLimited : Type 0
AreLimited = MOST_TUPLES ≡ 16384
