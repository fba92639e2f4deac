-- What is put under the name that comes next.
use Rattle.std.proofs.Common.{◌≡◌, ◌∙◌, ℕ, ◌+◌, ◌<◌, ◌^◌, List, [], ◌∷◌, ◌++◌, length, reverse, refl, sym, ap, arith, length-append, codes}
use Rattle.std.proofs.lemmas.List.{reverse-append, reverse-reverse}
use Rattle.plain_data.specs.ByName.{with_value}
use Rattle.job_graph.specs.Words.{Name}
use Rattle.run_core.specs.inner.Turns.{PutsNext, no_turn, its_turn}

-- a list of one at least is not empty
none_there : (rest : List Name) (name : Name) → rest ++ name ∷ [] ≡ [] → ⊥
none_there [] name is = cc
none_there (x ∷ rest) name is = cc

-- the lists before the last, and the last, are the same
pub last_same : (one other : List Name) (a b : Name) → one ++ a ∷ [] ≡ other ++ b ∷ [] → (one ≡ other) × (a ≡ b)
last_same one other a b same =
    let turned : a ∷ reverse one ≡ b ∷ reverse other = sym (reverse-append one (a ∷ [])) ∙ ap reverse same ∙ reverse-append other (b ∷ []) in
    let front : reverse one ≡ reverse other = cc in
    (sym (reverse-reverse one) ∙ ap reverse front ∙ reverse-reverse other, cc)

-- this value was put under the last of these names
pub record IsTurn {T : Type 0} (left : List Name) (found : List (Name × T)) (value : T) (rest : List Name) (name : Name) (new_left : List Name) (new_found : List (Name × T)) : Type 0 where
  pub left_is : new_left ≡ rest
  pub found_is : new_found ≡ with_value name value found

turn_by : {T : Type 0} (left : List Name) (found : List (Name × T)) (value : T) (rest rest_two : List Name) (name name_two : Name) →
    left ≡ rest ++ name ∷ [] → left ≡ rest_two ++ name_two ∷ [] → IsTurn left found value rest name rest_two (with_value name_two value found)
turn_by left found value rest rest_two name name_two is so =
    let same : (rest_two ≡ rest) × (name_two ≡ name) = last_same rest_two rest name_two name (sym so ∙ is) in
    record { left_is = same.0; found_is = ap (λ (n : Name). with_value n value found) same.1 }

pub turn_of : {T : Type 0} (left : List Name) (found : List (Name × T)) (value : T) (rest : List Name) (name : Name) {new_left : List Name} {new_found : List (Name × T)} →
    left ≡ rest ++ name ∷ [] → PutsNext left found value new_left new_found → IsTurn left found value rest name new_left new_found
turn_of left found value rest name is (no_turn none) = absurd (none_there rest name (sym is ∙ none))
turn_of left found value rest name is (its_turn rest_two name_two so) = turn_by left found value rest rest_two name name_two is so

pub fewer : (rest : List Name) (name : Name) → length (rest ++ name ∷ []) < 2 ^ 64 → length rest < 2 ^ 64
fewer rest name few = let longer : length (rest ++ name ∷ []) ≡ length rest + 1 = length-append rest (name ∷ []) in omega arith

pub slash : (name : List ℕ) → codes "/" ++ name ≡ 47 ∷ name
slash name = refl
