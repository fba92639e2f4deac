-- Words that the definitions share.
use Rattle.std.specs.Prelude.{ℕ, List, ◌&&◌, Bool, true, false, [], ◌∷◌, bytes_eq, fold}
use Rattle.plain_data.specs.ByName.{with_value}
use Rattle.cwl_value.specs.declared.place.Segment.{Segment}
use Rattle.cwl_value.specs.declared.value.Value.{Value}

-- a name, as the bytes of its text
abbrev pub Name : Type 0
Name = List ℕ

-- named values
abbrev pub Fields : Type 0
Fields = List (Name × Value)

-- the place of a job: the steps that lead to it, none for the job at the root (`main`)
abbrev pub JobPlace : Type 0
JobPlace = List Segment

-- entries put to those that are in the order of their names
abbrev pub put_from : {X : Type 0} → List (Name × X) → List (Name × X) → List (Name × X)
put_from sorted entries = fold (λ now e. with_value e.0 e.1 now) sorted entries

-- the entries in the order of their names
abbrev pub last_by_name : {X : Type 0} → List (Name × X) → List (Name × X)
last_by_name entries = put_from [] entries

abbrev pub segment_eq : Segment → Segment → Bool
segment_eq s t = bytes_eq s.step t.step && bytes_eq s.index t.index

-- whether two places are the same
abbrev pub is_same_place : JobPlace → JobPlace → Bool
is_same_place [] [] = true
is_same_place (s ∷ p) (t ∷ q) = segment_eq s t && is_same_place p q
is_same_place _ _ = false
