-- Lists of named values: the order of names, looking one up, putting one in, and a list put in order.
use Rattle.std.specs.Prelude.{◌≡◌, ◌≢◌, ℕ, ◌+◌, ◌<◌, ◌≤◌, List, [], ◌∷◌, length, Option, Some, Result, MatchResult, map, slice_get, count_by, bytes_eq}
use Rattle.std.specs.Ordering.{nat_cmp}
use Rattle.std.specs.declared.cmp.Ordering.{Ordering}
use Rattle.std.specs.declared.cmp.Ordering.TheVariants.{Less, Greater}
use Rattle.std.specs.BTreeMap.{insert_entry}
use Rattle.std.specs.Cmp.Lexicographic.{slice_cmp}
use Rattle.std.specs.List.Sorted.{IsStrictlySortedBy}
use Rattle.std.specs.Map.{keys_of, lookup}

-- names compare by their bytes: the first that differ decide, and else the lengths do
abbrev pub name_cmp : List ℕ → List ℕ → Ordering
name_cmp = slice_cmp nat_cmp

module _ {X : Type 0} where
  -- the names, in the entries' order
  abbrev pub names : List (List ℕ × X) → List (List ℕ)
  names entries = keys_of entries

  -- each name is below all that come after it, so no name repeats
  abbrev pub IsByName : List (List ℕ × X) → Type 0
  IsByName entries = IsStrictlySortedBy name_cmp (names entries)

  -- the value beside a name: that of the first entry with the name's bytes
  abbrev pub value_at : List ℕ → List (List ℕ × X) → Option X
  value_at name entries = lookup (bytes_eq name) entries

  -- the entries with a value put under a name: in the place of the one that has the name, and else before the first greater name
  abbrev pub with_value : List ℕ → X → List (List ℕ × X) → List (List ℕ × X)
  with_value name value entries = insert_entry name_cmp entries name value

  -- the entries in the order of their names; of those with one name, the first
  abbrev pub by_name : List (List ℕ × X) → List (List ℕ × X)
  by_name [] = []
  by_name (e ∷ es) = with_value e.0 e.1 (by_name es)

  -- how often the name is among the entries
  abbrev pub times : List ℕ → List (List ℕ × X) → ℕ
  times name entries = count_by (bytes_eq name) (names entries)

  -- no name repeats
  abbrev pub IsOnce : List (List ℕ × X) → Type 0
  IsOnce entries = (name : List ℕ) → times name entries ≤ 1

  -- the entry at index has the name of the one before it
  pub record IsRepeatAt (entries : List (List ℕ × X)) (index : ℕ) : Type 0 where
    pub before : ℕ
    pub next : index ≡ before + 1
    pub within : index < length entries
    pub same : slice_get (names entries) before ≡ slice_get (names entries) index

  -- no entry below the bound has the name of the one before it
  abbrev pub IsUnrepeatedBelow : List (List ℕ × X) → ℕ → Type 0
  IsUnrepeatedBelow entries bound = (k : ℕ) → k + 1 < bound → slice_get (names entries) k ≢ slice_get (names entries) (k + 1)

  -- where a name that no entry has would be inserted: all before it are less, and the one there is greater
  pub record IsGapFor (name : List ℕ) (entries : List (List ℕ × X)) (index : ℕ) : Type 0 where
    pub fits : index ≤ length entries
    pub past : (k : ℕ) (e : List ℕ × X) → k < index → slice_get entries k ≡ Some e → name_cmp name e.0 ≡ Greater
    pub ahead : (e : List ℕ × X) → slice_get entries index ≡ Some e → name_cmp name e.0 ≡ Less

  -- the index of the name, or of the gap for it
  abbrev pub IsPlaceOf : List ℕ → List (List ℕ × X) → Result ℕ ℕ → Type 0
  IsPlaceOf name entries place = MatchResult place (λ index. slice_get (names entries) index ≡ Some name) (IsGapFor name entries)

-- the same names, with f of each value
abbrev pub map_values : {X Y : Type 0} → (X → Y) → List (List ℕ × X) → List (List ℕ × Y)
map_values f entries = map (λ e. (e.0, f e.1)) entries
