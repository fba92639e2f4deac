-- For private clauses: what indexes have under ids, and which lists they stand for.
use Rattle.std.specs.Borrow.{Bor}
use Rattle.std.specs.Prelude.{◌≡◌, ℕ, List, Bool, Option}
use Rattle.std.specs.BTreeMap as tree
use Rattle.std.specs.BTreeMap.{BTreeMap}
use Rattle.std.specs.BTreeSet as sorted
use Rattle.std.specs.BTreeSet.{BTreeSet}
use Rattle.std.specs.Cmp.Lexicographic.{slice_cmp}
use Rattle.std.specs.Option.{option_copied}
use Rattle.std.specs.Ordering.{nat_cmp}
use Rattle.plain_data.specs.ByName.{value_at}
use Rattle.workflow_check.specs.Scope.{Named, lists}

-- what a map has under an id
abbrev pub under : {X : Type 0} → List ℕ → BTreeMap (Bor (List ℕ)) X → Option X
under id values = tree.get_by (λ k. slice_cmp nat_cmp id k.now) values

-- a set has a text
abbrev pub is_held : List ℕ → BTreeSet (Bor (List ℕ)) → Bool
is_held text held = sorted.contains_by (λ k. slice_cmp nat_cmp text k.now) held

-- the map has under each id what is found by going down the entries
abbrev pub IsMapOf : {X : Type 0} → BTreeMap (Bor (List ℕ)) X → Named X → Type 0
IsMapOf values entries = (id : List ℕ) → under id values ≡ value_at id entries

-- the same of a map to what is lent
abbrev pub IsLentMapOf : {X : Type 0} → BTreeMap (Bor (List ℕ)) (Bor X) → Named X → Type 0
IsLentMapOf values entries = (id : List ℕ) → option_copied (under id values) ≡ value_at id entries

-- the set has these texts and no other
abbrev pub IsSetOf : BTreeSet (Bor (List ℕ)) → List (List ℕ) → Type 0
IsSetOf held texts = (text : List ℕ) → is_held text held ≡ lists texts text
