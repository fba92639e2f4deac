-- The map that the rows of a table are whose first column is a key: a rowid stands before the columns of each.
use Rattle.std.specs.Prelude.{◌≡◌, ℕ, ℤ, Bool, false, List, drop, find, Option, option_map, bytes_eq}
use Rattle.std.specs.declared.cmp.Ordering.TheVariants.{Equal}
use Rattle.sqlite.specs.declared.types.Value.{Value}
use Rattle.sqlite.specs.declared.types.Value.TheVariants.{Int, Text}
use Rattle.sqlite.specs.Order.{Row as Columns, column, value_cmp}
use Rattle.sqlite.specs.Tree.{rowid}
use Rattle.sqlite_rules.specs.Lists.{Has}

abbrev pub is_text : List ℕ → Value → Bool
is_text key (Text t) = bytes_eq t key
is_text key _ = false

abbrev pub is_keyed : List ℕ → Columns → Bool
is_keyed key row = is_text key (column row 1)

abbrev pub held_in : List Columns → List ℕ → Option Columns
held_in rows key = option_map (drop 1) (find (is_keyed key) rows)

abbrev pub AreKeysApart : List Columns → Type 0
AreKeysApart rows = (a b : Columns) → Has rows a → Has rows b → column a 1 ≡ column b 1 → a ≡ b

-- each rowid is a number, and no two rows have one rowid or one key
pub record IsKeyed (rows : List Columns) : Type 0 where
  pub ids : (r : Columns) → Has rows r → (id : ℤ) × (rowid r ≡ Int id)
  pub rowids : (a b : Columns) → Has rows a → Has rows b → value_cmp (rowid a) (rowid b) ≡ Equal → a ≡ b
  pub keys : AreKeysApart rows
