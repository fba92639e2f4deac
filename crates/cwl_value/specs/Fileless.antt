-- Values without Files and Directories, and JSON that is seen to stand for one.
use Rattle.std.specs.Prelude.{◌≡◌, ℕ, Bool, true, false, not, ◌&&◌, ◌||◌, nat_le, List, map, Ok, is_some, bytes_eq, codes}
use Rattle.std.specs.List.{list_any}
use Rattle.serde_json.specs.Data.{Data, null, boolean, number, string, array, object, Items, no_items, item, Members, no_members, member, depth}
use Rattle.serde_json.specs.Find.{as_i64}
use Rattle.cwl_value.specs.Reading.{class_in, greatest_depth, reading}
use Rattle.cwl_value.specs.declared.value.Value.{Value, fold-Value}
use Rattle.cwl_value.specs.declared.value.Value.TheOpen.{Value-F}

-- ---- values

abbrev pub some_true : List Bool → Bool
some_true flags = list_any (λ flag. flag) flags

abbrev pub files_at : Value-F Bool Bool Bool → Bool
files_at (Value-F.FileVal file) = true
files_at (Value-F.DirVal dir) = true
files_at (Value-F.List flags) = some_true flags
files_at (Value-F.Fields flags) = some_true (map (λ e. e.1) flags)
files_at _ = false

-- whether a value is a File or Directory, or holds one at any depth
abbrev pub holds_files : Value → Bool
holds_files = fold-Value Bool Bool Bool files_at (λ dir. true) (λ file. true)

-- ---- JSON

abbrev pub is_class_of_files : List ℕ → Bool
is_class_of_files class = bytes_eq class (codes "File") || bytes_eq class (codes "Directory")

-- each number is a whole one of 64 bits with a sign, and no object has the class of a File or Directory
abbrev mutual
  pub is_fileless : Data → Bool
  is_fileless null = true
  is_fileless (boolean b) = true
  is_fileless (number n) = is_some (as_i64 n)
  is_fileless (string s) = true
  is_fileless (array ds) = items_are_fileless ds
  is_fileless (object ms) = not (is_class_of_files (class_in ms)) && members_are_fileless ms

  pub items_are_fileless : Items → Bool
  items_are_fileless no_items = true
  items_are_fileless (item d ds) = is_fileless d && items_are_fileless ds

  pub members_are_fileless : Members → Bool
  members_are_fileless no_members = true
  members_are_fileless (member k d ms) = is_fileless d && members_are_fileless ms

abbrev pub stands_fileless : Data → Bool
stands_fileless d = is_fileless d && nat_le (depth d) greatest_depth

-- such JSON stands for a value that holds no File and no Directory
abbrev pub FilelessJsonStandsForValues : Type 0
FilelessJsonStandsForValues = (d : Data) → stands_fileless d ≡ true → (v : Value) × (reading d ≡ Ok v) × (holds_files v ≡ false)
