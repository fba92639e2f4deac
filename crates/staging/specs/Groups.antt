-- What is copied together, in the order of a value's parts (CWL v1.2, "File": secondaryFiles, "Directory"), and what the value is once
-- it has been copied.
use Rattle.std.specs.Prelude.{ℕ, List, [], ◌∷◌, ◌++◌, map, Option, unwrap_or, option_map}
use Rattle.std.specs.List.{flat_map}
use Rattle.plain_data.specs.ByName.{map_values}
use Rattle.cwl_value.specs.declared.place.Place.{Place}
use Rattle.cwl_value.specs.declared.place.Place.TheVariants.{Nowhere, Url, Path, Made}
use Rattle.cwl_value.specs.declared.value.Value.{Value, fold-Value}
use Rattle.cwl_value.specs.declared.value.Value as value
use Rattle.cwl_value.specs.declared.value.Value.TheOpen.{Value-F, FileVal-F, DirVal-F}
use Rattle.cwl_value.specs.declared.value.FileVal.{FileVal, roll-FileVal, fold-FileVal}
use Rattle.cwl_value.specs.declared.value.DirVal.{DirVal, roll-DirVal, fold-DirVal}
use Rattle.staging.specs.declared.group.Member.{Member}

abbrev pub path_of : Place → List ℕ
path_of Nowhere = []
path_of (Url location) = []
path_of (Path path) = path
path_of (Made job name) = []

abbrev pub name_of : Option (List ℕ) → List ℕ
name_of name = unwrap_or name []

abbrev pub member_of : Place → Option (List ℕ) → Member
member_of place basename = record { source = path_of place; name = name_of basename }

-- the path of a name in a folder
abbrev pub path_in : List ℕ → List ℕ → List ℕ
path_in folder name = folder ++ 47 ∷ name

-- the folder that each group goes to
abbrev pub FolderOf : Type 0
FolderOf = List Member → List ℕ

-- A File or Directory itself, the groups of all that are in a value, and what the value is in the folders that they go to.
pub record Copied (T : Type 0) : Type 0 where
  pub own : List Member
  pub groups : List (List Member)
  pub moved : FolderOf → T

-- a File and its secondary files
abbrev pub group_of : FileVal-F (Copied Value) (Copied DirVal) (Copied FileVal) → List Member
group_of f = member_of f.place f.basename ∷ flat_map (λ c. c.own) f.secondary

-- a File in a folder, with its secondary files
abbrev pub file_inside : List ℕ → FileVal-F (Copied Value) (Copied DirVal) (Copied FileVal) → FileVal
file_inside folder f = roll-FileVal (record {
  place = Path (path_in folder (name_of f.basename));
  basename = f.basename;
  checksum = f.checksum;
  size = f.size;
  contents = f.contents;
  secondary = map (λ c. c.moved (λ _. folder)) f.secondary;
})

-- a File goes with its secondary files
abbrev pub file_copied : FileVal-F (Copied Value) (Copied DirVal) (Copied FileVal) → Copied FileVal
file_copied f = record {
  own = member_of f.place f.basename ∷ [];
  groups = group_of f ∷ [];
  moved = λ folder_of. file_inside (folder_of (group_of f)) f;
}

-- a Directory at a path, with what it lists in it
abbrev pub dir_at : List ℕ → DirVal-F (Copied Value) (Copied DirVal) (Copied FileVal) → DirVal
dir_at path d = roll-DirVal (record {
  place = Path path;
  basename = d.basename;
  listing = option_map (map (λ c. c.moved (λ _. path))) d.listing;
})

-- a Directory is copied whole
abbrev pub dir_copied : DirVal-F (Copied Value) (Copied DirVal) (Copied FileVal) → Copied DirVal
dir_copied d = record {
  own = member_of d.place d.basename ∷ [];
  groups = (member_of d.place d.basename ∷ []) ∷ [];
  moved = λ folder_of. dir_at (path_in (folder_of (member_of d.place d.basename ∷ [])) (name_of d.basename)) d;
}

-- nothing is copied
abbrev pub untouched : Value → Copied Value
untouched v = record { own = []; groups = []; moved = λ _. v }

abbrev pub value_copied : Value-F (Copied Value) (Copied DirVal) (Copied FileVal) → Copied Value
value_copied Value-F.Null = untouched value.Null
value_copied (Value-F.Bool b) = untouched (value.Bool b)
value_copied (Value-F.Whole n) = untouched (value.Whole n)
value_copied (Value-F.Text s) = untouched (value.Text s)
value_copied (Value-F.FileVal f) = record { own = f.own; groups = f.groups; moved = λ folder_of. value.FileVal (f.moved folder_of) }
value_copied (Value-F.DirVal d) = record { own = d.own; groups = d.groups; moved = λ folder_of. value.DirVal (d.moved folder_of) }
value_copied (Value-F.List cs) = record { own = []; groups = flat_map (λ c. c.groups) cs; moved = λ folder_of. value.List (map (λ c. c.moved folder_of) cs) }
value_copied (Value-F.Fields cs) = record { own = []; groups = flat_map (λ c. c.1.groups) cs; moved = λ folder_of. value.Fields (map_values (λ c. c.moved folder_of) cs) }

abbrev pub copied : Value → Copied Value
copied = fold-Value (Copied Value) (Copied DirVal) (Copied FileVal) value_copied dir_copied file_copied

abbrev pub copied_file : FileVal → Copied FileVal
copied_file = fold-FileVal (Copied Value) (Copied DirVal) (Copied FileVal) value_copied dir_copied file_copied

abbrev pub copied_dir : DirVal → Copied DirVal
copied_dir = fold-DirVal (Copied Value) (Copied DirVal) (Copied FileVal) value_copied dir_copied file_copied

-- the groups of values, as they are listed
abbrev pub groups_of_items : List Value → List (List Member)
groups_of_items vs = flat_map (λ v. (copied v).groups) vs

-- and those of fields, by the order of the names
abbrev pub groups_of_fields : List (List ℕ × Value) → List (List Member)
groups_of_fields fields = flat_map (λ e. (copied e.1).groups) fields

-- the values in the folders of their groups
abbrev pub items_moved : FolderOf → List Value → List Value
items_moved folder_of vs = map (λ v. (copied v).moved folder_of) vs

abbrev pub fields_moved : FolderOf → List (List ℕ × Value) → List (List ℕ × Value)
fields_moved folder_of fields = map_values (λ v. (copied v).moved folder_of) fields
