-- Which files may be beside a File, and which in a Directory (CWL v1.2, "File": secondaryFiles; "Directory": listing).
use Rattle.std.specs.Prelude.{ℕ, Bool, true, false, not, ◌&&◌, List, [], ◌∷◌, Option, Some, None, bytes_eq}
use Rattle.std.specs.Option.{option_map_or}
use Rattle.std.specs.List.{list_all, list_any}
use Rattle.cwl_value.specs.declared.value.Value.{Value, out-Value}
use Rattle.cwl_value.specs.declared.value.Value.TheOpen.{Value-F}
use Rattle.cwl_value.specs.declared.value.FileVal.{FileVal, out-FileVal}
use Rattle.cwl_value.specs.declared.value.DirVal.{DirVal, out-DirVal}

abbrev pub is_empty : List Value → Bool
is_empty [] = true
is_empty (v ∷ vs) = false

-- a File with no secondary files of its own, or a Directory
abbrev pub is_secondary_level : Value-F Value DirVal FileVal → Bool
is_secondary_level (Value-F.FileVal f) = is_empty (out-FileVal f).secondary
is_secondary_level (Value-F.DirVal d) = true
is_secondary_level _ = false

abbrev pub is_secondary : Value → Bool
is_secondary v = is_secondary_level (out-Value v)

abbrev pub is_file_level : Value-F Value DirVal FileVal → Bool
is_file_level (Value-F.FileVal f) = true
is_file_level (Value-F.DirVal d) = true
is_file_level _ = false

-- a File or a Directory
abbrev pub is_file : Value → Bool
is_file v = is_file_level (out-Value v)

abbrev pub name_level : Value-F Value DirVal FileVal → Option (List ℕ)
name_level (Value-F.FileVal f) = (out-FileVal f).basename
name_level (Value-F.DirVal d) = (out-DirVal d).basename
name_level _ = None

-- the basename, where it is written
abbrev pub name_of : Value → Option (List ℕ)
name_of v = name_level (out-Value v)

abbrev pub has_name : List ℕ → Value → Bool
has_name name v = option_map_or (bytes_eq name) (name_of v) false

-- none of the values has this name
abbrev pub is_new : Option (List ℕ) → List Value → Bool
is_new None vs = true
is_new (Some name) vs = not (list_any (has_name name) vs)

-- the names that are written differ
abbrev pub are_distinct : List Value → Bool
are_distinct [] = true
are_distinct (v ∷ vs) = is_new (name_of v) vs && are_distinct vs

-- they may be beside a File of this name
abbrev pub fit_beside : Option (List ℕ) → List Value → Bool
fit_beside name vs = list_all is_secondary vs && (is_new name vs && are_distinct vs)

-- they may be in a Directory
abbrev pub fit_inside : List Value → Bool
fit_inside vs = list_all is_file vs && are_distinct vs
