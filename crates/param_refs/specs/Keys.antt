-- The keys of Files and Directories (CWL v1.2, "File" and "Directory").
use Rattle.std.specs.Prelude.{ℕ, Bool, true, false, ◌==◌, ◌^◌, nat_lt, if◌then◌else◌, pos, List, [], ◌∷◌, Option, Some, None, option_map, option_and_then, codes}
use Rattle.std.specs.List.{before_last}
use Rattle.plain_data.specs.ByName.{value_at}
use Rattle.cwl_value.specs.NameParts.{nameroot, nameext}
use Rattle.cwl_value.specs.declared.place.Place.{Place}
use Rattle.cwl_value.specs.declared.place.Place.TheVariants.{Nowhere, Url, Path, Made}
use Rattle.cwl_value.specs.declared.value.Value.{Value}
use Rattle.cwl_value.specs.declared.value.Value as value
use Rattle.cwl_value.specs.declared.value.Value.TheOpen.{FileVal-F, DirVal-F}
use Rattle.cwl_value.specs.declared.value.FileVal.{FileVal}
use Rattle.cwl_value.specs.declared.value.DirVal.{DirVal}
use Rattle.param_refs.specs.Listings.{in_order}
use Rattle.param_refs.specs.Locations.{location_of}

-- a size in bytes: files of 2^63 bytes or more are out of every limit and have none
abbrev pub whole_of : ℕ → Option Value
whole_of n = if nat_lt n (2 ^ 63) then Some (value.Whole (pos n)) else None

abbrev pub text_of : Option (List ℕ) → Option Value
text_of = option_map value.Text

abbrev pub unless_empty : List Value → Option Value
unless_empty [] = None
unless_empty (v ∷ vs) = Some (value.List (v ∷ vs))

-- its path, where the reference may see it
abbrev pub path_of : Bool → Place → Option (List ℕ)
path_of true (Path path) = Some path
path_of true Nowhere = None
path_of true (Url location) = None
path_of true (Made job name) = None
path_of false place = None

-- what comes before the last `/`, or nothing
abbrev pub dirname : List ℕ → List ℕ
dirname path = before_last (λ b. b == 47) path

-- those of its JSON form; with `with_places`, where it is at a path, also that path in three forms
abbrev pub file_keys : Bool → FileVal-F Value DirVal FileVal → List (List ℕ × Option Value)
file_keys with_places f = (codes "basename", text_of f.basename)
    ∷ (codes "checksum", text_of f.checksum)
    ∷ (codes "class", Some (value.Text (codes "File")))
    ∷ (codes "contents", text_of f.contents)
    ∷ (codes "dirname", text_of (option_map dirname (path_of with_places f.place)))
    ∷ (codes "location", text_of (option_map location_of (path_of with_places f.place)))
    ∷ (codes "nameext", text_of (option_map nameext f.basename))
    ∷ (codes "nameroot", text_of (option_map nameroot f.basename))
    ∷ (codes "path", text_of (path_of with_places f.place))
    ∷ (codes "secondaryFiles", unless_empty f.secondary)
    ∷ (codes "size", option_and_then whole_of f.size)
    ∷ []

abbrev pub dir_keys : Bool → DirVal-F Value DirVal FileVal → List (List ℕ × Option Value)
dir_keys with_places d = (codes "basename", text_of d.basename)
    ∷ (codes "class", Some (value.Text (codes "Directory")))
    ∷ (codes "listing", option_map (λ vs. value.List (in_order vs)) d.listing)
    ∷ (codes "location", text_of (option_map location_of (path_of with_places d.place)))
    ∷ (codes "path", text_of (path_of with_places d.place))
    ∷ []

-- the value beside a key, where it is there
abbrev pub at_key : List ℕ → List (List ℕ × Option Value) → Option Value
at_key key table = option_and_then (λ v. v) (value_at key table)
