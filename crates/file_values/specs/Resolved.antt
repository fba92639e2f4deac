-- A value whose Files and Directories have paths and names (CWL v1.2, "File", "Directory").
use Rattle.std.specs.Prelude.{ℕ, Bool, false, ◌||◌, ◌&&◌, if◌then◌else◌, List, [], ◌∷◌, map, codes, Option, Some, None, Ok, Err}
use Rattle.std.specs.Option.{option_map_or}
use Rattle.url.specs.Parts.{Parts}
use Rattle.cwl_value.specs.Fileless.{some_true}
use Rattle.cwl_value.specs.Reading.{is_name}
use Rattle.cwl_value.specs.Secondary.{is_new, are_distinct}
use Rattle.cwl_value.specs.declared.place.Place.{Place}
use Rattle.cwl_value.specs.declared.place.Place.TheVariants as place
use Rattle.cwl_value.specs.declared.value.Value.{Value, fold-Value}
use Rattle.cwl_value.specs.declared.value.Value as value
use Rattle.cwl_value.specs.declared.value.Value.TheOpen.{Value-F, FileVal-F, DirVal-F}
use Rattle.cwl_value.specs.declared.value.FileVal.{FileVal, roll-FileVal, fold-FileVal}
use Rattle.cwl_value.specs.declared.value.DirVal.{DirVal, roll-DirVal, fold-DirVal}
use Rattle.file_values.specs.Location.{Finds, and_map, and_then, located, placed, is_long}
use Rattle.file_values.specs.Names.{last_component}
use Rattle.file_values.specs.declared.refusal.FileFault.TheVariants.{NotAFileUrl}

-- each of them, or the first refusal
abbrev pub all_found : {T : Type 0} → List (Finds T) → Finds (List T)
all_found [] = Ok []
all_found (r ∷ rs) = and_then r (λ x. and_map (λ xs. x ∷ xs) (all_found rs))

-- a location becomes the path that it names, and a path is joined to the base's folder
abbrev pub place_resolved : Parts → Place → Finds Place
place_resolved base place.Nowhere = Ok place.Nowhere
place_resolved base (place.Url location) = and_map place.Path (located base location)
place_resolved base (place.Path path) = and_map place.Path (placed base path)
place_resolved base (place.Made job name) = Ok (place.Made job name)

-- the path that a place ends in
abbrev pub path_at : Place → List ℕ
path_at place.Nowhere = []
path_at (place.Url location) = location
path_at (place.Path path) = path
path_at (place.Made job name) = name

-- the path's last component that isn't empty, unless there is none, or it is `.` or `..`
abbrev pub name_in : List ℕ → Finds (List ℕ)
name_in path = if is_name (last_component path) then Ok (last_component path) else Err NotAFileUrl

-- the basename as it is written, or that of the place
abbrev pub named : Option (List ℕ) → Place → Finds (List ℕ)
named (Some name) place = Ok name
named None place = name_in (path_at place)

-- whether the names of the values differ from this one and from each other
abbrev pub differ_beside : List ℕ → List Value → Bool
differ_beside name vs = is_new (Some name) vs && are_distinct vs

-- the values, where their names differ so
abbrev pub distinct_beside : List ℕ → List Value → Finds (List Value)
distinct_beside name vs = if differ_beside name vs then Ok vs else Err NotAFileUrl

-- the values, where their names differ
abbrev pub distinct_inside : List Value → Finds (List Value)
distinct_inside vs = if are_distinct vs then Ok vs else Err NotAFileUrl

abbrev pub listing_resolved : Option (List (Finds Value)) → Finds (Option (List Value))
listing_resolved None = Ok None
listing_resolved (Some rs) = and_map Some (and_then (all_found rs) distinct_inside)

-- a File at a place, with a name, where the names of its secondary files differ
abbrev pub file_at : Option (List ℕ) → Option ℕ → Option (List ℕ) → Place → List ℕ → List Value → Finds FileVal
file_at checksum size contents place name found =
    and_map (λ secondary. roll-FileVal (record { place = place; basename = Some name; checksum = checksum; size = size; contents = contents; secondary = secondary }))
    (distinct_beside name found)

abbrev pub file_level : Parts → FileVal-F (Finds Value) (Finds DirVal) (Finds FileVal) → Finds FileVal
file_level base f =
    and_then (place_resolved base f.place) (λ place.
    and_then (named f.basename place) (λ name.
    and_then (all_found f.secondary) (file_at f.checksum f.size f.contents place name)))

abbrev pub dir_level : Parts → DirVal-F (Finds Value) (Finds DirVal) (Finds FileVal) → Finds DirVal
dir_level base d =
    and_then (place_resolved base d.place) (λ place.
    and_then (named d.basename place) (λ name.
    and_map (λ listing. roll-DirVal (record { place = place; basename = Some name; listing = listing })) (listing_resolved d.listing)))

-- fields, each of which was found
abbrev pub fields_found : List (List ℕ × Finds Value) → Finds (List (List ℕ × Value))
fields_found rs = all_found (map (λ e. and_map (λ v. (e.0, v)) e.1) rs)

abbrev pub value_level : Value-F (Finds Value) (Finds DirVal) (Finds FileVal) → Finds Value
value_level Value-F.Null = Ok value.Null
value_level (Value-F.Bool b) = Ok (value.Bool b)
value_level (Value-F.Whole n) = Ok (value.Whole n)
value_level (Value-F.Text s) = Ok (value.Text s)
value_level (Value-F.FileVal f) = and_map value.FileVal f
value_level (Value-F.DirVal d) = and_map value.DirVal d
value_level (Value-F.List rs) = and_map value.List (all_found rs)
value_level (Value-F.Fields rs) = and_map value.Fields (fields_found rs)

-- every place resolved on a base and every name filled in, at any depth, or the first refusal
abbrev pub resolved : Parts → Value → Finds Value
resolved base = fold-Value (Finds Value) (Finds DirVal) (Finds FileVal) value_level (dir_level base) (file_level base)

abbrev pub file_resolved : Parts → FileVal → Finds FileVal
file_resolved base = fold-FileVal (Finds Value) (Finds DirVal) (Finds FileVal) value_level (dir_level base) (file_level base)

abbrev pub dir_resolved : Parts → DirVal → Finds DirVal
dir_resolved base = fold-DirVal (Finds Value) (Finds DirVal) (Finds FileVal) value_level (dir_level base) (file_level base)

-- Where a place is too long for `url`.

abbrev pub is_long_place : Parts → Place → Bool
is_long_place base place.Nowhere = false
is_long_place base (place.Url location) = is_long base location
is_long_place base (place.Path path) = is_long base (codes ".")
is_long_place base (place.Made job name) = false

abbrev pub long_file : Parts → FileVal-F Bool Bool Bool → Bool
long_file base f = is_long_place base f.place || some_true f.secondary

abbrev pub long_dir : Parts → DirVal-F Bool Bool Bool → Bool
long_dir base d = is_long_place base d.place || option_map_or some_true d.listing false

abbrev pub long_value : Value-F Bool Bool Bool → Bool
long_value (Value-F.FileVal f) = f
long_value (Value-F.DirVal d) = d
long_value (Value-F.List flags) = some_true flags
long_value (Value-F.Fields flags) = some_true (map (λ e. e.1) flags)
long_value _ = false

-- some place in the value is that long
abbrev pub has_long : Parts → Value → Bool
has_long base = fold-Value Bool Bool Bool long_value (long_dir base) (long_file base)

abbrev pub file_has_long : Parts → FileVal → Bool
file_has_long base = fold-FileVal Bool Bool Bool long_value (long_dir base) (long_file base)

abbrev pub dir_has_long : Parts → DirVal → Bool
dir_has_long base = fold-DirVal Bool Bool Bool long_value (long_dir base) (long_file base)
