-- The JSON of a value (CWL v1.2, "Data concepts", "File" and "Directory").
use Rattle.std.specs.Prelude.{ℕ, Bool, ◌-◌, List, [], ◌∷◌, length, fold, insert, map, Option, Some, None, option_map, option_and_then, unwrap_or, codes}
use Rattle.std.specs.Ordering.{is_lt}
use Rattle.std.specs.List.{suffix_len}
use Rattle.plain_data.specs.ByName.{name_cmp, map_values}
use Rattle.serde_json.specs.Data.{Data, null, boolean, number, string, array, object, unsigned, Members, no_members, put}
use Rattle.serde_json.specs.View.{items_of}
use Rattle.serde_json.specs.Find.{of_integer, get, as_str}
use Rattle.cwl_value.specs.NameParts.{nameroot, nameext}
use Rattle.cwl_value.specs.declared.place.Place.{Place}
use Rattle.cwl_value.specs.declared.place.Place.TheVariants.{Nowhere, Url, Path, Made}
use Rattle.cwl_value.specs.declared.value.Value.{Value, fold-Value}
use Rattle.cwl_value.specs.declared.value.FileVal.{FileVal, fold-FileVal}
use Rattle.cwl_value.specs.declared.value.DirVal.{DirVal, fold-DirVal}
use Rattle.cwl_value.specs.declared.value.Value.TheOpen.{Value-F, FileVal-F, DirVal-F}

-- an object's members, put in one by one: serde_json keeps them in the order of their names' bytes
abbrev pub object_of : List (List ℕ × Data) → Members
object_of = fold (λ members m. put m.0 m.1 members) no_members

-- the same where a member may be absent
abbrev pub with_member : List ℕ → Option Data → Members → Members
with_member name None members = members
with_member name (Some d) members = put name d members

abbrev pub members_of : List (List ℕ × Option Data) → Members
members_of = fold (λ members m. with_member m.0 m.1 members) no_members

abbrev pub text_json : Option (List ℕ) → Option Data
text_json = option_map string

-- a path, or a place in a job's output, is not written
abbrev pub location_json : Place → Option Data
location_json Nowhere = None
location_json (Url location) = Some (string location)
location_json (Path path) = None
location_json (Made job name) = None

-- an array, where it has items
abbrev pub unless_empty : List Data → Option Data
unless_empty [] = None
unless_empty (d ∷ ds) = Some (array (items_of (d ∷ ds)))

abbrev pub size_json : Option ℕ → Option Data
size_json = option_map (λ n. number (unsigned n))

-- the fields of a File
abbrev pub file_members : FileVal-F Data Data Data → List (List ℕ × Option Data)
file_members f = (codes "basename", text_json f.basename)
    ∷ (codes "checksum", text_json f.checksum)
    ∷ (codes "class", Some (string (codes "File")))
    ∷ (codes "contents", text_json f.contents)
    ∷ (codes "location", location_json f.place)
    ∷ (codes "nameext", text_json (option_map nameext f.basename))
    ∷ (codes "nameroot", text_json (option_map nameroot f.basename))
    ∷ (codes "secondaryFiles", unless_empty f.secondary)
    ∷ (codes "size", size_json f.size)
    ∷ []

abbrev pub file_json : FileVal-F Data Data Data → Data
file_json f = object (members_of (file_members f))

-- A listing is in the order of its names: each entry goes before the last ones whose names are all above its own.
-- That this keeps the entries and sorts them is `ListingsAreInOrder` of Laws.antt.

-- the basename of an entry; empty where it has none
abbrev pub name_in : Data → List ℕ
name_in d = unwrap_or (option_and_then as_str (get (codes "basename") d)) []

-- the second's name is above the first's
abbrev pub is_above : Data → Data → Bool
is_above d e = is_lt (name_cmp (name_in d) (name_in e))

abbrev pub with_entry : List Data → Data → List Data
with_entry ds d = insert ds (length ds - suffix_len (is_above d) ds) d

abbrev pub by_name : List Data → List Data
by_name = fold with_entry []

abbrev pub listing_json : Option (List Data) → Option Data
listing_json = option_map (λ ds. array (items_of (by_name ds)))

-- the fields of a Directory
abbrev pub dir_members : DirVal-F Data Data Data → List (List ℕ × Option Data)
dir_members d = (codes "basename", text_json d.basename)
    ∷ (codes "class", Some (string (codes "Directory")))
    ∷ (codes "listing", listing_json d.listing)
    ∷ (codes "location", location_json d.place)
    ∷ []

abbrev pub dir_json : DirVal-F Data Data Data → Data
dir_json d = object (members_of (dir_members d))

-- one level of a value, what it holds being JSON already
abbrev pub value_json : Value-F Data Data Data → Data
value_json Value-F.Null = null
value_json (Value-F.Bool b) = boolean b
value_json (Value-F.Whole n) = number (of_integer n)
value_json (Value-F.Text s) = string s
value_json (Value-F.FileVal d) = d
value_json (Value-F.DirVal d) = d
value_json (Value-F.List ds) = array (items_of ds)
value_json (Value-F.Fields ds) = object (object_of ds)

-- the JSON of a value
abbrev pub json_of : Value → Data
json_of = fold-Value Data Data Data value_json dir_json file_json

-- the same of a File, a Directory and the values of a list

abbrev pub file_data : FileVal → Data
file_data = fold-FileVal Data Data Data value_json dir_json file_json

abbrev pub dir_data : DirVal → Data
dir_data = fold-DirVal Data Data Data value_json dir_json file_json

abbrev pub items_json : List Value → List Data
items_json = map json_of

abbrev pub fields_json : List (List ℕ × Value) → Members
fields_json fields = object_of (map_values json_of fields)
