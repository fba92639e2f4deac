-- The output object that a command wrote itself (CWL v1.2, Command Line Tool, "Output binding": cwl.output.json).
use Rattle.std.specs.Prelude.{ℕ, ◌&&◌, ◌==◌, nat_lt, if◌then◌else◌, List, [], ◌∷◌, map, codes, bytes_eq, Option, Some, None, Ok, Err}
use Rattle.std.specs.Str.{is_utf8}
use Rattle.plain_data.specs.ByName.{value_at}
use Rattle.cwl_value.specs.Reading.{Reads, reading}
use Rattle.cwl_value.specs.Secondary.{is_new, are_distinct}
use Rattle.cwl_value.specs.declared.refusal.ValueRefusal.TheVariants.{NotJson}
use Rattle.cwl_value.specs.declared.place.Place.{Place}
use Rattle.cwl_value.specs.declared.place.Place.TheVariants.{Nowhere, Url, Path, Made}
use Rattle.cwl_value.specs.declared.value.Value.{Value, out-Value, fold-Value}
use Rattle.cwl_value.specs.declared.value.Value as value
use Rattle.cwl_value.specs.declared.value.Value.TheOpen.{Value-F, FileVal-F, DirVal-F}
use Rattle.cwl_value.specs.declared.value.FileVal.{FileVal, out-FileVal, roll-FileVal, fold-FileVal}
use Rattle.cwl_value.specs.declared.value.DirVal.{DirVal, out-DirVal, roll-DirVal, fold-DirVal}
use Rattle.serde_json.specs.Data.{Data}
use Rattle.serde_json.specs.Read as json
use Rattle.staging.specs.Reading.{body}
use Rattle.collected_outputs.specs.declared.listing.Entry.{Entry}
use Rattle.collected_outputs.specs.declared.object.TheConstants.{MOST_OBJECT}
use Rattle.collected_outputs.specs.Contents.{Heads}
use Rattle.collected_outputs.specs.Gives.{Gives, and_map, and_then, all_given}
use Rattle.collected_outputs.specs.Listing.{Listing}
use Rattle.collected_outputs.specs.Matched.{Name}
use Rattle.collected_outputs.specs.Values.{basename_of, value_under}
use Rattle.collected_outputs.specs.declared.fault.CollectFault.TheVariants.{BadOutputObject, NameOutside}

abbrev pub Named : Type 0
Named = List (Name × Value)

-- What the file says: a JSON object of 1,048,576 bytes at most.

abbrev pub data_read : Option Data → Reads Value
data_read None = Err NotJson
data_read (Some d) = reading d

-- the value that bytes of JSON stand for
abbrev pub bytes_read : List ℕ → Reads Value
bytes_read bytes = (if is_utf8 bytes then data_read (json.read bytes) else Err NotJson)

abbrev pub fields_level : Value-F Value DirVal FileVal → Gives Named
fields_level (Value-F.Fields fields) = Ok fields
fields_level _ = Err BadOutputObject

abbrev pub fields_in : Reads Value → Gives Named
fields_in (Ok v) = fields_level (out-Value v)
fields_in (Err e) = Err BadOutputObject

abbrev pub fields_of : Option (List ℕ) → Gives Named
fields_of None = Err BadOutputObject
fields_of (Some bytes) = fields_in (bytes_read bytes)

abbrev pub object_of : Entry → Heads → Gives Named
object_of e heads = (if nat_lt MOST_OBJECT e.size then Err BadOutputObject else fields_of (value_at (codes "cwl.output.json") heads))

-- What its Files and Directories are: those that were found under the relative names that they have as location or path.

abbrev pub without_last_slash : List ℕ → List ℕ
without_last_slash [] = []
without_last_slash (c ∷ []) = (if c == 47 then [] else c ∷ [])
without_last_slash (c ∷ d ∷ text) = c ∷ without_last_slash (d ∷ text)

-- `./` before a name and a slash behind it are dropped
abbrev pub relative_name : Place → Gives Name
relative_name Nowhere = Err NameOutside
relative_name (Url location) = Ok (without_last_slash (body location))
relative_name (Path path) = Ok (without_last_slash (body path))
relative_name (Made job name) = Err NameOutside

-- the basename that is written, or that of the name; the output folder itself is called `out`
abbrev pub named : Option Name → Name → Name
named (Some basename) name = basename
named None name = (if bytes_eq name (codes ".") then codes "out" else basename_of name)

-- the File that stands there

abbrev pub file_level : Value-F Value DirVal FileVal → Gives FileVal
file_level (Value-F.FileVal f) = Ok f
file_level _ = Err NameOutside

abbrev pub file_in : Option Value → Gives FileVal
file_in None = Err NameOutside
file_in (Some v) = file_level (out-Value v)

-- it takes the basename and the files beside it that are written, where no two names are one
abbrev pub file_apart : Listing → Name → Name → List Value → Gives FileVal
file_apart listing name basename beside =
    (if is_new (Some basename) beside && are_distinct beside then and_map (λ f. roll-FileVal (record (out-FileVal f) { basename = Some basename; secondary = beside })) (file_in (value_under listing name)) else Err BadOutputObject)

abbrev pub file_found : Listing → FileVal-F (Gives Value) (Gives DirVal) (Gives FileVal) → Gives FileVal
file_found listing f =
    and_then (relative_name f.place) (λ name. and_then (all_given f.secondary) (file_apart listing name (named f.basename name)))

-- the Directory that stands there

abbrev pub dir_level : Value-F Value DirVal FileVal → Gives DirVal
dir_level (Value-F.DirVal d) = Ok d
dir_level _ = Err NameOutside

abbrev pub dir_in : Option Value → Gives DirVal
dir_in None = Err NameOutside
dir_in (Some v) = dir_level (out-Value v)

-- it takes the basename that is written
abbrev pub dir_of : Name → Option Value → Gives DirVal
dir_of basename v = and_map (λ d. roll-DirVal (record (out-DirVal d) { basename = Some basename })) (dir_in v)

abbrev pub apart : List Value → Gives (List Value)
apart vs = (if are_distinct vs then Ok vs else Err BadOutputObject)

-- what is written as in it has to have been found, and no two names to be one
abbrev pub entries_apart : Option (List (Gives Value)) → Gives (List Value)
entries_apart None = Ok []
entries_apart (Some inside) = and_then (all_given inside) apart

abbrev pub dir_found : Listing → DirVal-F (Gives Value) (Gives DirVal) (Gives FileVal) → Gives DirVal
dir_found listing d = and_then (relative_name d.place) (λ name. and_then (entries_apart d.listing) (λ vs. dir_of (named d.basename name) (value_under listing name)))

abbrev pub all_named : List (Name × Gives Value) → Gives Named
all_named given = all_given (map (λ e. and_map (λ v. (e.0, v)) e.1) given)

abbrev pub value_found : Value-F (Gives Value) (Gives DirVal) (Gives FileVal) → Gives Value
value_found Value-F.Null = Ok value.Null
value_found (Value-F.Bool b) = Ok (value.Bool b)
value_found (Value-F.Whole n) = Ok (value.Whole n)
value_found (Value-F.Text text) = Ok (value.Text text)
value_found (Value-F.FileVal f) = and_map value.FileVal f
value_found (Value-F.DirVal d) = and_map value.DirVal d
value_found (Value-F.List given) = and_map value.List (all_given given)
value_found (Value-F.Fields given) = and_map value.Fields (all_named given)

-- the value, with each File and Directory as it was found
abbrev pub placed : Listing → Value → Gives Value
placed listing = fold-Value (Gives Value) (Gives DirVal) (Gives FileVal) value_found (dir_found listing) (file_found listing)

abbrev pub file_placed : Listing → FileVal → Gives FileVal
file_placed listing = fold-FileVal (Gives Value) (Gives DirVal) (Gives FileVal) value_found (dir_found listing) (file_found listing)

abbrev pub dir_placed : Listing → DirVal → Gives DirVal
dir_placed listing = fold-DirVal (Gives Value) (Gives DirVal) (Gives FileVal) value_found (dir_found listing) (file_found listing)

-- an output that the object lacks is null
abbrev pub written : Listing → Option Value → Gives Value
written listing None = Ok value.Null
written listing (Some v) = placed listing v
