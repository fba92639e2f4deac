-- The value that JSON stands for, or why it stands for none (CWL v1.2, "Data concepts", "File" and "Directory").
use Rattle.std.specs.Prelude.{ℕ, ℤ, Bool, true, false, not, ◌||◌, ◌==◌, if◌then◌else◌, nat_le, List, [], ◌∷◌, map, Option, Some, None, Result, Ok, Err, unwrap_or, option_and_then, bytes_eq, codes}
use Rattle.std.specs.Option.{ok_or}
use Rattle.std.specs.List.{list_any}
use Rattle.plain_data.specs.ByName.{value_at}
use Rattle.serde_json.specs.Data.{Num, Data, null, boolean, number, string, array, object, Items, no_items, item, Members, no_members, member, depth}
use Rattle.serde_json.specs.Find.{get_member, as_str, as_number, as_i64, as_u64, is_float}
use Rattle.cwl_value.specs.Secondary.{fit_beside, fit_inside}
use Rattle.cwl_value.specs.declared.refusal.FileField.{FileField}
use Rattle.cwl_value.specs.declared.refusal.FileField.TheVariants.{Location, Path, Basename, Checksum, Size, SecondaryFiles, Listing}
use Rattle.cwl_value.specs.declared.refusal.ValueRefusal.{ValueRefusal}
use Rattle.cwl_value.specs.declared.refusal.ValueRefusal.TheVariants.{NotWhole, OutOfRange, BadFile, TooDeep}
use Rattle.cwl_value.specs.declared.place.Place.{Place}
use Rattle.cwl_value.specs.declared.place.Place.TheVariants as place
use Rattle.cwl_value.specs.declared.value.Value.{Value, out-Value}
use Rattle.cwl_value.specs.declared.value.Value as value
use Rattle.cwl_value.specs.declared.value.Value.TheOpen.{Value-F}
use Rattle.cwl_value.specs.declared.value.FileVal.{FileVal, roll-FileVal}
use Rattle.cwl_value.specs.declared.value.DirVal.{DirVal, roll-DirVal}

-- what reading gives: a result, or the first refusal
abbrev pub Reads : Type 0 → Type 0
Reads T = Result T ValueRefusal

abbrev pub and_then : {S T : Type 0} → Reads S → (S → Reads T) → Reads T
and_then (Ok x) f = f x
and_then (Err e) f = Err e

abbrev pub and_map : {S T : Type 0} → (S → T) → Reads S → Reads T
and_map f (Ok x) = Ok (f x)
and_map f (Err e) = Err e

-- each of them, or the first refusal
abbrev pub all_read : {T : Type 0} → List (Reads T) → Reads (List T)
all_read [] = Ok []
all_read (r ∷ rs) = and_then r (λ x. and_map (λ xs. x ∷ xs) (all_read rs))

-- A number that is a whole one of 64 bits with a sign is a value. One with a fraction or an exponent, or past every 64 bits, is V1; what is left, from 2^63 on, V2.
abbrev pub whole_form : Option ℤ → Bool → Reads Value
whole_form (Some z) is_fraction = Ok (value.Whole z)
whole_form None true = Err NotWhole
whole_form None false = Err OutOfRange

abbrev pub whole_read : Num → Reads Value
whole_read n = whole_form (as_i64 n) (is_float n)

-- The fields of a File or Directory. Every other field is ignored.

-- a text, or V3 for the field
abbrev pub text_form : FileField → Data → Reads (List ℕ)
text_form field d = ok_or (as_str d) (BadFile field)

-- a text, where the field is there
abbrev pub text_read : FileField → Option Data → Reads (Option (List ℕ))
text_read field None = Ok None
text_read field (Some d) = and_map Some (text_form field d)

-- a `location`, or else a `path`
abbrev pub place_read : Option Data → Option Data → Reads Place
place_read (Some d) path = and_map place.Url (text_form Location d)
place_read None (Some d) = and_map place.Path (text_form Path d)
place_read None None = Err (BadFile Location)

-- a name is not empty, neither `.` nor `..`, and has no `/`
abbrev pub is_name : List ℕ → Bool
is_name s = not (bytes_eq s [] || bytes_eq s (codes ".") || bytes_eq s (codes "..") || list_any (λ c. c == 47) s)

abbrev pub name_form : List ℕ → Reads (List ℕ)
name_form s = if is_name s then Ok s else Err (BadFile Basename)

abbrev pub named : Option (List ℕ) → Reads (Option (List ℕ))
named None = Ok None
named (Some s) = and_map Some (name_form s)

abbrev pub basename_read : Option Data → Reads (Option (List ℕ))
basename_read d = and_then (text_read Basename d) named

-- a whole number from 0
abbrev pub size_form : Data → Reads ℕ
size_form d = ok_or (option_and_then as_u64 (as_number d)) (BadFile Size)

abbrev pub size_read : Option Data → Reads (Option ℕ)
size_read None = Ok None
size_read (Some d) = and_map Some (size_form d)

-- the values of a list, or V3 for the field
abbrev pub list_form : FileField → Value-F Value DirVal FileVal → Reads (Option (List Value))
list_form field (Value-F.List vs) = Ok (Some vs)
list_form field _ = Err (BadFile field)

-- the same, where the field is there
abbrev pub list_read : FileField → Option (Reads Value) → Reads (Option (List Value))
list_read field None = Ok None
list_read field (Some r) = and_then r (λ v. list_form field (out-Value v))

-- the secondary files, which have to fit beside the File
abbrev pub secondary_read : Option (List ℕ) → Option (List Value) → Reads (List Value)
secondary_read name None = Ok []
secondary_read name (Some vs) = if fit_beside name vs then Ok vs else Err (BadFile SecondaryFiles)

-- the listing, whose entries have to fit in a Directory
abbrev pub listing_read : Option (List Value) → Reads (Option (List Value))
listing_read None = Ok None
listing_read (Some vs) = if fit_inside vs then Ok (Some vs) else Err (BadFile Listing)

-- the member of that name
abbrev pub field : List ℕ → Members → Option Data
field name ms = get_member name ms

-- the place and the basename of a File or Directory
abbrev pub placed_read : Members → Reads (Place × Option (List ℕ))
placed_read ms =
    and_then (place_read (field (codes "location") ms) (field (codes "path") ms)) (λ place.
    and_map (λ basename. (place, basename)) (basename_read (field (codes "basename") ms)))

-- the checksum and the size of a File
abbrev pub summed_read : Members → Reads (Option (List ℕ) × Option ℕ)
summed_read ms =
    and_then (text_read Checksum (field (codes "checksum") ms)) (λ checksum.
    and_map (λ size. (checksum, size)) (size_read (field (codes "size") ms)))

-- a File of what was read, where its secondary files fit beside it
abbrev pub file_form : Place × Option (List ℕ) → Option (List ℕ) × Option ℕ → Option (List Value) → Reads FileVal
file_form placed summed listed =
    and_map (λ secondary. roll-FileVal (record { place = placed.0; basename = placed.1; checksum = summed.0; size = summed.1; contents = None; secondary = secondary }))
    (secondary_read placed.1 listed)

-- a File, from its members and what each of them reads as
abbrev pub file_read : Members → List (List ℕ × Reads Value) → Reads FileVal
file_read ms reads =
    and_then (placed_read ms) (λ placed.
    and_then (summed_read ms) (λ summed.
    and_then (list_read SecondaryFiles (value_at (codes "secondaryFiles") reads)) (file_form placed summed)))

-- a Directory, likewise
abbrev pub dir_read : Members → List (List ℕ × Reads Value) → Reads DirVal
dir_read ms reads =
    and_then (placed_read ms) (λ placed.
    and_then (list_read Listing (value_at (codes "listing") reads)) (λ listed.
    and_map (λ listing. roll-DirVal (record { place = placed.0; basename = placed.1; listing = listing })) (listing_read listed)))

-- each member under its name
abbrev pub fields_read : List (List ℕ × Reads Value) → Reads (List (List ℕ × Value))
fields_read reads = all_read (map (λ e. and_map (λ v. (e.0, v)) e.1) reads)

-- the text of the field `class`
abbrev pub class_in : Members → List ℕ
class_in ms = unwrap_or (option_and_then as_str (field (codes "class") ms)) []

-- an object is what its class says, and else fields
abbrev pub object_read : Members → List (List ℕ × Reads Value) → Reads Value
object_read ms reads =
    if bytes_eq (class_in ms) (codes "File") then and_map value.FileVal (file_read ms reads)
    else (if bytes_eq (class_in ms) (codes "Directory") then and_map value.DirVal (dir_read ms reads)
    else and_map value.Fields (fields_read reads))

-- each form of JSON as the value that it stands for
abbrev mutual
  pub value_read : Data → Reads Value
  value_read null = Ok value.Null
  value_read (boolean b) = Ok (value.Bool b)
  value_read (number n) = whole_read n
  value_read (string s) = Ok (value.Text s)
  value_read (array ds) = and_map value.List (all_read (items_read ds))
  value_read (object ms) = object_read ms (members_read ms)

  pub items_read : Items → List (Reads Value)
  items_read no_items = []
  items_read (item d ds) = value_read d ∷ items_read ds

  pub members_read : Members → List (List ℕ × Reads Value)
  members_read no_members = []
  members_read (member k d ms) = (k, value_read d) ∷ members_read ms

-- how deep arrays and objects may nest: a bound of this project, below the 127 levels of serde_json
abbrev pub greatest_depth : ℕ
greatest_depth = 100

-- the value that JSON stands for, unless it nests too deep
abbrev pub reading : Data → Reads Value
reading d = if nat_le (depth d) greatest_depth then value_read d else Err TooDeep
