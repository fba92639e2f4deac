-- A value that shows the form of a type.
use Rattle.std.specs.Prelude.{ℕ, pos, List, [], ◌∷◌, Option, Some, None, Bool, true, false, map, codes, if◌then◌else◌, slice_index_or}
use Rattle.cwl_types.specs.declared.types.ArrayType.{ArrayType, fold-ArrayType}
use Rattle.cwl_types.specs.declared.types.MemberType.{MemberType, fold-MemberType}
use Rattle.cwl_types.specs.declared.types.MemberType.TheOpen.{MemberType-F, ArrayType-F}
use Rattle.cwl_types.specs.declared.types.PlainType.{PlainType}
use Rattle.cwl_types.specs.declared.types.PlainType.TheVariants as plain
use Rattle.cwl_value.specs.declared.place.Place.TheVariants.{Url}
use Rattle.cwl_value.specs.declared.value.Value as values
use Rattle.cwl_value.specs.declared.value.Value.{Value, out-Value}
use Rattle.cwl_value.specs.declared.value.Value.TheOpen.{Value-F}
use Rattle.cwl_value.specs.declared.value.FileVal.{FileVal, roll-FileVal}
use Rattle.cwl_value.specs.declared.value.DirVal.{DirVal, roll-DirVal}
use Rattle.input_forms.specs.Wanted.{admits_null, may_be_null}

abbrev pub null_at : Value-F Value DirVal FileVal → Bool
null_at Value-F.Null = true
null_at _ = false

abbrev pub is_null : Value → Bool
is_null value = null_at (out-Value value)

abbrev pub a_file : Value
a_file = values.FileVal (roll-FileVal (record {
  place = Url (codes "FILE");
  basename = None;
  checksum = None;
  size = None;
  contents = None;
  secondary = [];
}))

abbrev pub a_folder : Value
a_folder = values.DirVal (roll-DirVal (record { place = Url (codes "FOLDER"); basename = None; listing = None }))

abbrev pub plain_sample : PlainType → Value
plain_sample plain.Null = values.Null
plain_sample plain.Boolean = values.Bool false
plain_sample plain.Int = values.Whole (pos 0)
plain_sample plain.Long = values.Whole (pos 0)
plain_sample plain.Text = values.Text (codes "TEXT")
plain_sample plain.File = a_file
plain_sample plain.Directory = a_folder
plain_sample plain.Any = values.Text (codes "TEXT")

-- the first of these, else an empty text
abbrev pub first_or_text : List Value → Value
first_or_text samples = slice_index_or samples 0 (values.Text [])

-- of an enum its first symbol
abbrev pub sample_at : MemberType-F Value Value → Value
sample_at (MemberType-F.Plain kind) = plain_sample kind
sample_at (MemberType-F.Array list) = list
sample_at (MemberType-F.Enum symbols) = values.Text (slice_index_or symbols 0 [])

-- a list of one item
abbrev pub list_sample : ArrayType-F Value Value → Value
list_sample array = values.List (first_or_text array.items ∷ [])

abbrev pub member_sample : MemberType → Value
member_sample = fold-MemberType Value Value sample_at list_sample

abbrev pub array_sample : ArrayType → Value
array_sample = fold-ArrayType Value Value sample_at list_sample

-- the form of a type is that of its first member
abbrev pub type_sample : List MemberType → Value
type_sample members = first_or_text (map member_sample members)

-- ---- the value of an input in a template

-- a default is shown where it holds no other values and no place; else null, which it stands in for
abbrev pub shown_at : Value-F Value DirVal FileVal → Value
shown_at (Value-F.Bool flag) = values.Bool flag
shown_at (Value-F.Whole number) = values.Whole number
shown_at (Value-F.Text text) = values.Text text
shown_at _ = values.Null

abbrev pub shown : Value → Value
shown value = shown_at (out-Value value)

abbrev pub needed_sample : Option (List MemberType) → Value
needed_sample None = a_file
needed_sample (Some members) = type_sample members

abbrev pub filled : (types : Option (List MemberType)) (default : Option Value) → Value
filled types (Some value) = shown value
filled types None = if admits_null types then values.Null else needed_sample types
