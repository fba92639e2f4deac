-- The values of a tool's inputs: for each the value that is given, or the input's default where that is null, and whether it is of the
-- input's type (CWL v1.2, Command Line Tool, "CommandInputParameter": `default`, `type`; "CWLType").
use Rattle.std.specs.Prelude.{ℕ, Bool, true, false, not, if◌then◌else◌, List, [], ◌∷◌, Option, map, fold, unwrap_or}
use Rattle.std.specs.List.{flat_map}
use Rattle.plain_data.specs.ByName.{value_at, with_value}
use Rattle.cwl_types.specs.declared.types.PlainType.TheVariants as plain
use Rattle.cwl_value.specs.declared.value.Value.{Value, roll-Value, out-Value}
use Rattle.cwl_value.specs.declared.value.Value as value
use Rattle.cwl_value.specs.declared.value.FileVal.{FileVal}
use Rattle.cwl_value.specs.declared.value.DirVal.{DirVal}
use Rattle.cwl_value.specs.declared.value.Value.TheOpen.{Value-F}
use Rattle.cwl_process.specs.declared.tool.InputType.{InputType}
use Rattle.cwl_process.specs.declared.tool.InputType.TheVariants as input_type
use Rattle.cwl_process.specs.declared.tool.ToolInput.{ToolInput}
use Rattle.type_check.specs.Fits.{fits, is_plain}

-- a name or a path, as the bytes of its text
abbrev pub Name : Type 0
Name = List ℕ

-- named values
abbrev pub Fields : Type 0
Fields = List (Name × Value)

abbrev pub null : Value
null = roll-Value Value-F.Null

-- the value under a name; null where there is none
abbrev pub value_under : Name → Fields → Value
value_under name fields = unwrap_or (value_at name fields) null

-- the entries in the order of their names
abbrev pub last_by_name : {X : Type 0} → List (Name × X) → List (Name × X)
last_by_name entries = fold (λ sorted e. with_value e.0 e.1 sorted) [] entries

-- an input of a tool, under its id
abbrev pub NamedInput : Type 0
NamedInput = Name × ToolInput

abbrev pub null_at : Value-F Value DirVal FileVal → Bool
null_at Value-F.Null = true
null_at _ = false

abbrev pub is_null : Value → Bool
is_null v = null_at (out-Value v)

-- a value, or the default in place of null
abbrev pub or_default : Option Value → Value → Value
or_default default v = if is_null v then unwrap_or default null else v

-- the value of an input, where these are given
abbrev pub input_value : Fields → NamedInput → Value
input_value given input = or_default input.1.default (value_under input.0 given)

-- whether a value is of an input's type; what becomes the standard input is a File
abbrev pub fits_input : InputType → Value → Bool
fits_input input_type.Stdin v = is_plain plain.File v
fits_input (input_type.Members members) v = fits members v

abbrev pub is_misfit : Fields → NamedInput → Bool
is_misfit given input = not (fits_input input.1.kind (input_value given input))

-- each input under its id
abbrev pub named_inputs : List NamedInput → Fields → Fields
named_inputs inputs given = last_by_name (map (λ input. (input.0, input_value given input)) inputs)

-- The Files for which an input may ask for more: the value itself, or those of a list (`secondaryFiles` and `loadContents` are for the
-- types File and array of File).

abbrev pub items_at : Value → Value-F Value DirVal FileVal → List Value
items_at v (Value-F.List vs) = vs
items_at v _ = v ∷ []

-- the values of a list, or the value itself
abbrev pub items_of : Value → List Value
items_of v = items_at v (out-Value v)

abbrev pub own_file : Value-F Value DirVal FileVal → List FileVal
own_file (Value-F.FileVal f) = f ∷ []
own_file _ = []

-- the Files among values
abbrev pub files_among : List Value → List FileVal
files_among vs = flat_map (λ v. own_file (out-Value v)) vs

-- the File, or the Files of the list
abbrev pub files_in : Value → List FileVal
files_in v = files_among (items_of v)

abbrev pub own_mapped : (FileVal → FileVal) → Value → Value-F Value DirVal FileVal → Value
own_mapped h v (Value-F.FileVal f) = value.FileVal (h f)
own_mapped h v _ = v

-- a File becomes another, and any other value stays
abbrev pub with_file : (FileVal → FileVal) → Value → Value
with_file h v = own_mapped h v (out-Value v)

abbrev pub mapped_at : (FileVal → FileVal) → Value → Value-F Value DirVal FileVal → Value
mapped_at h v (Value-F.List vs) = value.List (map (with_file h) vs)
mapped_at h v _ = with_file h v

-- the value with another File in the place of each of these
abbrev pub with_files : (FileVal → FileVal) → Value → Value
with_files h v = mapped_at h v (out-Value v)
