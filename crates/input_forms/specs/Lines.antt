-- A line for each input of a process.
use Rattle.std.specs.Prelude.{ℕ, ◌++◌, ◌==◌, List, [], length, map, fold, flat_map, Option, Some, None, codes, if◌then◌else◌}
use Rattle.serde_json.specs.Written.{compact_text}
use Rattle.cwl_types.specs.declared.types.ArrayType.{ArrayType, fold-ArrayType}
use Rattle.cwl_types.specs.declared.types.MemberType.{MemberType, fold-MemberType}
use Rattle.cwl_types.specs.declared.types.MemberType.TheOpen.{MemberType-F, ArrayType-F}
use Rattle.cwl_types.specs.declared.types.PlainType.{PlainType}
use Rattle.cwl_types.specs.declared.types.PlainType.TheVariants as plain
use Rattle.cwl_process.specs.declared.tool.ToolInput.{ToolInput}
use Rattle.cwl_process.specs.declared.workflow.WorkflowInput.{WorkflowInput}
use Rattle.cwl_value.specs.Json.{json_of}
use Rattle.cwl_value.specs.declared.value.Value.{Value}
use Rattle.input_forms.specs.Wanted.{admits_null, types_of}

abbrev pub plain_word : PlainType → List ℕ
plain_word plain.Null = codes "null"
plain_word plain.Boolean = codes "boolean"
plain_word plain.Int = codes "int"
plain_word plain.Long = codes "long"
plain_word plain.Text = codes "string"
plain_word plain.File = codes "File"
plain_word plain.Directory = codes "Directory"
plain_word plain.Any = codes "Any"

abbrev pub with_or : List ℕ → List ℕ → List ℕ
with_or said words = (if length said == 0 then said else said ++ codes " or ") ++ words

-- words with ` or ` between
abbrev pub or_words : List (List ℕ) → List ℕ
or_words = fold with_or []

abbrev pub symbol_words : List ℕ → List ℕ
symbol_words symbol = codes " `" ++ symbol ++ codes "`"

abbrev pub words_at : MemberType-F (List ℕ) (List ℕ) → List ℕ
words_at (MemberType-F.Plain kind) = plain_word kind
words_at (MemberType-F.Array words) = words
words_at (MemberType-F.Enum symbols) = codes "one of" ++ flat_map symbol_words symbols

abbrev pub list_words : ArrayType-F (List ℕ) (List ℕ) → List ℕ
list_words array = codes "a list of " ++ or_words array.items

abbrev pub member_words : MemberType → List ℕ
member_words = fold-MemberType (List ℕ) (List ℕ) words_at list_words

abbrev pub array_words : ArrayType → List ℕ
array_words = fold-ArrayType (List ℕ) (List ℕ) words_at list_words

abbrev pub type_words : List MemberType → List ℕ
type_words members = or_words (map member_words members)

-- the type at standard input is a File
abbrev pub kind_words : Option (List MemberType) → List ℕ
kind_words None = codes "File"
kind_words (Some members) = type_words members

abbrev pub need_words : (types : Option (List MemberType)) (default : Option Value) → List ℕ
need_words types (Some value) = codes ", default " ++ compact_text (json_of value)
need_words types None = if admits_null types then codes ", optional" else codes ", required"

abbrev pub input_line : (name : List ℕ) (types : Option (List MemberType)) (default : Option Value) → List ℕ
input_line name types default = codes "input " ++ name ++ codes ": " ++ kind_words types ++ need_words types default

abbrev pub tool_line : List ℕ × ToolInput → List ℕ
tool_line input = input_line input.0 (types_of input.1.kind) input.1.default

abbrev pub workflow_line : List ℕ × WorkflowInput → List ℕ
workflow_line input = input_line input.0 (Some input.1.kind) input.1.default
