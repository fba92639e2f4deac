-- An input object that is to be filled in: an entry for each input of a process, in its order.
use Rattle.std.specs.Prelude.{ℕ, ◌++◌, ◌==◌, List, length, map, fold, Option, Some, codes, if◌then◌else◌}
use Rattle.serde_json.specs.Data.{string}
use Rattle.serde_json.specs.Written.{compact_text}
use Rattle.cwl_types.specs.declared.types.MemberType.{MemberType}
use Rattle.cwl_process.specs.declared.tool.ToolInput.{ToolInput}
use Rattle.cwl_process.specs.declared.workflow.WorkflowInput.{WorkflowInput}
use Rattle.cwl_value.specs.Json.{json_of}
use Rattle.cwl_value.specs.declared.value.Value.{Value}
use Rattle.input_forms.specs.Samples.{filled}
use Rattle.input_forms.specs.Wanted.{types_of}

-- a name with a value
abbrev pub entry : (name : List ℕ) → Value → List ℕ
entry name value = compact_text (string name) ++ codes ": " ++ compact_text (json_of value)

-- the name of an input with the value that shows what it wants
abbrev pub input_entry : (name : List ℕ) (types : Option (List MemberType)) (default : Option Value) → List ℕ
input_entry name types default = entry name (filled types default)

abbrev pub tool_entry : List ℕ × ToolInput → List ℕ
tool_entry input = input_entry input.0 (types_of input.1.kind) input.1.default

abbrev pub workflow_entry : List ℕ × WorkflowInput → List ℕ
workflow_entry input = input_entry input.0 (Some input.1.kind) input.1.default

-- what stands before an entry, behind text of this length: the brace alone, or the brace and other entries
abbrev pub separator : ℕ → List ℕ
separator size = if size == 1 then codes "\n  " else codes ",\n  "

-- each entry on a line of its own, behind the brace or a comma
abbrev pub with_entry : List ℕ → List ℕ → List ℕ
with_entry text entry = text ++ separator (length text) ++ entry

abbrev pub template : (entries : List (List ℕ)) → List ℕ
template entries = fold with_entry (codes "{") entries ++ codes "\n}"
