-- What tools and workflows take and give (CWL v1.2, Command Line Tool Description, "CommandInputParameter",
-- "CommandOutputParameter"; Workflow Description, "WorkflowInputParameter", "WorkflowOutputParameter").
use Rattle.std.specs.Prelude.{ℕ, ◌||◌, List, [], Bool, true, false, Option, Some, None, Ok, Err, option_map, option_and_then, if◌then◌else◌, codes}
use Rattle.std.specs.Option.{option_map_or}
use Rattle.std.specs.Str.{bytes_eq}
use Rattle.serde_json.specs.Data.{Data}
use Rattle.serde_json.specs.Find.{as_str, get}
use Rattle.cwl_value.specs.Reading.{Reads, reading}
use Rattle.cwl_value.specs.declared.value.Value.{Value}
use Rattle.cwl_types.specs.Types.{type_in}
use Rattle.document_table.specs.Entries.{main_field}
use Rattle.cwl_types.specs.declared.types.MemberType.{MemberType}
use Rattle.cwl_process.specs.Bindings.{binding_in, secondaries_at}
use Rattle.cwl_process.specs.Links.{links_in}
use Rattle.cwl_process.specs.Simple.{flag_at}
use Rattle.cwl_process.specs.Templates.{template_at, templates_at}
use Rattle.cwl_process.specs.declared.tool.InputType.{InputType}
use Rattle.cwl_process.specs.declared.tool.InputType.TheVariants as input
use Rattle.cwl_process.specs.declared.tool.OutputBinding.{OutputBinding}
use Rattle.cwl_process.specs.declared.tool.OutputType.{OutputType}
use Rattle.cwl_process.specs.declared.tool.OutputType.TheVariants as output
use Rattle.cwl_process.specs.declared.tool.ToolInput.{ToolInput}
use Rattle.cwl_process.specs.declared.tool.ToolOutput.{ToolOutput}
use Rattle.cwl_process.specs.declared.workflow.WorkflowInput.{WorkflowInput}
use Rattle.cwl_process.specs.declared.workflow.WorkflowOutput.{WorkflowOutput}

-- ---- types

abbrev pub is_text : List ℕ → Data → Bool
is_text text d = option_map_or (λ s. bytes_eq s text) (as_str d) false

abbrev pub input_type_in : Data → InputType
input_type_in d = if is_text (codes "stdin") d then input.Stdin else input.Members (type_in d)

abbrev pub output_type_in : Data → OutputType
output_type_in d =
    if is_text (codes "stdout") d then output.Stdout else (if is_text (codes "stderr") d then output.Stderr else output.Members (type_in d))

-- the type of a parameter, which may stand in its place
abbrev pub type_at : Data → List MemberType
type_at d = option_map_or type_in (main_field (codes "type") d) []

-- ---- defaults

abbrev pub if_read : Reads Value → Option Value
if_read (Ok v) = Some v
if_read (Err e) = None

-- the value that the field `default` represents
abbrev pub default_at : Data → Option Value
default_at d = option_and_then (λ v. if_read (reading v)) (get (codes "default") d)

-- ---- parameters of tools

-- The contents are read where the input asks for it or its binding does.
abbrev pub loads : Data → Bool
loads d = flag_at (codes "loadContents") false d || option_map_or (flag_at (codes "loadContents") false) (get (codes "inputBinding") d) false

abbrev pub tool_input_in : Data → ToolInput
tool_input_in d = record {
  kind = option_map_or input_type_in (main_field (codes "type") d) (input.Members []);
  default = default_at d;
  binding = option_map binding_in (get (codes "inputBinding") d);
  load_contents = loads d;
  secondary_files = secondaries_at true d;
}

abbrev pub output_binding_in : Data → OutputBinding
output_binding_in d = record {
  glob = option_map (λ _. templates_at (codes "glob") d) (get (codes "glob") d);
  load_contents = flag_at (codes "loadContents") false d;
  output_eval = template_at (codes "outputEval") d;
}

abbrev pub tool_output_in : Data → ToolOutput
tool_output_in d = record {
  kind = option_map_or output_type_in (main_field (codes "type") d) (output.Members []);
  binding = option_map output_binding_in (get (codes "outputBinding") d);
  secondary_files = secondaries_at false d;
}

-- ---- parameters of workflows

abbrev pub workflow_input_in : Data → WorkflowInput
workflow_input_in d = record { kind = type_at d; default = default_at d; secondary_files = secondaries_at true d }

-- of the workflow of that id
abbrev pub workflow_output_in : List ℕ → Data → WorkflowOutput
workflow_output_in id d = record { kind = type_at d; links = links_in id (get (codes "outputSource") d) d }
