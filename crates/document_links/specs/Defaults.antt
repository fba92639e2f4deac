-- Defaults whose Files and Directories are at paths: their locations are resolved on the URL of their document (CWL v1.2, "File",
-- "Directory": `location`, `path`; Schema Salad v1.2, "Link resolution").
use Rattle.std.specs.Prelude.{ℕ, List, map, Option, Some, None, Ok, Err, option_and_then, if◌then◌else◌, codes}
use Rattle.std.specs.Option.{option_map_or}
use Rattle.serde_json.specs.Data.{Data}
use Rattle.cwl_value.specs.declared.value.Value.{Value}
use Rattle.file_values.specs.Location.{Finds}
use Rattle.file_values.specs.Resolved.{has_long, resolved}
use Rattle.document_table.specs.Faults.{here, under}
use Rattle.document_table.specs.declared.fault.Cause.TheVariants.{WrongForm}
use Rattle.document_table.specs.declared.fault.DocumentFault.{DocumentFault}
use Rattle.document_table.specs.declared.form.Kind.{Kind}
use Rattle.cwl_process.specs.FirstFaults.{first_at}
use Rattle.cwl_process.specs.Parameters.{default_at}
use Rattle.cwl_process.specs.declared.tool.Tool.{Tool}
use Rattle.cwl_process.specs.declared.tool.ToolInput.{ToolInput}
use Rattle.cwl_process.specs.declared.workflow.StepInput.{StepInput}
use Rattle.cwl_process.specs.declared.workflow.WorkflowInput.{WorkflowInput}
use Rattle.url.specs.Parts.{Parts}

abbrev pub if_found : Finds Value → Option Value
if_found (Ok v) = Some v
if_found (Err fault) = None

-- The value on a base, where each place in it has a path and is not too long for `url`.
abbrev pub on_base : Parts → Value → Option Value
on_base base v = if has_long base v then None else if_found (resolved base v)

-- ---- parameters and tools with their defaults so

abbrev pub tool_input_on : Parts → ToolInput → ToolInput
tool_input_on base input = record {
  kind = input.kind;
  default = option_and_then (on_base base) input.default;
  binding = input.binding;
  load_contents = input.load_contents;
  secondary_files = input.secondary_files;
}

abbrev pub workflow_input_on : Parts → WorkflowInput → WorkflowInput
workflow_input_on base input = record {
  kind = input.kind;
  default = option_and_then (on_base base) input.default;
  secondary_files = input.secondary_files;
}

abbrev pub step_input_on : Parts → StepInput → StepInput
step_input_on base input = record {
  links = input.links;
  default = option_and_then (on_base base) input.default;
  value_from = input.value_from;
}

abbrev pub each_on : {T : Type 0} → (Parts → T → T) → Parts → List (List ℕ × T) → List (List ℕ × T)
each_on on base es = map (λ e. (e.0, on base e.1)) es

abbrev pub tool_on : Parts → Tool → Tool
tool_on base tool = record {
  base_command = tool.base_command;
  arguments = tool.arguments;
  inputs = each_on tool_input_on base tool.inputs;
  outputs = tool.outputs;
  streams = tool.streams;
  exit_codes = tool.exit_codes;
  asked = tool.asked;
  written = tool.written;
}

-- ---- what is wrong: a default with a place that has no path

abbrev pub unplaced : Option Value → Option DocumentFault
unplaced (Some v) = None
unplaced None = Some (under (codes "default") (here WrongForm))

abbrev pub default_fault : Parts → Data → Option DocumentFault
default_fault base d = option_map_or (λ v. unplaced (on_base base v)) (default_at d) None

-- the first of those in a field's list or map of objects
abbrev pub defaults_fault : Parts → Kind → List ℕ → Data → Option DocumentFault
defaults_fault base kind name d = first_at kind (default_fault base) name d
