-- What processes take and give, and what the sources of a workflow lead to (CWL v1.2, Workflow Description, "WorkflowStepInput", `source`;
-- "WorkflowStep", `out`).
use Rattle.std.specs.Prelude.{ℕ, zero, suc, List, [], ◌∷◌, length, Bool, false, Option, Some, None, option_map, option_and_then, is_some}
use Rattle.std.specs.List.{list_any}
use Rattle.std.specs.Str.{bytes_eq}
use Rattle.plain_data.specs.ByName.{map_values, value_at}
use Rattle.scatter_shape.specs.declared.shape.Method.{Method}
use Rattle.scatter_shape.specs.declared.shape.Method.TheVariants.{NestedCrossproduct}
use Rattle.cwl_types.specs.declared.types.MemberType.{MemberType}
use Rattle.cwl_types.specs.declared.types.MemberType.TheVariants as member
use Rattle.cwl_types.specs.declared.types.PlainType.TheVariants as plain
use Rattle.cwl_process.specs.declared.links.Source.{Source}
use Rattle.cwl_process.specs.declared.tool.InputType.{InputType}
use Rattle.cwl_process.specs.declared.tool.InputType.TheVariants as input
use Rattle.cwl_process.specs.declared.tool.OutputType.{OutputType}
use Rattle.cwl_process.specs.declared.tool.OutputType.TheVariants as output
use Rattle.cwl_process.specs.declared.tool.ToolInput.{ToolInput}
use Rattle.cwl_process.specs.declared.workflow.WorkflowInput.{WorkflowInput}
use Rattle.param_refs.specs.declared.template.Template.{Template}
use Rattle.document_links.specs.declared.process.Process.{Process, out-Process}
use Rattle.document_links.specs.declared.process.Process.TheOpen.{Process-F}
use Rattle.document_links.specs.declared.process.Step.{Step, out-Step}
use Rattle.document_links.specs.declared.process.Workflow.{Workflow, out-Workflow}

-- values under ids
abbrev pub Named : Type 0 → Type 0
Named T = List (List ℕ × T)

abbrev pub has : {T : Type 0} → List ℕ → Named T → Bool
has id entries = is_some (value_at id entries)

abbrev pub lists : List (List ℕ) → List ℕ → Bool
lists texts text = list_any (λ other. bytes_eq other text) texts

abbrev pub file_type : List MemberType
file_type = member.Plain plain.File ∷ []

-- ---- what a process takes and gives

-- what an input takes: values of a type; nothing has to be given where it has a default
pub record Asked : Type 0 where
  pub kind : List MemberType
  pub has_default : Bool

abbrev pub input_kind : InputType → List MemberType
input_kind input.Stdin = file_type
input_kind (input.Members members) = members

abbrev pub tool_asked : ToolInput → Asked
tool_asked i = record { kind = input_kind i.kind; has_default = is_some i.default }

abbrev pub workflow_asked : WorkflowInput → Asked
workflow_asked i = record { kind = i.kind; has_default = is_some i.default }

abbrev pub output_kind : OutputType → List MemberType
output_kind output.Stdout = file_type
output_kind output.Stderr = file_type
output_kind (output.Members members) = members

abbrev pub takes_at : Process-F Process Step Workflow → Named Asked
takes_at (Process-F.Tool tool) = map_values tool_asked tool.inputs
takes_at (Process-F.Workflow workflow) = map_values workflow_asked (out-Workflow workflow).inputs

abbrev pub takes : Process → Named Asked
takes process = takes_at (out-Process process)

abbrev pub gives_at : Process-F Process Step Workflow → Named (List MemberType)
gives_at (Process-F.Tool tool) = map_values (λ o. output_kind o.kind) tool.outputs
gives_at (Process-F.Workflow workflow) = map_values (λ o. o.kind) (out-Workflow workflow).outputs

abbrev pub gives : Process → Named (List MemberType)
gives process = gives_at (out-Process process)

-- ---- sources

abbrev pub in_step : Option Step → List ℕ → Bool
in_step None name = false
in_step (Some step) name = lists (out-Step step).outputs name

abbrev pub is_at : Option (List ℕ) → List ℕ → Named WorkflowInput → Named Step → Bool
is_at None name inputs steps = has name inputs
is_at (Some id) name inputs steps = in_step (value_at id steps) name

-- The source is an input of the workflow, or what a step of it lists as its output.
abbrev pub is_there : Named WorkflowInput → Named Step → Source → Bool
is_there inputs steps source = is_at source.step source.name inputs steps

-- what a source gives: values of a type or null, in so many arrays
pub record Gift : Type 0 where
  pub members : List MemberType
  pub or_null : Bool
  pub arrays : ℕ

-- In how many arrays the values of a scattered step are put: one for each input that is scattered, or one for all.
abbrev pub arrays_of : ℕ → Option Method → ℕ
arrays_of scattered (Some NestedCrossproduct) = scattered
arrays_of zero _ = 0
arrays_of (suc n) _ = 1

abbrev pub input_gift : WorkflowInput → Gift
input_gift i = record { members = i.kind; or_null = false; arrays = 0 }

abbrev pub gift_of : Option Template → List (List ℕ) → Option Method → List MemberType → Gift
gift_of when scatter method members = record { members = members; or_null = is_some when; arrays = arrays_of (length scatter) method }

abbrev pub step_gift : List ℕ → Step → Option Gift
step_gift name step = option_map (gift_of (out-Step step).when (out-Step step).scatter (out-Step step).method) (value_at name (gives (out-Step step).process))

abbrev pub gift_at : Option (List ℕ) → List ℕ → Named WorkflowInput → Named Step → Option Gift
gift_at None name inputs steps = option_map input_gift (value_at name inputs)
gift_at (Some id) name inputs steps = option_and_then (step_gift name) (value_at id steps)

-- what the source gives, where it is there
abbrev pub gift : Named WorkflowInput → Named Step → Source → Option Gift
gift inputs steps source = gift_at source.step source.name inputs steps
