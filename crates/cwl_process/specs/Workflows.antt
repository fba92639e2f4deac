-- The workflow that an object represents, with the processes inside it (CWL v1.2, Workflow Description, "Workflow",
-- "WorkflowStep", "WorkflowStepInput").
use Rattle.std.specs.Prelude.{ℕ, List, [], map, Option, Some, None, option_and_then, unwrap_or, if◌then◌else◌, codes}
use Rattle.std.specs.Option.{option_map_or}
use Rattle.std.specs.Str.{bytes_eq}
use Rattle.serde_json.specs.Data.{Data}
use Rattle.serde_json.specs.Find.{as_str}
use Rattle.document_table.specs.Entries.{main_field}
use Rattle.document_table.specs.declared.form.Kind.TheVariants as kind
use Rattle.scatter_shape.specs.declared.shape.Method.{Method}
use Rattle.scatter_shape.specs.declared.shape.Method.TheVariants as method
use Rattle.cwl_process.specs.Links.{links_in}
use Rattle.cwl_process.specs.Parameters.{default_at, workflow_input_in, workflow_output_in}
use Rattle.cwl_process.specs.Simple.{list_at, name_in, names_at, text_at}
use Rattle.cwl_process.specs.Templates.{template_at}
use Rattle.cwl_process.specs.Tools.{entries_at}
use Rattle.cwl_process.specs.declared.parts.StepParts.{StepParts}
use Rattle.cwl_process.specs.declared.process.Process.{Process}
use Rattle.cwl_process.specs.declared.process.Run.{Run}
use Rattle.cwl_process.specs.declared.process.Run as run
use Rattle.cwl_process.specs.declared.tool.Asked.{Asked}
use Rattle.cwl_process.specs.declared.workflow.Step.{Step, roll-Step}
use Rattle.cwl_process.specs.declared.workflow.StepInput.{StepInput}
use Rattle.cwl_process.specs.declared.workflow.Workflow.{Workflow, roll-Workflow}

abbrev pub method_named : List ℕ → Option Method
method_named text =
    if bytes_eq text (codes "dotproduct") then Some method.Dotproduct
    else (if bytes_eq text (codes "nested_crossproduct") then Some method.NestedCrossproduct
    else (if bytes_eq text (codes "flat_crossproduct") then Some method.FlatCrossproduct else None))

-- the id of a workflow, as it is written
abbrev pub own_id : Data → List ℕ
own_id d = unwrap_or (text_at (codes "id") d) []

-- The sources may stand in place of the step's input; `id` is that of the workflow.
abbrev pub step_input_in : List ℕ → Data → StepInput
step_input_in id d = record {
  links = links_in id (main_field (codes "source") d) d;
  default = default_at d;
  value_from = template_at (codes "valueFrom") d;
}

-- An output of a step is its id, or an object with it.
abbrev pub step_output_in : Data → List ℕ
step_output_in d = option_map_or name_in (main_field (codes "id") d) []

-- A text names a process; anything else is one, which `inner` gives.
abbrev pub run_in : (Data → Process) → Asked → Data → Run
run_in inner asked d = option_map_or (λ name. run.Named (record { name = name; asked = asked })) (as_str d) (run.Inline (inner d))

-- a step of the workflow of that id, without the process that it runs
abbrev pub step_parts_in : List ℕ → Data → StepParts
step_parts_in id d = record {
  inputs = entries_at kind.StepInput (step_input_in id) (codes "in") d;
  outputs = map step_output_in (list_at (codes "out") d);
  scatter = names_at (codes "scatter") d;
  method = option_and_then method_named (text_at (codes "scatterMethod") d);
  when = template_at (codes "when") d;
}

-- a step, where what it asks and the process that it runs are these
abbrev pub step_of : List ℕ → Run → Data → Step
step_of id run d = roll-Step (record {
  inputs = entries_at kind.StepInput (step_input_in id) (codes "in") d;
  outputs = map step_output_in (list_at (codes "out") d);
  run = run;
  scatter = names_at (codes "scatter") d;
  method = option_and_then method_named (text_at (codes "scatterMethod") d);
  when = template_at (codes "when") d;
})

-- a workflow with such steps
abbrev pub workflow_of : (Data → Step) → Data → Workflow
workflow_of step d = roll-Workflow (record {
  inputs = entries_at kind.WorkflowInput workflow_input_in (codes "inputs") d;
  outputs = entries_at kind.WorkflowOutput (workflow_output_in (own_id d)) (codes "outputs") d;
  steps = entries_at kind.Step step (codes "steps") d;
})
