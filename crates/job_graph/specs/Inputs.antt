-- The inputs of a process, or the cause why there are none (CWL v1.2, Command Line Tool, "CommandInputParameter", and Workflow,
-- "WorkflowInputParameter": `default`, `type`, `secondaryFiles`).
use Rattle.std.specs.Prelude.{List, Result, Ok, Err}
use Rattle.cwl_process.specs.declared.tool.ToolInput.{ToolInput}
use Rattle.cwl_process.specs.declared.workflow.WorkflowInput.{WorkflowInput}
use Rattle.document_links.specs.declared.process.Process.{Process, out-Process}
use Rattle.document_links.specs.declared.process.Process.TheOpen.{Process-F}
use Rattle.document_links.specs.declared.process.Step.{Step}
use Rattle.document_links.specs.declared.process.Workflow.{Workflow, out-Workflow}
use Rattle.input_files.specs.Measured.{Measures}
use Rattle.input_files.specs.Taken.{tool_inputs, workflow_inputs, tool_root_fields, workflow_root_fields}
use Rattle.input_files.specs.declared.fault.InputFault.{InputFault}
use Rattle.input_files.specs.declared.fault.InputFault.TheVariants as fault
use Rattle.job_graph.specs.declared.cause.Cause.{Cause}
use Rattle.job_graph.specs.declared.cause.Cause.TheVariants as cause
use Rattle.job_graph.specs.Words.{Name, Fields}

-- why a process has no inputs, as the cause of its failure
abbrev pub input_cause : InputFault → Cause
input_cause (fault.Kind param) = cause.Kind param
input_cause (fault.Missing param) = cause.Missing param
input_cause (fault.Secondary param) = cause.Secondary param

abbrev pub by_input : {T : Type 0} → Result T InputFault → Result T Cause
by_input (Ok inputs) = Ok inputs
by_input (Err found) = Err (input_cause found)

-- the inputs of a tool's job, for what is handed to it
abbrev pub tool_inputs_for : Measures → List (Name × ToolInput) → Fields → Result Fields Cause
tool_inputs_for measures inputs fields = by_input (tool_inputs inputs fields measures)

-- the inputs of a workflow, for what is handed to it
abbrev pub workflow_inputs_for : Measures → List (Name × WorkflowInput) → Fields → Result Fields Cause
workflow_inputs_for measures inputs fields = by_input (workflow_inputs inputs fields measures)

-- what is handed to the root process: the input object as it was measured, with the files that were found beside its Files

abbrev pub root_fields_at : Process-F Process Step Workflow → Fields → Measures → Fields
root_fields_at (Process-F.Tool tool) = tool_root_fields tool.inputs
root_fields_at (Process-F.Workflow w) = workflow_root_fields (out-Workflow w).inputs

abbrev pub root_fields : Process → Fields → Measures → Fields
root_fields process = root_fields_at (out-Process process)
