-- Which paths are measured before a run: those of every File and Directory of the input object and of each default, at any depth, of the
-- process and of those inside it, and those at which the files are looked for that the process itself declares and a File of its inputs
-- lacks (CWL v1.2, "CommandInputParameter", "WorkflowInputParameter", "WorkflowStepInput": `default`, `secondaryFiles`).
use Rattle.std.specs.Prelude.{List, [], ◌++◌}
use Rattle.std.specs.List.{flat_map}
use Rattle.std.specs.Option.{option_map_or}
use Rattle.plain_data.specs.ByName.{map_values}
use Rattle.cwl_process.specs.declared.workflow.StepInput.{StepInput}
use Rattle.document_links.specs.declared.process.Process.{Process, out-Process, fold-Process}
use Rattle.document_links.specs.declared.process.Process.TheOpen.{Process-F, Workflow-F, Step-F}
use Rattle.document_links.specs.declared.process.Step.{Step, fold-Step}
use Rattle.document_links.specs.declared.process.Workflow.{Workflow, out-Workflow, fold-Workflow}
use Rattle.input_files.specs.Parameters.{tool_parameter, workflow_parameter}
use Rattle.input_files.specs.Paths.{Paths, paths_of, paths_of_fields, paths_of_defaults, root_adds as inputs_add, each_once}
use Rattle.job_graph.specs.Words.{Name, Fields}

-- ---- inside a workflow: the defaults, in the order of the document

abbrev pub link_paths : Name × StepInput → Paths
link_paths input = option_map_or paths_of input.1.default []

abbrev pub process_level : Process-F Paths Paths Paths → Paths
process_level (Process-F.Tool tool) = paths_of_defaults tool_parameter tool.inputs
process_level (Process-F.Workflow paths) = paths

abbrev pub step_level : Step-F Paths Paths Paths → Paths
step_level s = flat_map link_paths s.inputs ++ s.process

abbrev pub workflow_level : Workflow-F Paths Paths Paths → Paths
workflow_level w = paths_of_defaults workflow_parameter w.inputs ++ flat_map (λ s. s.1) w.steps

abbrev pub paths_in : Process → Paths
paths_in = fold-Process Paths Paths Paths process_level step_level workflow_level

abbrev pub paths_in_step : Step → Paths
paths_in_step = fold-Step Paths Paths Paths process_level step_level workflow_level

abbrev pub paths_in_workflow : Workflow → Paths
paths_in_workflow = fold-Workflow Paths Paths Paths process_level step_level workflow_level

abbrev pub paths_in_steps : List (Name × Step) → Paths
paths_in_steps steps = flat_map (λ s. s.1) (map_values paths_in_step steps)

-- ---- at the root: what is given, and the files that are looked for beside it and beside the root's defaults

abbrev pub root_adds : Fields → Process-F Process Step Workflow → Paths
root_adds given (Process-F.Tool tool) = inputs_add tool_parameter tool.inputs given
root_adds given (Process-F.Workflow w) =
    inputs_add workflow_parameter (out-Workflow w).inputs given ++ paths_in_steps (out-Workflow w).steps

-- the paths that are measured, each once
abbrev pub input_paths : Process → Fields → Paths
input_paths process given = each_once (paths_of_fields given ++ root_adds given (out-Process process))
