-- The process that JSON represents: a tool or a workflow, as its class says (CWL v1.2, "Syntax").
use Rattle.std.specs.Prelude.{ℕ, zero, suc, List, [], Bool, if◌then◌else◌, codes}
use Rattle.std.specs.Option.{option_map_or}
use Rattle.std.specs.Str.{bytes_eq}
use Rattle.serde_json.specs.Data.{Data, null}
use Rattle.serde_json.specs.Find.{get}
use Rattle.document_table.specs.Entries.{class_in}
use Rattle.cwl_process.specs.Acting.{asked_in}
use Rattle.cwl_process.specs.Tools.{tool_in}
use Rattle.cwl_process.specs.Workflows.{own_id, run_in, step_of, workflow_of}
use Rattle.cwl_process.specs.declared.process.Process.{Process}
use Rattle.cwl_process.specs.declared.process.Process as process
use Rattle.cwl_process.specs.declared.process.Run.{Run}
use Rattle.cwl_process.specs.declared.process.Run as run
use Rattle.cwl_process.specs.declared.tool.Asked.{Asked}
use Rattle.cwl_process.specs.declared.workflow.Step.{Step}

abbrev pub is_workflow : Data → Bool
is_workflow d = bytes_eq (class_in d) (codes "Workflow")

-- what a step runs, where this is asked of it; `inner` gives the process that JSON represents inside of what is asked there
abbrev pub run_at : (Asked → Data → Process) → Asked → Data → Run
run_at inner asked d = option_map_or (run_in (inner asked) asked) (get (codes "run") d) (run.Named (record { name = []; asked = asked }))

-- the step of the workflow of that id, inside of what is asked around it
abbrev pub step_in : (Asked → Data → Process) → List ℕ → Asked → Data → Step
step_in inner id around d = step_of id (run_at inner (asked_in around d) d) d

-- The process, inside of what is asked around it. So many workflows at most are inside one another; JSON that nests less deep has no more.
unfoldable pub process_in : ℕ → Asked → Data → Process
process_in zero around d = process.Tool (tool_in around null)
process_in (suc levels) around d =
    if is_workflow d then process.Workflow (workflow_of (step_in (process_in levels) (own_id d) (asked_in around d)) d) else process.Tool (tool_in around d)
