-- The process of a document, with the processes of other documents in the place of their names (CWL v1.2, Workflow Description, "WorkflowStep",
-- `run`; Command Line Tool Description, "Requirements and hints": what is asked is inherited), and with
-- the Files and Directories of defaults at paths. Where documents have a fault this says something that means nothing.
use Rattle.std.specs.Prelude.{ℕ, zero, suc, List, Option, Some, None, Ok, Err, if◌then◌else◌, codes}
use Rattle.std.specs.Option.{option_map_or}
use Rattle.serde_json.specs.Data.{Data, null}
use Rattle.serde_json.specs.Find.{as_str, get}
use Rattle.document_table.specs.declared.form.Kind.TheVariants as kind
use Rattle.cwl_process.specs.Acting.{asked_in}
use Rattle.cwl_process.specs.Parameters.{workflow_input_in, workflow_output_in}
use Rattle.cwl_process.specs.Processes.{is_workflow}
use Rattle.cwl_process.specs.Tools.{entries_at, tool_in}
use Rattle.cwl_process.specs.Workflows.{own_id, step_parts_in}
use Rattle.cwl_process.specs.declared.parts.StepParts.{StepParts}
use Rattle.cwl_process.specs.declared.tool.Asked.{Asked}
use Rattle.url.specs.Parts.{Parts}
use Rattle.document_links.specs.Defaults.{each_on, step_input_on, tool_on, workflow_input_on}
use Rattle.document_links.specs.Homes.{Home}
use Rattle.document_links.specs.Library.{Finds}
use Rattle.document_links.specs.Targets.{Target, target}
use Rattle.document_links.specs.declared.process.Process.{Process}
use Rattle.document_links.specs.declared.process.Process as process
use Rattle.document_links.specs.declared.process.Step.{Step, roll-Step}
use Rattle.document_links.specs.declared.process.Workflow.{Workflow, roll-Workflow}

abbrev pub nothing : Asked → Process
nothing around = process.Tool (tool_in around null)

-- ---- a step: `inner` gives the process of a document, or of a value in one, inside of what is asked around it

abbrev pub at_target : Target → (Home → Data → Process) → Process → Process
at_target (Ok t) inner other = inner t.0 t.1.process
at_target (Err fault) inner other = other

abbrev pub run_in : (Home → Asked → Data → Process) → Finds → Home → Asked → Data → Process
run_in inner find h asked d = option_map_or (λ name. at_target (target find h name) (λ other_home other. inner other_home asked other) (nothing asked)) (as_str d) (inner h asked d)

abbrev pub run_at : (Home → Asked → Data → Process) → Finds → Home → Asked → Data → Process
run_at inner find h asked d = option_map_or (run_in inner find h asked) (get (codes "run") d) (nothing asked)

abbrev pub step_of : Parts → Process → StepParts → Step
step_of base process parts = roll-Step (record {
  inputs = each_on step_input_on base parts.inputs;
  outputs = parts.outputs;
  process = process;
  scatter = parts.scatter;
  method = parts.method;
  when = parts.when;
})

-- a step of the workflow of that id
abbrev pub step_in : (Home → Asked → Data → Process) → Finds → Home → List ℕ → Asked → Data → Step
step_in inner find h id around d = step_of h.url (run_at inner find h (asked_in around d) d) (step_parts_in id d)

-- ---- processes

abbrev pub workflow_in : (Home → Asked → Data → Process) → Finds → Home → Asked → Data → Workflow
workflow_in inner find h around d = roll-Workflow (record {
  inputs = each_on workflow_input_on h.url (entries_at kind.WorkflowInput workflow_input_in (codes "inputs") d);
  outputs = entries_at kind.WorkflowOutput (workflow_output_in (own_id d)) (codes "outputs") d;
  steps = entries_at kind.Step (step_in inner find h (own_id d) (asked_in around d)) (codes "steps") d;
})

-- Where there is no `inner`, no workflow may be.
abbrev pub process_in : Option (Home → Asked → Data → Process) → Finds → Home → Asked → Data → Process
process_in inner find h around d =
    if is_workflow d then option_map_or (λ f. process.Workflow (workflow_in f find h around d)) inner (nothing around)
    else process.Tool (tool_on h.url (tool_in around d))

-- the process that a value in a document is; so many workflows at most are inside one another
unfoldable pub linked : Finds → ℕ → Home → Asked → Data → Process
linked find zero h around d = process_in None find h around d
linked find (suc levels) h around d = process_in (Some (linked find levels)) find h around d
