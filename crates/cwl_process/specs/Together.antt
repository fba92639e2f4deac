-- What fields of a document say together, beside the table (CWL v1.2, Command Line Tool Description, "stdin", "stdout", "stderr"; Workflow
-- Description, "WorkflowStep"): one input at most stands for the standard input, and an output that is a stream has no binding. A default
-- is a value (CWL v1.2, "CommandInputParameter", "WorkflowInputParameter"). A source that begins with `#` begins with its workflow's id. Texts with references come after these, and what a
-- step says itself comes before the process that it runs.
use Rattle.std.specs.Prelude.{ℕ, zero, suc, ◌&&◌, ◌||◌, List, [], ◌∷◌, Bool, true, false, Option, Some, None, is_some, if◌then◌else◌, codes}
use Rattle.std.specs.Option.{option_map_or}
use Rattle.serde_json.specs.Data.{Data, null, boolean, number, string, array, object}
use Rattle.serde_json.specs.Find.{as_str, get}
use Rattle.cwl_value.specs.Reading.{reading}
use Rattle.document_table.specs.Entries.{entries, main_field}
use Rattle.document_table.specs.Faults.{here, under}
use Rattle.document_table.specs.Walk.{or_else}
use Rattle.document_table.specs.declared.fault.Cause.TheVariants.{WrongForm}
use Rattle.document_table.specs.declared.fault.DocumentFault.{DocumentFault}
use Rattle.document_table.specs.declared.form.Kind.TheVariants as kind
use Rattle.cwl_process.specs.FirstFaults.{at_field, field_fault, first_at, first_item, first_of_list}
use Rattle.cwl_process.specs.Links.{source_fault}
use Rattle.cwl_process.specs.Parameters.{if_read, is_text}
use Rattle.cwl_process.specs.Processes.{is_workflow}
use Rattle.cwl_process.specs.TemplateFaults.{asked_fault, step_text_fault, tool_text_fault}
use Rattle.cwl_process.specs.Workflows.{own_id}

-- ---- streams

abbrev pub is_of_type : List ℕ → Data → Bool
is_of_type name d = option_map_or (is_text name) (main_field (codes "type") d) false

-- an input of the type `stdin` where the standard input is taken already
abbrev pub stdin_fault : Bool → List (List ℕ × Data) → Option DocumentFault
stdin_fault taken [] = None
stdin_fault taken (e ∷ es) =
    if is_of_type (codes "stdin") e.1 && taken then Some (under e.0 (here WrongForm)) else stdin_fault (taken || is_of_type (codes "stdin") e.1) es

abbrev pub inputs_fault : Data → Option DocumentFault
inputs_fault d = option_map_or (λ v. at_field (codes "inputs") (stdin_fault (is_some (get (codes "stdin") d)) (entries kind.ToolInput v))) (get (codes "inputs") d) None

abbrev pub is_stream : Data → Bool
is_stream d = is_of_type (codes "stdout") d || is_of_type (codes "stderr") d

abbrev pub output_fault : Data → Option DocumentFault
output_fault d = if is_stream d && is_some (get (codes "outputBinding") d) then Some (under (codes "outputBinding") (here WrongForm)) else None

-- ---- defaults

-- The JSON represents a value.
abbrev pub is_value : Data → Bool
is_value d = is_some (if_read (reading d))

abbrev pub default_fault : Data → Option DocumentFault
default_fault d = if option_map_or is_value (get (codes "default") d) true then None else Some (under (codes "default") (here WrongForm))

-- ---- links

-- the first of the sources of a step's input that leads nowhere, in the workflow of that id; they may stand in its place
abbrev pub step_source_fault : List ℕ → Data → Option DocumentFault
step_source_fault id null = None
step_source_fault id (boolean b) = None
step_source_fault id (number n) = None
step_source_fault id (string s) = source_fault id (string s)
step_source_fault id (array ds) = first_item (source_fault id) 0 ds
step_source_fault id (object ms) = field_fault (first_of_list (source_fault id)) (codes "source") (object ms)

-- the same of a workflow's output
abbrev pub output_source_fault : List ℕ → Data → Option DocumentFault
output_source_fault id d = field_fault (first_of_list (source_fault id)) (codes "outputSource") d

-- ---- processes

abbrev pub tool_fault : Data → Option DocumentFault
tool_fault d =
    or_else (inputs_fault d)
    (or_else (first_at kind.ToolInput default_fault (codes "inputs") d)
    (or_else (first_at kind.ToolOutput output_fault (codes "outputs") d) (tool_text_fault d)))

-- of a step of the workflow of that id, without the process that it runs
abbrev pub own_step_fault : List ℕ → Data → Option DocumentFault
own_step_fault id d =
    or_else (first_at kind.StepInput default_fault (codes "in") d)
    (or_else (first_at kind.StepInput (step_source_fault id) (codes "in") d) (step_text_fault d))

-- a text names a process of another document
abbrev pub run_fault : (Data → Option DocumentFault) → Data → Option DocumentFault
run_fault inner d = if is_some (as_str d) then None else inner d

abbrev pub step_fault : (Data → Option DocumentFault) → List ℕ → Data → Option DocumentFault
step_fault inner id d = or_else (own_step_fault id d) (at_field (codes "run") (option_map_or (run_fault inner) (get (codes "run") d) None))

abbrev pub workflow_fault : (Data → Option DocumentFault) → Data → Option DocumentFault
workflow_fault inner d =
    or_else (first_at kind.WorkflowInput default_fault (codes "inputs") d)
    (or_else (asked_fault d)
    (or_else (first_at kind.WorkflowOutput (output_source_fault (own_id d)) (codes "outputs") d) (first_at kind.Step (step_fault inner (own_id d)) (codes "steps") d)))

-- what is wrong first with a process that keeps to the table, with so many workflows inside one another at most
unfoldable pub process_fault : ℕ → Data → Option DocumentFault
process_fault zero d = None
process_fault (suc levels) d = if is_workflow d then workflow_fault (process_fault levels) d else tool_fault d
