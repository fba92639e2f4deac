-- The process of a document among others, by one rule for each thing that a document can say (CWL v1.2, "Syntax", "Workflow", "WorkflowStep", `run`;
-- Schema Salad v1.2, "Link resolution"). Nothing is counted here. No rule is for a step whose process is missing, or for a default without a path: what has
-- one has no process.
use Rattle.std.specs.Prelude.{◌≡◌, ℕ, List, [], ◌∷◌, true, false, Some, None, Ok, codes}
use Rattle.std.specs.Option.{option_map_or}
use Rattle.serde_json.specs.Data.{Data}
use Rattle.serde_json.specs.Find.{as_str, get}
use Rattle.document_table.specs.Entries.{IsProcess, entries}
use Rattle.document_table.specs.Packed.{Placed, item_named, root_of}
use Rattle.document_table.specs.Texts.{has_hash}
use Rattle.document_table.specs.declared.form.Kind.{Kind}
use Rattle.document_table.specs.declared.form.Kind.TheVariants as kind
use Rattle.cwl_process.specs.Acting.{asked_in, nothing_asked}
use Rattle.cwl_process.specs.Documents as one
use Rattle.cwl_process.specs.Documents.{item_fault}
use Rattle.cwl_process.specs.Parameters.{workflow_input_in, workflow_output_in}
use Rattle.cwl_process.specs.Processes.{is_workflow}
use Rattle.cwl_process.specs.Tools.{entries_at, tool_in}
use Rattle.cwl_process.specs.Workflows.{own_id, step_parts_in}
use Rattle.cwl_process.specs.declared.tool.Asked.{Asked}
use Rattle.url.specs.Parts.{Parts}
use Rattle.document_links.specs.Defaults.{defaults_fault, each_on, tool_on, workflow_input_on}
use Rattle.document_links.specs.Homes.{Home, home}
use Rattle.document_links.specs.Library.{Documents, Finds, IsLookUp}
use Rattle.document_links.specs.Linked.{step_of}
use Rattle.document_links.specs.Urls.{joined, url_text}
use Rattle.document_links.specs.declared.process.Process.{Process}
use Rattle.document_links.specs.declared.process.Process as process
use Rattle.document_links.specs.declared.process.Step.{Step}
use Rattle.document_links.specs.declared.process.Workflow.{roll-Workflow}

-- the objects in a field's list or map, each beside its id, in their order
abbrev pub objects_at : Kind → List ℕ → Data → List (List ℕ × Data)
objects_at kind name d = option_map_or (entries kind) (get name d) []

-- The workflow's own inputs and outputs, with such steps.
abbrev pub workflow_with : Parts → Data → List (List ℕ × Step) → Process
workflow_with base d steps = process.Workflow (roll-Workflow (record {
  inputs = each_on workflow_input_on base (entries_at kind.WorkflowInput workflow_input_in (codes "inputs") d);
  outputs = entries_at kind.WorkflowOutput (workflow_output_in (own_id d)) (codes "outputs") d;
  steps = steps;
}))

-- Each default of those objects has its Files and Directories at paths on that URL.
abbrev pub ArePlaced : Kind → List ℕ → Parts → Data → Type 0
ArePlaced kind name base d = defaults_fault base kind name d ≡ None

mutual
  -- the process of an object in that document, inside of what is asked around it
  pub data IsProcessOf (find : Finds) : Home → Asked → Data → Process → Type 0 where
    tool : (h : Home) (around : Asked) (d : Data) → is_workflow d ≡ false → ArePlaced kind.ToolInput (codes "inputs") h.url d
        → IsProcessOf find h around d (process.Tool (tool_on h.url (tool_in around d)))
    workflow : (h : Home) (around : Asked) (d : Data) (steps : List (List ℕ × Step)) → is_workflow d ≡ true → ArePlaced kind.WorkflowInput (codes "inputs") h.url d
        → AreStepsOf find h (own_id d) (asked_in around d) (objects_at kind.Step (codes "steps") d) steps → IsProcessOf find h around d (workflow_with h.url d steps)

  -- the steps of those objects, in the workflow of that id: one for each, with its name, its own parts, and the process of what it runs
  pub data AreStepsOf (find : Finds) : Home → List ℕ → Asked → List (List ℕ × Data) → List (List ℕ × Step) → Type 0 where
    no_step : (h : Home) (id : List ℕ) (around : Asked) → AreStepsOf find h id around [] []
    one_step : (h : Home) (id : List ℕ) (around : Asked) (e : List ℕ × Data) (run : Data) (process : Process) (es : List (List ℕ × Data)) (steps : List (List ℕ × Step))
        → ArePlaced kind.StepInput (codes "in") h.url e.1 → get (codes "run") e.1 ≡ Some run → IsRunBy find h (asked_in around e.1) run process → AreStepsOf find h id around es steps
        → AreStepsOf find h id around (e ∷ es) ((e.0, step_of h.url process (step_parts_in id e.1)) ∷ steps)

  -- The process that a step runs, inside of what is asked there: that of an object in its place; of the item of the same document whose id is the name, where
  -- that begins with `#`; or else of the document that the name leads to, which has its own base, and is packed or not.
  pub data IsRunBy (find : Finds) : Home → Asked → Data → Process → Type 0 where
    embedded : (h : Home) (asked : Asked) (run : Data) (process : Process) → as_str run ≡ None → IsProcessOf find h asked run process → IsRunBy find h asked run process
    item : (h : Home) (asked : Asked) (run : Data) (name : List ℕ) (p : Placed) (process : Process) → as_str run ≡ Some name → has_hash name ≡ true
        → item_named name h.document ≡ Some p → item_fault p ≡ None → IsProcessOf find h asked p.process process → IsRunBy find h asked run process
    named : (h : Home) (asked : Asked) (run : Data) (name : List ℕ) (url : Parts) (d : Data) (process : Process) → as_str run ≡ Some name → has_hash name ≡ false
        → joined h.url name ≡ Some url → find (url_text url) ≡ Some (Ok d) → IsProcessOf find (home url d) asked (root_of d).process process → IsRunBy find h asked run process

-- Each document that is found stands for a process, by the table of fields.
abbrev pub AllAreProcesses : Finds → Type 0
AllAreProcesses find = (url : List ℕ) (d : Data) → find url ≡ Some (Ok d) → IsProcess (root_of d).process

-- The bytes are a document without a fault, and that is its process among the other documents.
abbrev pub IsItsProcess : List ℕ → Parts → Documents → Process → Type 0
IsItsProcess bytes base docs process = (d : Data) × one.IsSound bytes d × ((find : Finds) × IsLookUp docs find × IsProcessOf find (home base d) nothing_asked (root_of d).process process)
