-- How many processes there may be, once each `run` name is replaced by its process, and how many workflows inside one another (own). The
-- processes are counted in the order of the documents: a workflow before those of its steps. On the way each default is looked at: its
-- Files and Directories have paths on the URL of the document.
use Rattle.std.specs.Prelude.{ℕ, zero, suc, List, [], ◌∷◌, Option, Some, None, Ok, Err, if◌then◌else◌, codes}
use Rattle.std.specs.Option.{option_map_or}
use Rattle.serde_json.specs.Data.{Data}
use Rattle.serde_json.specs.Find.{as_str, get}
use Rattle.document_table.specs.Entries.{entries}
use Rattle.document_table.specs.declared.form.Kind.TheVariants as kind
use Rattle.cwl_process.specs.Processes.{is_workflow}
use Rattle.document_links.specs.Homes.{Home}
use Rattle.document_links.specs.Defaults.{defaults_fault}
use Rattle.document_links.specs.Targets.{Leads, Target}
use Rattle.document_links.specs.Walks.{Left, checked, elsewhere, then_left, within}
use Rattle.document_links.specs.declared.fault.LinkFault.TheVariants.{TooDeep, TooMany}
use Rattle.document_links.specs.declared.walk.WalkFault.TheVariants.{Other}

abbrev pub at_target : Target → (Home → Data → Left) → Left
at_target (Ok t) next = elsewhere t.0.url t.1.index (next t.0 t.1.process)
at_target (Err fault) next = Err fault

-- a process: `inner` says it of those inside
abbrev pub run_left : (ℕ → Home → Data → Left) → Leads → ℕ → Home → Data → Left
run_left inner leads room h d = option_map_or (λ name. at_target (leads h name) (inner room)) (as_str d) (inner room h d)

-- the defaults of the step's inputs, and then what it runs
abbrev pub step_left : (ℕ → Home → Data → Left) → Leads → ℕ → Home → Data → Left
step_left inner leads room h d =
    checked (defaults_fault h.url kind.StepInput (codes "in") d)
    (within (codes "run") (option_map_or (run_left inner leads room h) (get (codes "run") d) (Ok room)))

abbrev pub steps_left : (ℕ → Home → Data → Left) → Leads → ℕ → Home → List (List ℕ × Data) → Left
steps_left inner leads room h [] = Ok room
steps_left inner leads room h (e ∷ es) = then_left (within e.0 (step_left inner leads room h e.1)) (λ n. steps_left inner leads n h es)

abbrev pub workflow_left : (ℕ → Home → Data → Left) → Leads → ℕ → Home → Data → Left
workflow_left inner leads room h d =
    checked (defaults_fault h.url kind.WorkflowInput (codes "inputs") d)
    (within (codes "steps") (option_map_or (λ v. steps_left inner leads room h (entries kind.Step v)) (get (codes "steps") d) (Ok room)))

abbrev pub tool_left : ℕ → Home → Data → Left
tool_left room h d = checked (defaults_fault h.url kind.ToolInput (codes "inputs") d) (Ok room)

-- Where there is no `inner`, no workflow may be.
abbrev pub process_left : Option (ℕ → Home → Data → Left) → Leads → ℕ → Home → Data → Left
process_left inner leads zero h d = Err (Other TooMany)
process_left inner leads (suc room) h d =
    if is_workflow d then option_map_or (λ f. workflow_left f leads room h d) inner (Err (Other TooDeep)) else tool_left room h d

unfoldable pub left : Leads → ℕ → ℕ → Home → Data → Left
left leads zero room h d = process_left None leads room h d
left leads (suc levels) room h d = process_left (Some (left leads levels)) leads room h d
