-- Steps that name an item which their document does not have (CWL v1.2, Workflow Description, "WorkflowStep", `run`).
use Rattle.std.specs.Prelude.{◌≡◌, ℕ, List, true, Some, None, Ok, slice_get, codes}
use Rattle.serde_json.specs.Data.{Data}
use Rattle.serde_json.specs.Find.{as_str, get}
use Rattle.document_table.specs.Packed.{Placed, item_named, root_of}
use Rattle.document_table.specs.Texts.{has_hash}
use Rattle.document_table.specs.declared.form.Kind.TheVariants as kind
use Rattle.cwl_process.specs.Documents as one
use Rattle.cwl_process.specs.Processes.{is_workflow}
use Rattle.url.specs.Parts.{Parts}
use Rattle.document_links.specs.Homes.{Home, home}
use Rattle.document_links.specs.Library.{Documents, Finds, IsLookUp}
use Rattle.document_links.specs.ProcessOf.{objects_at}
use Rattle.document_links.specs.Targets.{target}

-- that step of the workflow
abbrev pub IsStepOf : Data → List ℕ × Data → Type 0
IsStepOf d e = (k : ℕ) × (slice_get (objects_at kind.Step (codes "steps") d) k ≡ Some e)

mutual
  -- a process, in that document, with a step whose name is that of an item that isn't there
  pub data NamesAbsent (find : Finds) : Home → Data → List ℕ → Type 0 where
    step : (h : Home) (d : Data) (e : List ℕ × Data) (run : Data) (id : List ℕ) → is_workflow d ≡ true → IsStepOf d e → get (codes "run") e.1 ≡ Some run
        → RunsAbsent find h run id → NamesAbsent find h d id

  -- what a step runs is such a name itself, or it is or leads to a process that has one
  pub data RunsAbsent (find : Finds) : Home → Data → List ℕ → Type 0 where
    itself : (h : Home) (run : Data) (id : List ℕ) → as_str run ≡ Some id → has_hash id ≡ true → item_named id h.document ≡ None → RunsAbsent find h run id
    embedded : (h : Home) (run : Data) (id : List ℕ) → as_str run ≡ None → NamesAbsent find h run id → RunsAbsent find h run id
    named : (h : Home) (run : Data) (name : List ℕ) (other : Home) (p : Placed) (id : List ℕ) → as_str run ≡ Some name → target find h name ≡ Ok (other, p)
        → NamesAbsent find other p.process id → RunsAbsent find h run id

-- The bytes are a document without a fault, and the process that it stands for has such a step.
abbrev pub LacksItem : List ℕ → Parts → Documents → List ℕ → Type 0
LacksItem bytes base docs id = (d : Data) × one.IsSound bytes d × ((find : Finds) × IsLookUp docs find × NamesAbsent find (home base d) (root_of d).process id)
