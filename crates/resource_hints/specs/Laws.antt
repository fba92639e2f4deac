-- That the nearest hint counts, in the words of the standard: the most specific one is used (CWL v1.2, Command Line Tool Description, "Requirements and
-- hints").
use Rattle.std.specs.Prelude.{◌≡◌, ℕ, List, [], ◌∷◌, false, Option, Some, None}
use Rattle.serde_json.specs.Data.{Data}
use Rattle.cwl_process.specs.Processes.{is_workflow}
use Rattle.document_links.specs.Homes.{Home}
use Rattle.document_links.specs.Library.{Finds}
use Rattle.resource_hints.specs.Hints.{Asked, asked_below, own_hint, step_asked, tool_asked}
use Rattle.resource_hints.specs.declared.amounts.Resources.{Resources}

-- A tool with a hint of its own is asked for what that says, whatever is asked around it.
abbrev pub OwnHintCounts : Type 0
OwnHintCounts =
    (find : Finds) (levels : ℕ) (h : Home) (around : Option Resources) (place : List ℕ) (d : Data) (own : Resources) → is_workflow d ≡ false → own_hint d ≡ Some own
    → asked_below find levels h around place d ≡ (place, own) ∷ []

-- A tool without one is asked for what is asked around it.
abbrev pub ElseTheHintAroundCounts : Type 0
ElseTheHintAroundCounts =
    (find : Finds) (levels : ℕ) (h : Home) (around : Option Resources) (place : List ℕ) (d : Data) → is_workflow d ≡ false → own_hint d ≡ None
    → asked_below find levels h around place d ≡ tool_asked place around

-- Inside of a process with a hint of its own nothing counts that is asked around it.
abbrev pub ProcessesHideHintsAround : Type 0
ProcessesHideHintsAround =
    (find : Finds) (levels : ℕ) (h : Home) (around other : Option Resources) (place : List ℕ) (d : Data) (own : Resources) → own_hint d ≡ Some own
    → asked_below find levels h around place d ≡ asked_below find levels h other place d

-- Nor does it inside of a step with one.
abbrev pub StepsHideHintsAround : Type 0
StepsHideHintsAround =
    (inner : Home → Option Resources → List ℕ → Data → Asked) (find : Finds) (h : Home) (around other : Option Resources) (place : List ℕ) (e : List ℕ × Data) (own : Resources)
    → own_hint e.1 ≡ Some own → step_asked inner find h around place e ≡ step_asked inner find h other place e
