-- What holds of every process that is read: what its written text tells, and which members of an object say nothing, or the same (CWL v1.2,
-- Command Line Tool Description, "CommandLineTool", "Requirements and hints"; Schema Salad v1.2, "Identifier maps").
use Rattle.std.specs.Prelude.{◌≡◌, ℕ, List, map, true, Option, Some, None, is_some, codes}
use Rattle.serde_json.specs.Data.{Data, Members, array, object, put}
use Rattle.serde_json.specs.Find.{get}
use Rattle.cwl_value.specs.Canonical.{HasWholeNumbers}
use Rattle.document_table.specs.Entries.{IsOf, entries}
use Rattle.document_table.specs.Kept.{kept}
use Rattle.document_table.specs.Laws.{items_under}
use Rattle.document_table.specs.Layouts.{is_read_over}
use Rattle.document_table.specs.declared.form.Form.TheVariants as form
use Rattle.document_table.specs.declared.form.Kind.{Kind}
use Rattle.document_table.specs.declared.form.Kind.TheVariants as kind
use Rattle.cwl_process.specs.Acting.{acting_at, asked_in, environment_of, nearer}
use Rattle.cwl_process.specs.Tools.{tool_in}
use Rattle.cwl_process.specs.declared.tool.Asked.{Asked}
use Rattle.cwl_process.specs.declared.tool.Tool.{Tool}
use Rattle.cwl_process.specs.declared.tool.Variable.{Variable}

-- The tools are equal, but for what is asked of them and around them.
pub record AreEqualTools (t u : Tool) : Type 0 where
  pub base_command : t.base_command ≡ u.base_command
  pub arguments : t.arguments ≡ u.arguments
  pub inputs : t.inputs ≡ u.inputs
  pub outputs : t.outputs ≡ u.outputs
  pub streams : t.streams ≡ u.streams
  pub exit_codes : t.exit_codes ≡ u.exit_codes

-- an object that keeps to the table of tools, and what it says has whole numbers alone
pub record IsToolObject (ms : Members) : Type 0 where
  pub formed : IsOf kind.Tool (object ms)
  pub whole : HasWholeNumbers (kept (form.Object kind.Tool) (object ms))

-- Objects that are written alike represent equal tools.
abbrev pub WrittenTellsToolsApart : Type 0
WrittenTellsToolsApart =
    (ms ns : Members) (around other : Asked) → IsToolObject ms → IsToolObject ns
    → (tool_in around (object ms)).written ≡ (tool_in other (object ns)).written → AreEqualTools (tool_in around (object ms)) (tool_in other (object ns))

-- ---- what describes is not read

-- With any value of a name that describes, as `doc`, or of an extension's, an object is read the same.
abbrev pub IgnoresDescriptions : {T : Type 0} → (Data → T) → Type 0
IgnoresDescriptions read = (name : List ℕ) (d : Data) (ms : Members) → is_read_over name ≡ true → read (object (put name d ms)) ≡ read (object ms)

-- ---- identifier maps

-- what is in a list or a map of objects, each as it is read, under its name
abbrev pub read_entries : {T : Type 0} → Kind → (Data → T) → Data → List (List ℕ × T)
read_entries kind read d = map (λ e. (e.0, read e.1)) (entries kind d)

-- A map of objects is read as the list that it stands for: each under its name, in their order.
abbrev pub ReadsMapsAsLists : {T : Type 0} → Kind → (Data → T) → Type 0
ReadsMapsAsLists kind read = (ms : Members) → read_entries kind read (array (items_under kind ms)) ≡ read_entries kind read (object ms)

-- ---- defaults

-- A field that is left out is read as one with that value.
abbrev pub IsDefault : {T : Type 0} → (Data → T) → List ℕ → Data → Type 0
IsDefault read name d = (ms : Members) → get name (object ms) ≡ None → read (object (put name d ms)) ≡ read (object ms)

-- ---- requirements and hints

-- the variables that are in force, where the process asks for them in that field
abbrev pub variables_asked : List ℕ → Data → Option (List (List ℕ × Variable))
variables_asked field d = (acting_at field d).environment

-- What a process requires of its environment is in force there, whatever is asked around it.
abbrev pub OwnRequirementCounts : Type 0
OwnRequirementCounts =
    (around : Asked) (d : Data) (variables : List (List ℕ × Variable)) → variables_asked (codes "requirements") d ≡ Some variables
    → environment_of (asked_in around d) ≡ Some variables

-- Else what is required around it is, whatever its hints say.
abbrev pub InheritedRequirementCounts : Type 0
InheritedRequirementCounts =
    (around : Asked) (d : Data) → variables_asked (codes "requirements") d ≡ None → is_some around.requirements.environment ≡ true
    → environment_of (asked_in around d) ≡ around.requirements.environment

-- A hint counts where nothing is required: its own, and else the one around it.
abbrev pub HintsCountLast : Type 0
HintsCountLast =
    (around : Asked) (d : Data) → variables_asked (codes "requirements") d ≡ None → around.requirements.environment ≡ None
    → environment_of (asked_in around d) ≡ nearer (variables_asked (codes "hints") d) around.hints.environment
