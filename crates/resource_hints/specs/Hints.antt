-- Which hint counts at each tool of a document (CWL v1.2, Command Line Tool Description, "Requirements and hints", "ResourceRequirement";
-- Workflow Description, "WorkflowStep").
use Rattle.std.specs.Prelude.{◌≡◌, ℕ, zero, suc, List, [], ◌∷◌, ◌++◌, Option, Some, None, Ok, Err, option_map, if◌then◌else◌, codes}
use Rattle.std.specs.List.{flat_map}
use Rattle.std.specs.Option.{option_map_or}
use Rattle.plain_data.specs.ByName.{with_value}
use Rattle.serde_json.specs.Data.{Data}
use Rattle.serde_json.specs.Find.{get}
use Rattle.document_table.specs.Entries.{entries}
use Rattle.document_table.specs.Packed.{root_of}
use Rattle.document_table.specs.declared.form.Kind.TheVariants as kind
use Rattle.cwl_process.specs.Acting.{nearer, requirement_at}
use Rattle.cwl_process.specs.Processes.{is_workflow}
use Rattle.url.specs.Parts.{Parts}
use Rattle.document_links.specs.Homes.{Home, home}
use Rattle.document_links.specs.Library.{Documents, Finds, Found, IsLookUp, IsReadAs}
use Rattle.document_links.specs.Targets.{run_of}
use Rattle.document_links.specs.declared.bounds.TheConstants.{MOST_WORKFLOWS}
use Rattle.resource_hints.specs.Amounts.{resources_in}
use Rattle.resource_hints.specs.declared.amounts.Resources.{Resources}

-- what the hint of a process or step itself asks for, if it has one
abbrev pub own_hint : Data → Option Resources
own_hint d = option_map resources_in (requirement_at (codes "hints") (codes "ResourceRequirement") d)

-- The most specific hint counts, as a whole: that of the process or step itself comes before the one around it.
abbrev pub asked_in : Option Resources → Data → Option Resources
asked_in around d = nearer (own_hint d) around

-- ---- tools, each under the place of its jobs

abbrev pub Asked : Type 0
Asked = List (List ℕ × Resources)

abbrev pub place_in : List ℕ → List ℕ → List ℕ
place_in place step = place ++ 47 ∷ step

-- a tool at that place, if a hint counts there
abbrev pub tool_asked : List ℕ → Option Resources → Asked
tool_asked place asked = option_map_or (λ resources. (place, resources) ∷ []) asked []

-- Those that what a step runs comes to: `inner` says it of a process in a document.
abbrev pub run_asked : (Home → Option Resources → List ℕ → Data → Asked) → Finds → Home → Option Resources → List ℕ → Data → Asked
run_asked inner find h around place run = option_map_or (λ p. inner p.0 around place p.1) (run_of find h run) []

abbrev pub step_asked : (Home → Option Resources → List ℕ → Data → Asked) → Finds → Home → Option Resources → List ℕ → List ℕ × Data → Asked
step_asked inner find h around place e = option_map_or (run_asked inner find h (asked_in around e.1) (place_in place e.0)) (get (codes "run") e.1) []

abbrev pub steps_asked : (Home → Option Resources → List ℕ → Data → Asked) → Finds → Home → Option Resources → List ℕ → Data → Asked
steps_asked inner find h around place d = option_map_or (λ v. flat_map (step_asked inner find h around place) (entries kind.Step v)) (get (codes "steps") d) []

-- Where there is no `inner`, no workflow may be.
abbrev pub process_asked : Option (Home → Option Resources → List ℕ → Data → Asked) → Finds → Home → Option Resources → List ℕ → Data → Asked
process_asked inner find h around place d =
    if is_workflow d then option_map_or (λ f. steps_asked f find h (asked_in around d) place d) inner [] else tool_asked place (asked_in around d)

-- the tools that a process comes to, in the order of the documents; so many workflows at most are inside one another
unfoldable pub asked_below : Finds → ℕ → Home → Option Resources → List ℕ → Data → Asked
asked_below find zero h around place d = process_asked None find h around place d
asked_below find (suc levels) h around place d = process_asked (Some (asked_below find levels)) find h around place d

-- ---- the table of a document

-- each of them put under its place
abbrev pub with_each : Asked → Asked → Asked
with_each [] table = table
with_each (e ∷ es) table = with_each es (with_value e.0 e.1 table)

-- A document with a fault has no tools.
abbrev pub asked_by : Finds → Parts → Found → Asked
asked_by find base (Ok d) = with_each (asked_below find MOST_WORKFLOWS (home base d) None (codes "main") (root_of d).process) []
asked_by find base (Err fault) = []

-- The table has what the document of those bytes, with the other documents, asks for.
abbrev pub IsAskedBy : List ℕ → Parts → Documents → Asked → Type 0
IsAskedBy bytes base docs table = (found : Found) × IsReadAs bytes found × ((find : Finds) × IsLookUp docs find × (table ≡ asked_by find base found))
