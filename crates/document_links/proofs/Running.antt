-- Each step of a workflow that keeps to the table has something to run.
use Rattle.std.proofs.Common.{◌≡◌, ℕ, ◌+◌, List, ◌∷◌, Bool, true, false, Option, Some, None, Ok, Err, refl, sym, codes}
use Rattle.std.specs.Prelude.{if◌then◌else◌, option_map, is_some}
use Rattle.std.specs.List.{AllByRecursion}
use Rattle.std.specs.Option.{option_map_or}
use Rattle.std.proofs.lemmas.Bool.{true≢false}
use Rattle.serde_json.specs.Data.{Data, null, boolean, number, string, array, object, Items, no_items, item, Members, no_members, member}
use Rattle.serde_json.specs.Find.{get}
use Rattle.document_table.specs.Entries.{HasForm, IsProcess, MayHaveForm, entries, listed_entries, mapped_entries}
use Rattle.document_table.specs.Faults.{at, here, under}
use Rattle.document_table.specs.Layouts.{key_fits}
use Rattle.document_table.specs.Repeats.{name_in}
use Rattle.document_table.specs.Walk.{fault_in, fault_in_items, fault_in_members, judged}
use Rattle.document_table.specs.declared.fault.Cause.TheVariants as cause
use Rattle.document_table.specs.declared.fault.DocumentFault.{DocumentFault}
use Rattle.document_table.specs.declared.form.Form.TheVariants as form
use Rattle.document_table.specs.declared.form.Kind.TheVariants as kind
use Rattle.document_table.specs.declared.layout.Layout.TheVariants as layout
use Rattle.document_table.proofs.Faultless.{first_none, later_none, required_there, required_there_keyed, some_is_not_none, under_none}
use Rattle.cwl_process.proofs.Forms.{is_a_workflow, step_run, workflow_steps}
use Rattle.cwl_process.specs.Processes.{is_workflow}

-- what the step runs, and its form
abbrev pub HasRun : Data → Type 0
HasRun d = (run : Data) × (get (codes "run") d ≡ Some run) × HasForm form.Run run

run_of : (o : Option Data) → is_some o ≡ true → MayHaveForm form.Run o → (run : Data) × (o ≡ Some run) × HasForm form.Run run
run_of (Some run) there has = (run, refl, has)
run_of None there has = absurd (true≢false (sym there))

step_runs : (d : Data) → HasForm (form.Object kind.Step) d → HasRun d
step_runs null none = absurd (some_is_not_none _ none)
step_runs (boolean b) none = absurd (some_is_not_none _ none)
step_runs (number n) none = absurd (some_is_not_none _ none)
step_runs (string s) none = absurd (some_is_not_none _ none)
step_runs (array ds) none = absurd (some_is_not_none _ none)
step_runs (object ms) none =
    run_of (get (codes "run") (object ms)) ((required_there (form.Object kind.Step) kind.Step ms none refl).1.1.1.0 refl) (step_run (object ms) (form.Object kind.Step, none, refl))

keyed_runs : (d : Data) → HasForm (form.Keyed kind.Step) d → HasRun d
keyed_runs null none = absurd (some_is_not_none _ none)
keyed_runs (boolean b) none = absurd (some_is_not_none _ none)
keyed_runs (number n) none = absurd (some_is_not_none _ none)
keyed_runs (string s) none = absurd (some_is_not_none _ none)
keyed_runs (array ds) none = absurd (some_is_not_none _ none)
keyed_runs (object ms) none =
    run_of (get (codes "run") (object ms)) ((required_there_keyed (form.Keyed kind.Step) kind.Step ms none refl).1.1.1.0 refl refl) (step_run (object ms) (form.Keyed kind.Step, none, refl))

-- each of the objects does
abbrev pub HaveRuns : List (List ℕ × Data) → Type 0
HaveRuns es = AllByRecursion (λ e. HasRun e.1) es

unplaced : (index : ℕ) (o : Option DocumentFault) → option_map (at index) o ≡ None → o ≡ None
unplaced index None none = refl
unplaced index (Some fault) none = absurd (some_is_not_none (at index fault) none)

if_named : (d : Data) (ds : Items) (o : Option (List ℕ)) → HasRun d → HaveRuns (listed_entries kind.Step ds)
    → HaveRuns (option_map_or (λ name. (name, d) ∷ listed_entries kind.Step ds) o (listed_entries kind.Step ds))
if_named d ds None one rest = rest
if_named d ds (Some name) one rest = (one, rest)

listed_run : (index : ℕ) (ds : Items) → fault_in_items (form.Object kind.Step) index ds ≡ None → HaveRuns (listed_entries kind.Step ds)
listed_run index no_items none = tt
listed_run index (item d ds) none =
    if_named d ds (name_in kind.Step d) (step_runs d (unplaced index (fault_in (form.Object kind.Step) d) (first_none _ _ none))) (listed_run (index + 1) ds (later_none _ _ none))

keyed_run : (name : List ℕ) (d : Data) (test : Bool) → judged name (if test then Ok (form.Keyed kind.Step) else Err cause.WrongForm) (λ form. fault_in form d) ≡ None → HasRun d
keyed_run name d true none = keyed_runs d (under_none name (fault_in (form.Keyed kind.Step) d) none)
keyed_run name d false none = absurd (some_is_not_none (under name (here cause.WrongForm)) none)

mapped_run : (ms : Members) → fault_in_members (layout.ByKey kind.Step) ms ≡ None → HaveRuns (mapped_entries kind.Step ms)
mapped_run no_members none = tt
mapped_run (member name d ms) none = (keyed_run name d (key_fits kind.Step name) (first_none _ _ none), mapped_run ms (later_none _ _ none))

pub steps_run : (d : Data) → HasForm (form.Objects kind.Step) d → HaveRuns (entries kind.Step d)
steps_run null none = tt
steps_run (boolean b) none = tt
steps_run (number n) none = tt
steps_run (string s) none = tt
steps_run (array ds) none = listed_run 0 ds (first_none _ _ none)
steps_run (object ms) none = mapped_run ms (first_none _ _ none)

-- those of a workflow have the form of steps
pub its_steps : (d : Data) → IsProcess d → is_workflow d ≡ true → MayHaveForm (form.Objects kind.Step) (get (codes "steps") d)
its_steps d is test = workflow_steps d (is_a_workflow d is test)
