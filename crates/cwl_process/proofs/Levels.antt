-- The count of levels never decides: JSON that nests no deeper than it represents one process, whatever the count.
use Rattle.std.proofs.Common.{◌≡◌, ℕ, zero, suc, ◌<◌, ◌≤◌, List, [], ◌∷◌, map, true, false, Option, Some, None, Ok, Err, IfOk, ◌-◌, ◌≢◌, refl, sym, ap, ◌∙◌, codes, arith, max, min}
use Rattle.std.specs.Prelude.{Result, if◌then◌else◌}
use Rattle.std.specs.List.{AllByRecursion}
use Rattle.std.specs.Option.{option_map_or}
use Rattle.std.specs.Cmp.Lexicographic.{slice_cmp}
use Rattle.std.specs.Ordering.{match_ordering, nat_cmp}
use Rattle.std.specs.declared.cmp.Ordering.{Ordering}
use Rattle.std.specs.declared.cmp.Ordering.TheVariants.{Less, Equal, Greater}
use Rattle.std.proofs.lemmas.Option.{none-some, same_Some}
use Rattle.serde_json.specs.Data.{Data, null, boolean, number, string, array, object, Items, no_items, item, Members, no_members, member, depth, items_depth, members_depth}
use Rattle.serde_json.specs.Find.{as_str, get, get_member}
use Rattle.document_table.specs.Entries.{entries, listed_entries, mapped_entries}
use Rattle.document_table.specs.Repeats.{name_in}
use Rattle.document_table.specs.declared.form.Kind.{Kind}
use Rattle.document_table.specs.declared.form.Kind.TheVariants as kind
use Rattle.cwl_process.specs.Acting.{asked_in}
use Rattle.cwl_process.specs.Processes.{is_workflow, process_in, step_in}
use Rattle.cwl_process.specs.Together.{process_fault, tool_fault, workflow_fault}
use Rattle.cwl_process.specs.Tools.{entries_at, tool_in}
use Rattle.cwl_process.specs.Workflows.{own_id, run_in, step_of, workflow_of}
use Rattle.cwl_process.specs.Parameters.{workflow_input_in, workflow_output_in}
use Rattle.cwl_process.specs.declared.process.Process.{Process}
use Rattle.cwl_process.specs.declared.process.Process as process
use Rattle.cwl_process.specs.declared.process.Run as run
use Rattle.cwl_process.specs.declared.tool.Asked.{Asked}
use Rattle.cwl_process.specs.declared.workflow.Step.{Step}
use Rattle.cwl_process.specs.declared.workflow.Workflow.{roll-Workflow}

-- ---- what is inside nests less deep

member_depth : (d v : Data) (ms : Members) (found : Option Data) (o : Ordering) → (found ≡ Some v → depth v ≤ members_depth ms) → match_ordering o found (Some d) found ≡ Some v
    → depth v ≤ max (depth d) (members_depth ms)
member_depth d v ms found Less later is = omega (arith, later is)
member_depth d v ms found Greater later is = omega (arith, later is)
member_depth d v ms found Equal later is = omega (arith, ap depth (same_Some d v is))

members_within : (name : List ℕ) (v : Data) (ms : Members) → get_member name ms ≡ Some v → depth v ≤ members_depth ms
members_within name v no_members is = absurd (none-some v is)
members_within name v (member l d ms) is = member_depth d v ms (get_member name ms) (slice_cmp nat_cmp name l) (members_within name v ms) is

field_within : (name : List ℕ) (d v : Data) → get name d ≡ Some v → depth v < depth d
field_within name null v is = absurd (none-some v is)
field_within name (boolean b) v is = absurd (none-some v is)
field_within name (number n) v is = absurd (none-some v is)
field_within name (string s) v is = absurd (none-some v is)
field_within name (array ds) v is = absurd (none-some v is)
field_within name (object ms) v is = omega (arith, members_within name v ms is)

-- all of them nest no deeper
abbrev AreWithin : ℕ → List (List ℕ × Data) → Type 0
AreWithin most es = AllByRecursion (λ e. depth e.1 ≤ most) es

all_within : (low high : ℕ) (es : List (List ℕ × Data)) → low ≤ high → AreWithin low es → AreWithin high es
all_within low high [] less all = tt
all_within low high (e ∷ es) less all = (omega (arith, less, all.0), all_within low high es less all.1)

named_within : (most : ℕ) (kind : Kind) (d : Data) (ds : Items) (o : Option (List ℕ)) → depth d ≤ most → AreWithin most (listed_entries kind ds)
    → AreWithin most (option_map_or (λ name. (name, d) ∷ listed_entries kind ds) o (listed_entries kind ds))
named_within most kind d ds None own rest = rest
named_within most kind d ds (Some name) own rest = (own, rest)

listed_within : (kind : Kind) (ds : Items) → AreWithin (items_depth ds) (listed_entries kind ds)
listed_within kind no_items = tt
listed_within kind (item d ds) =
    named_within (max (depth d) (items_depth ds)) kind d ds (name_in kind d) (omega arith) (all_within (items_depth ds) (max (depth d) (items_depth ds)) (listed_entries kind ds) (omega arith) (listed_within kind ds))

mapped_within : (kind : Kind) (ms : Members) → AreWithin (members_depth ms) (mapped_entries kind ms)
mapped_within kind no_members = tt
mapped_within kind (member name d ms) =
    (omega arith, all_within (members_depth ms) (max (depth d) (members_depth ms)) (mapped_entries kind ms) (omega arith) (mapped_within kind ms))

entries_within : (kind : Kind) (d : Data) → AreWithin (depth d) (entries kind d)
entries_within kind null = tt
entries_within kind (boolean b) = tt
entries_within kind (number n) = tt
entries_within kind (string s) = tt
entries_within kind (array ds) = all_within (items_depth ds) (suc (items_depth ds)) (listed_entries kind ds) (omega arith) (listed_within kind ds)
entries_within kind (object ms) = all_within (members_depth ms) (suc (members_depth ms)) (mapped_entries kind ms) (omega arith) (mapped_within kind ms)

-- ---- two ways to read processes that agree on all that nests less deep

abbrev Agree : ℕ → (Asked → Data → Process) → (Asked → Data → Process) → Type 0
Agree most f g = (asked : Asked) (d : Data) → depth d ≤ most → f asked d ≡ g asked d

run_same : (most : ℕ) (f g : Asked → Data → Process) (asked : Asked) (v : Data) → Agree most f g → depth v ≤ most → run_in (f asked) asked v ≡ run_in (g asked) asked v
run_same most f g asked v agree within = ap (λ p. option_map_or (λ name. run.Named (record { name = name; asked = asked })) (as_str v) (run.Inline p)) (agree asked v within)

run_at_same : (most : ℕ) (f g : Asked → Data → Process) (asked : Asked) (d : Data) (o : Option Data) → ((v : Data) → o ≡ Some v → depth v ≤ most) → Agree most f g
    → option_map_or (run_in (f asked) asked) o (run.Named (record { name = []; asked = asked })) ≡ option_map_or (run_in (g asked) asked) o (run.Named (record { name = []; asked = asked }))
run_at_same most f g asked d None within agree = refl
run_at_same most f g asked d (Some v) within agree = run_same most f g asked v agree (within v refl)

step_same : (most : ℕ) (f g : Asked → Data → Process) (id : List ℕ) (around : Asked) (d : Data) → Agree most f g → depth d ≤ suc most → step_in f id around d ≡ step_in g id around d
step_same most f g id around d agree within =
    ap (λ r. step_of id r d) (run_at_same most f g (asked_in around d) d (get (codes "run") d) (λ v found. omega (arith, field_within (codes "run") d v found, within)) agree)

-- each entry with the step that f makes of it
abbrev pub stepped : (Data → Step) → List (List ℕ × Data) → List (List ℕ × Step)
stepped f es = map (λ e. (e.0, f e.1)) es

abbrev one_step : List ℕ → List (List ℕ × Step) → Step → List (List ℕ × Step)
one_step id rest step = (id, step) ∷ rest

abbrev one_step_before : List ℕ → Step → List (List ℕ × Step) → List (List ℕ × Step)
one_step_before id step rest = (id, step) ∷ rest

steps_same : (most : ℕ) (f g : Asked → Data → Process) (id : List ℕ) (around : Asked) (es : List (List ℕ × Data)) → Agree most f g → AreWithin (suc most) es
    → stepped (step_in f id around) es ≡ stepped (step_in g id around) es
steps_same most f g id around [] agree within = refl
steps_same most f g id around (e ∷ es) agree within =
    ap (one_step e.0 (stepped (step_in f id around) es)) (step_same most f g id around e.1 agree within.0)
    ∙ ap (one_step_before e.0 (step_in g id around e.1)) (steps_same most f g id around es agree within.1)

field_steps_same : (most : ℕ) (f g : Asked → Data → Process) (id : List ℕ) (around : Asked) (o : Option Data) → Agree most f g → ((v : Data) → o ≡ Some v → depth v ≤ suc most)
    → option_map_or (λ v. stepped (step_in f id around) (entries kind.Step v)) o [] ≡ option_map_or (λ v. stepped (step_in g id around) (entries kind.Step v)) o []
field_steps_same most f g id around None agree within = refl
field_steps_same most f g id around (Some v) agree within =
    steps_same most f g id around (entries kind.Step v) agree (all_within (depth v) (suc most) (entries kind.Step v) (within v refl) (entries_within kind.Step v))

workflow_same : (n m : ℕ) (around : Asked) (d : Data) → Agree (min n m) (process_in n) (process_in m) → depth d ≤ suc n → depth d ≤ suc m
    → process.Workflow (workflow_of (step_in (process_in n) (own_id d) (asked_in around d)) d) ≡ process.Workflow (workflow_of (step_in (process_in m) (own_id d) (asked_in around d)) d)
workflow_same n m around d agree low high =
    ap (λ steps. process.Workflow (roll-Workflow (record {
      inputs = entries_at kind.WorkflowInput workflow_input_in (codes "inputs") d;
      outputs = entries_at kind.WorkflowOutput (workflow_output_in (own_id d)) (codes "outputs") d;
      steps = steps;
    })))
    (field_steps_same (min n m) (process_in n) (process_in m) (own_id d) (asked_in around d) (get (codes "steps") d) agree (λ v found. omega (arith, field_within (codes "steps") d v found, low, high)))

-- JSON that doesn't nest
flat_same : (m : ℕ) (around : Asked) (d : Data) → depth d ≤ 0 → process_in zero around d ≡ process_in m around d
unfolding process_in
flat_same zero around d flat = refl
flat_same (suc m) around null flat = refl
flat_same (suc m) around (boolean b) flat = refl
flat_same (suc m) around (number n) flat = refl
flat_same (suc m) around (string s) flat = refl
flat_same (suc m) around (array ds) flat = absurd (omega (arith, flat))
flat_same (suc m) around (object ms) flat = absurd (omega (arith, flat))

pub same_levels : (n m : ℕ) (around : Asked) (d : Data) → depth d ≤ n → depth d ≤ m → process_in n around d ≡ process_in m around d
unfolding process_in
same_levels zero m around d low high = flat_same m around d low
same_levels (suc n) zero around d low high = sym (flat_same (suc n) around d high)
same_levels (suc n) (suc m) around d low high =
    ap (λ w. if is_workflow d then w else process.Tool (tool_in around d))
    (workflow_same n m around d (λ asked inner within. same_levels n m asked inner (omega (arith, within)) (omega (arith, within))) low high)

-- ---- one level

before : (n : ℕ) → n ≡ suc n - 1
before n = omega arith

pub at_workflow : (levels : ℕ) (around : Asked) (d : Data) → levels ≢ 0 → is_workflow d ≡ true
    → process_in levels around d ≡ process.Workflow (workflow_of (step_in (process_in (levels - 1)) (own_id d) (asked_in around d)) d)
unfolding process_in
at_workflow zero around d some is = absurd (some refl)
at_workflow (suc n) around d some is =
    ap (λ t. if t then process.Workflow (workflow_of (step_in (process_in n) (own_id d) (asked_in around d)) d) else process.Tool (tool_in around d)) is
    ∙ ap (λ k. process.Workflow (workflow_of (step_in (process_in k) (own_id d) (asked_in around d)) d)) (before n)

pub at_tool : (levels : ℕ) (around : Asked) (d : Data) → levels ≢ 0 → is_workflow d ≡ false → process_in levels around d ≡ process.Tool (tool_in around d)
unfolding process_in
at_tool zero around d some is = absurd (some refl)
at_tool (suc n) around d some is =
    ap (λ t. if t then process.Workflow (workflow_of (step_in (process_in n) (own_id d) (asked_in around d)) d) else process.Tool (tool_in around d)) is

pub at_nothing : (around : Asked) (d : Data) → process_in zero around d ≡ process.Tool (tool_in around null)
unfolding process_in
at_nothing around d = refl

pub fault_at_workflow : (levels : ℕ) (d : Data) → levels ≢ 0 → is_workflow d ≡ true → process_fault levels d ≡ workflow_fault (process_fault (levels - 1)) d
unfolding process_fault
fault_at_workflow zero d some is = absurd (some refl)
fault_at_workflow (suc n) d some is = ap (λ t. if t then workflow_fault (process_fault n) d else tool_fault d) is ∙ ap (λ k. workflow_fault (process_fault k) d) (before n)

pub fault_at_tool : (levels : ℕ) (d : Data) → levels ≢ 0 → is_workflow d ≡ false → process_fault levels d ≡ tool_fault d
unfolding process_fault
fault_at_tool zero d some is = absurd (some refl)
fault_at_tool (suc n) d some is = ap (λ t. if t then workflow_fault (process_fault n) d else tool_fault d) is

pub fault_at_nothing : (d : Data) → process_fault zero d ≡ None
unfolding process_fault
fault_at_nothing d = refl

-- an answer that is known under another name
pub ok_same : {T E : Type 0} (r : Result T E) (x y : T) → x ≡ y → IfOk r (λ v. v ≡ x) → IfOk r (λ v. v ≡ y)
ok_same (Ok v) x y same is = is ∙ same
ok_same (Err e) x y same is = tt
