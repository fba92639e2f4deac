-- What the objects of a document have at their fields, where they keep to the table.
use Rattle.std.proofs.Common.{◌≡◌, ℕ, List, [], ◌∷◌, ◌++◌, map, Bor, suc, zero, length, get_or, ◌<◌, arith, Bool, true, false, Some, None, refl, sym, ap, subst, ◌∙◌, bytes_eq, codes}
use Rattle.std.specs.Prelude.{if◌then◌else◌, nat_le}
use Rattle.std.specs.List.{AllByRecursion, IsDistinct}
use Rattle.std.specs.Map.{keys_of}
use Rattle.serde_json.specs.Data.{Data, null, boolean, number, string, array, object, depth}
use Rattle.serde_json.specs.View.{view}
use Rattle.serde_json.specs.declared.value.Value.{Value}
use Rattle.serde_json.specs.Find.{as_str, get}
use Rattle.document_table.specs.Documents.{IsDocument, table_fault}
use Rattle.document_table.specs.Packed.{Placed, root_of}
use Rattle.document_table.specs.declared.document.TheConstants.{MOST_NESTING}
use Rattle.document_table.specs.Entries.{HasForm, IsOf, IsProcess, MayHaveForm, entries, entry_seen}
use Rattle.document_table.specs.declared.fault.Cause.TheVariants as cause
use Rattle.document_table.specs.declared.form.Form.TheVariants as form
use Rattle.document_table.specs.declared.form.Kind.{Kind}
use Rattle.document_table.specs.declared.form.Kind.TheVariants as kind
use Rattle.document_table.specs.Faults.{here}
use Rattle.document_table.specs.Kept.{kept}
use Rattle.document_table.proofs.Whole.{tool_whole}
use Rattle.serde_json.specs.Written.{has_float}
use Rattle.document_table.proofs.Faultless.{entries_of, field_has_form, first_none, process_has, run_of, some_is_not_none}
use Rattle.document_table.proofs.Roots.{placed_has, root_is_process}
use Rattle.cwl_process.specs.Documents.{item_fault}
use Rattle.cwl_process.specs.Processes.{is_workflow}

-- ---- tools and workflows

pub tool_inputs : (d : Data) → IsOf kind.Tool d → MayHaveForm (form.Objects kind.ToolInput) (get (codes "inputs") d)
tool_inputs d is = field_has_form kind.Tool (codes "inputs") (form.Objects kind.ToolInput) d is refl

pub tool_outputs : (d : Data) → IsOf kind.Tool d → MayHaveForm (form.Objects kind.ToolOutput) (get (codes "outputs") d)
tool_outputs d is = field_has_form kind.Tool (codes "outputs") (form.Objects kind.ToolOutput) d is refl

pub tool_requirements : (d : Data) → IsOf kind.Tool d → MayHaveForm form.Requirements (get (codes "requirements") d)
tool_requirements d is = field_has_form kind.Tool (codes "requirements") form.Requirements d is refl

pub tool_hints : (d : Data) → IsOf kind.Tool d → MayHaveForm form.Hints (get (codes "hints") d)
tool_hints d is = field_has_form kind.Tool (codes "hints") form.Hints d is refl

pub workflow_inputs : (d : Data) → IsOf kind.Workflow d → MayHaveForm (form.Objects kind.WorkflowInput) (get (codes "inputs") d)
workflow_inputs d is = field_has_form kind.Workflow (codes "inputs") (form.Objects kind.WorkflowInput) d is refl

pub workflow_outputs : (d : Data) → IsOf kind.Workflow d → MayHaveForm (form.Objects kind.WorkflowOutput) (get (codes "outputs") d)
workflow_outputs d is = field_has_form kind.Workflow (codes "outputs") (form.Objects kind.WorkflowOutput) d is refl

pub workflow_steps : (d : Data) → IsOf kind.Workflow d → MayHaveForm (form.Objects kind.Step) (get (codes "steps") d)
workflow_steps d is = field_has_form kind.Workflow (codes "steps") (form.Objects kind.Step) d is refl

pub workflow_requirements : (d : Data) → IsOf kind.Workflow d → MayHaveForm form.Requirements (get (codes "requirements") d)
workflow_requirements d is = field_has_form kind.Workflow (codes "requirements") form.Requirements d is refl

pub workflow_hints : (d : Data) → IsOf kind.Workflow d → MayHaveForm form.Hints (get (codes "hints") d)
workflow_hints d is = field_has_form kind.Workflow (codes "hints") form.Hints d is refl

pub tool_is_whole : (d : Data) → IsOf kind.Tool d → has_float (kept (form.Object kind.Tool) d) ≡ false
tool_is_whole = tool_whole

-- ---- steps

pub step_inputs : (d : Data) → IsOf kind.Step d → MayHaveForm (form.Objects kind.StepInput) (get (codes "in") d)
step_inputs d is = field_has_form kind.Step (codes "in") (form.Objects kind.StepInput) d is refl

pub step_requirements : (d : Data) → IsOf kind.Step d → MayHaveForm form.Requirements (get (codes "requirements") d)
step_requirements d is = field_has_form kind.Step (codes "requirements") form.Requirements d is refl

pub step_hints : (d : Data) → IsOf kind.Step d → MayHaveForm form.Hints (get (codes "hints") d)
step_hints d is = field_has_form kind.Step (codes "hints") form.Hints d is refl

pub step_run : (d : Data) → IsOf kind.Step d → MayHaveForm form.Run (get (codes "run") d)
step_run d is = field_has_form kind.Step (codes "run") form.Run d is refl

pub no_text_is_process : (d : Data) → HasForm form.Run d → as_str d ≡ None → IsProcess d
no_text_is_process null none is = absurd (some_is_not_none (here cause.WrongForm) none)
no_text_is_process (boolean b) none is = absurd (some_is_not_none (here cause.WrongForm) none)
no_text_is_process (number n) none is = absurd (some_is_not_none (here cause.WrongForm) none)
no_text_is_process (string s) none is = absurd (some_is_not_none s is)
no_text_is_process (array ds) none is = absurd (some_is_not_none (here cause.WrongForm) none)
no_text_is_process (object ms) none is = run_of (object ms) none refl

pub runs_process : (d v : Data) → IsOf kind.Step d → get (codes "run") d ≡ Some v → as_str v ≡ None → IsProcess v
runs_process d v is found none = no_text_is_process v (subst (MayHaveForm form.Run) found (step_run d is)) none

-- ---- processes

pub is_a_workflow : (d : Data) → IsProcess d → is_workflow d ≡ true → IsOf kind.Workflow d
is_a_workflow d is test = subst (λ k. IsOf k d) (ap (λ b. if b then kind.Workflow else kind.Tool) test) is

pub is_a_tool : (d : Data) → IsProcess d → is_workflow d ≡ false → IsOf kind.Tool d
is_a_tool d is test = subst (λ k. IsOf k d) (ap (λ b. if b then kind.Workflow else kind.Tool) test) is

-- ---- entries

pub keys_stay : {X Y : Type 0} (f : X → Y) (es : List (List ℕ × X)) → keys_of (map (λ e. (e.0, f e.1)) es) ≡ keys_of es
keys_stay f [] = refl
keys_stay f (e ∷ es) = ap (λ keys. e.0 ∷ keys) (keys_stay f es)

front_apart : (id : List ℕ) (front back : List (List ℕ)) → AllByRecursion (λ other. bytes_eq id other ≡ false) (front ++ back) → AllByRecursion (λ other. bytes_eq id other ≡ false) front
front_apart id [] back apart = tt
front_apart id (other ∷ front) back apart = (apart.0, front_apart id front back apart.1)

front_distinct : (front back : List (List ℕ)) → IsDistinct bytes_eq (front ++ back) → IsDistinct bytes_eq front
unfolding IsDistinct
front_distinct [] back distinct = tt
front_distinct (id ∷ front) back distinct = (front_apart id front back distinct.0, front_distinct front back distinct.1)

keys_joined : {X : Type 0} (front back : List (List ℕ × X)) → keys_of (front ++ back) ≡ keys_of front ++ keys_of back
keys_joined [] back = refl
keys_joined (e ∷ front) back = ap (λ keys. e.0 ∷ keys) (keys_joined front back)

-- what was made so far of entries whose ids differ
pub made_differ : {X Y : Type 0} (f : X → Y) (es : List (List ℕ × X)) (made rest : List (List ℕ × Y)) → made ++ rest ≡ map (λ e. (e.0, f e.1)) es
    → IsDistinct bytes_eq (keys_of es) → IsDistinct bytes_eq (keys_of made)
made_differ f es made rest is distinct =
    front_distinct (keys_of made) (keys_of rest) (subst (IsDistinct bytes_eq) (sym (sym (keys_joined made rest) ∙ ap keys_of is ∙ keys_stay f es)) distinct)

-- no entries
pub none_differ : {X : Type 0} (es : List (List ℕ × X)) → es ≡ [] → IsDistinct bytes_eq (keys_of es)
unfolding IsDistinct
none_differ es is = subst (λ es. IsDistinct bytes_eq (keys_of es)) (sym is) tt

-- ids that differ, of entries that the code has
pub seen_differ : (kind : Kind) (d : Data) (found items : List (Bor (List ℕ) × Bor Value)) → items ≡ found → map entry_seen found ≡ entries kind d
    → IsDistinct bytes_eq (keys_of (entries kind d)) → IsDistinct bytes_eq (keys_of (map entry_seen items))
seen_differ kind d found items same is distinct = subst (λ es. IsDistinct bytes_eq (keys_of es)) (sym (ap (map entry_seen) same ∙ is)) distinct

-- one of the entries that the code has
seen_at : (P : Data → Type 0) (items : List (Bor (List ℕ) × Bor Value)) (i : ℕ) (e : Bor (List ℕ) × Bor Value) → AllByRecursion (λ x. P x.1) (map entry_seen items)
    → i < length items → e ≡ get_or items i e → P (view e.1.now)
seen_at P [] i e all within is = absurd (omega (arith, within))
seen_at P (x ∷ xs) zero e all within is = subst (λ y. P (view y.1.now)) (sym is) all.0
seen_at P (x ∷ xs) (suc i) e all within is = seen_at P xs i e all.1 (omega (arith, within)) is

pub entry_is_of : (kind : Kind) (d : Data) (found items : List (Bor (List ℕ) × Bor Value)) (i : ℕ) (e : Bor (List ℕ) × Bor Value) → HasForm (form.Objects kind) d
    → items ≡ found → map entry_seen found ≡ entries kind d → i < length items → e ≡ get_or items i e → IsOf kind (view e.1.now)
entry_is_of kind d found items i e has same is within at =
    seen_at (IsOf kind) items i e (subst (AllByRecursion (λ x. IsOf kind x.1)) (sym (ap (map entry_seen) same ∙ is)) (entries_of kind d has)) within at

-- ---- documents

pub within : (d : Data) (test : Bool) → (if test then table_fault d else Some (here cause.TooDeep)) ≡ None → table_fault d ≡ None
within d true none = none
within d false none = absurd (some_is_not_none (here cause.TooDeep) none)

pub document_is_process : (bytes : List ℕ) (d : Data) → IsDocument bytes d → IsProcess (root_of d).process
document_is_process bytes d is = root_is_process d (within d (nat_le (depth d) MOST_NESTING) is.1)

-- one that the code has
pub placed_is_process : (d : Data) (p : Placed) → p ≡ root_of d → IsProcess (root_of d).process → IsProcess p.process
placed_is_process d p same is = subst (λ (q : Placed). IsProcess q.process) (sym same) is

pub item_is_process : (p : Placed) → item_fault p ≡ None → IsProcess p.process
item_is_process p none = process_has p.process (placed_has p (first_none _ _ none))
