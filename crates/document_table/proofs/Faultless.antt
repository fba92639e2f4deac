-- What a value without a fault is made of.
use Rattle.std.proofs.Common.{◌≡◌, ℕ, ◌+◌, List, [], ◌∷◌, Bool, true, false, Option, Some, None, Ok, Err, refl, sym, ap, ◌∙◌, bytes_eq, codes}
use Rattle.std.specs.Prelude.{option_map, if◌then◌else◌, ◌&&◌, not, is_none, is_some, unwrap_or, option_and_then}
use Rattle.std.proofs.lemmas.Bool.{true≢false}
use Rattle.std.proofs.lemmas.Option.{none-some}
use Rattle.std.proofs.lemmas.Bool.{true≢false}
use Rattle.std.proofs.lemmas.Option.{same_Some}
use Rattle.std.specs.Option.{option_map_or}
use Rattle.std.specs.List.{AllByRecursion, list_all}
use Rattle.std.specs.Ordering.{nat_cmp, match_ordering}
use Rattle.std.specs.declared.cmp.Ordering.{Ordering}
use Rattle.std.specs.declared.cmp.Ordering.TheVariants.{Less, Equal, Greater}
use Rattle.std.specs.Cmp.Lexicographic.{bytes_decides, slice_cmp}
use Rattle.std.proofs.lemmas.Map.Lookups.{exact_bytes}
use Rattle.serde_json.specs.Data.{Data, null, boolean, number, string, array, object, Items, no_items, item, Members, no_members, member}
use Rattle.serde_json.specs.Find.{as_object, as_str, get, get_member}
use Rattle.document_table.specs.Entries.{HasForm, IsOf, IsProcess, IsThere, MayHaveForm, entries, kind_in, kind_of, listed_entries, mapped_entries}
use Rattle.document_table.specs.Faults.{at, here, under}
use Rattle.document_table.specs.Layouts.{layout_of, member_form, field_form, is_read_over, missing, missing_field, by_class, key_fits, process_kind, process_layout, subject_of}
use Rattle.document_table.specs.Repeats.{name_in}
use Rattle.document_table.specs.Table.{Row, form_of, rows_of}
use Rattle.document_table.specs.Walk.{fault_in, fault_in_items, fault_in_members, key_fault, or_else, judged, own_fault}
use Rattle.document_table.specs.declared.fault.Cause.{Cause}
use Rattle.document_table.specs.declared.fault.Cause.TheVariants as cause
use Rattle.document_table.specs.declared.fault.DocumentFault.{DocumentFault}
use Rattle.document_table.specs.declared.form.Form.{Form}
use Rattle.document_table.specs.declared.form.Form.TheVariants as form
use Rattle.document_table.specs.declared.form.Kind.{Kind}
use Rattle.document_table.specs.declared.form.Kind.TheVariants as kind
use Rattle.document_table.specs.declared.layout.Layout.{Layout}
use Rattle.document_table.specs.declared.layout.Layout.TheVariants as layout

pub some_is_not_none : {A : Type 0} (x : A) → Some x ≡ None → ⊥
some_is_not_none x e = none-some x (sym e)

-- neither of two has a fault
pub first_none : (a b : Option DocumentFault) → or_else a b ≡ None → a ≡ None
first_none None b e = refl
first_none (Some fault) b e = e

pub later_none : (a b : Option DocumentFault) → or_else a b ≡ None → b ≡ None
later_none None b e = e
later_none (Some fault) b e = absurd (some_is_not_none fault e)

pub under_none : (name : List ℕ) (found : Option DocumentFault) → option_map (under name) found ≡ None → found ≡ None
under_none name None e = refl
under_none name (Some fault) e = absurd (some_is_not_none (under name fault) e)

-- a member that is looked up by its name
here_or_later : (layout : Layout) (name l : List ℕ) (f : Form) (d : Data) (ms : Members) (o : Ordering) → slice_cmp nat_cmp name l ≡ o
    → member_form layout name ≡ Ok f → judged l (member_form layout l) (λ form. fault_in form d) ≡ None
    → MayHaveForm f (get_member name ms) → MayHaveForm f (match_ordering o (get_member name ms) (Some d) (get_member name ms))
here_or_later layout name l f d ms Less cmp formed own later = later
here_or_later layout name l f d ms Greater cmp formed own later = later
here_or_later layout name l f d ms Equal cmp formed own later =
    let same : name ≡ l = exact_bytes name l cmp in
    let formed_l : member_form layout l ≡ Ok f = ap (member_form layout) (sym same) ∙ formed in
    under_none l (fault_in f d) (sym (ap (λ r. judged l r (λ form. fault_in form d)) formed_l) ∙ own)

pub member_has_form : (layout : Layout) (name : List ℕ) (f : Form) (ms : Members) → member_form layout name ≡ Ok f → fault_in_members layout ms ≡ None → MayHaveForm f (get_member name ms)
member_has_form layout name f no_members formed none = tt
member_has_form layout name f (member l d ms) formed none =
    here_or_later layout name l f d ms (slice_cmp nat_cmp name l) refl formed (first_none _ _ none) (member_has_form layout name f ms formed (later_none _ _ none))

-- the members and the object itself
pub members_none : (form : Form) (ms : Members) → HasForm form (object ms) → fault_in_members (layout_of form (object ms)) ms ≡ None
members_none form ms none = first_none _ _ none

pub own_none : (form : Form) (ms : Members) → HasForm form (object ms) → own_fault (layout_of form (object ms)) (object ms) ≡ None
own_none form ms none = first_none _ _ (later_none _ _ none)

-- no two keys stand for one name
pub keys_none : (form : Form) (ms : Members) → HasForm form (object ms) → key_fault (layout_of form (object ms)) ms ≡ None
keys_none form ms none = later_none _ _ (later_none _ _ none)

-- the same form, as the row of the name says
pub formed_of : (k kind : Kind) (name : List ℕ) (f : Form) → k ≡ kind → form_of kind name ≡ Some f → field_form k name ≡ Ok f
formed_of k kind name f same formed =
    ap (λ k. field_form k name) same ∙ ap (λ o. option_map_or Ok o (if is_read_over name then Ok form.Anything else Err cause.UnknownField)) formed

formed_in : (layout : Layout) (kind : Kind) (name : List ℕ) (f : Form) → kind_of layout ≡ Some kind → form_of kind name ≡ Some f → member_form layout name ≡ Ok f
formed_in (layout.Fields k) kind name f is formed = formed_of k kind name f (same_Some k kind is) formed
formed_in (layout.KeyedFields k) kind name f is formed = formed_of k kind name f (same_Some k kind is) formed
formed_in layout.Free kind name f is formed = absurd (some_is_not_none kind (sym is))
formed_in (layout.Refused c) kind name f is formed = absurd (some_is_not_none kind (sym is))
formed_in layout.Unclassed kind name f is formed = absurd (some_is_not_none kind (sym is))
formed_in layout.Unversioned kind name f is formed = absurd (some_is_not_none kind (sym is))
formed_in (layout.ByKey k) kind name f is formed = absurd (some_is_not_none kind (sym is))
formed_in layout.Requirements kind name f is formed = absurd (some_is_not_none kind (sym is))
formed_in layout.Hints kind name f is formed = absurd (some_is_not_none kind (sym is))
formed_in layout.Values kind name f is formed = absurd (some_is_not_none kind (sym is))

-- the value of a field has the form of its row
pub field_has_form : (kind : Kind) (name : List ℕ) (f : Form) (d : Data) → IsOf kind d → form_of kind name ≡ Some f → MayHaveForm f (get name d)
field_has_form kind name f null is formed = tt
field_has_form kind name f (boolean b) is formed = tt
field_has_form kind name f (number n) is formed = tt
field_has_form kind name f (string s) is formed = tt
field_has_form kind name f (array ds) is formed = tt
field_has_form kind name f (object ms) is formed =
    member_has_form (layout_of is.0 (object ms)) name f ms (formed_in (layout_of is.0 (object ms)) kind name f is.2 formed) (members_none is.0 ms is.1)

-- ---- required fields

-- a row that has to be there, and is not the one that is given
abbrev pub IsAsked : List ℕ → Row → Type 0
IsAsked given row = (row.required ≡ true) × (bytes_eq row.name given ≡ false)

abbrev missing_from : List ℕ → Data → Row → List Row → Bool → Option (List ℕ)
missing_from given d row rows test = if test then Some row.name else missing given d rows

there_first : (given : List ℕ) (d : Data) (row : Row) (rows : List Row) (test : Bool) → (row.required && not (bytes_eq row.name given) && is_none (get row.name d)) ≡ test
    → missing_from given d row rows test ≡ None → IsAsked given row → is_none (get row.name d) ≡ false
there_first given d row rows true is none asked = absurd (some_is_not_none row.name none)
there_first given d row rows false is none asked =
    sym (ap (λ b. b && is_none (get row.name d)) (ap (λ b. row.required && not b) asked.1 ∙ ap (λ b. b && true) asked.0)) ∙ is

there_later : (given : List ℕ) (d : Data) (row : Row) (rows : List Row) (test : Bool) → missing_from given d row rows test ≡ None → missing given d rows ≡ None
there_later given d row rows true none = absurd (some_is_not_none row.name none)
there_later given d row rows false none = none

-- each row that has to be there is
pub rows_there : (given : List ℕ) (d : Data) (rows : List Row) → missing given d rows ≡ None → AllByRecursion (λ row. IsAsked given row → is_none (get row.name d) ≡ false) rows
rows_there given d [] none = tt
rows_there given d (row ∷ rows) none =
    let test = row.required && not (bytes_eq row.name given) && is_none (get row.name d) in
    (there_first given d row rows test refl none, rows_there given d rows (there_later given d row rows test none))

named_none : (o : Option (List ℕ)) → option_map (λ name. under name (here cause.MissingField)) o ≡ None → o ≡ None
named_none None e = refl
named_none (Some name) e = absurd (some_is_not_none (under name (here cause.MissingField)) e)

pub missing_none : (l : Layout) (d : Data) → own_fault l d ≡ None → missing_field l d ≡ None
missing_none (layout.Refused c) d none = refl
missing_none layout.Free d none = refl
missing_none layout.Unclassed d none = named_none _ none
missing_none layout.Unversioned d none = named_none _ none
missing_none (layout.Fields k) d none = named_none _ none
missing_none (layout.KeyedFields k) d none = named_none _ none
missing_none (layout.ByKey k) d none = refl
missing_none layout.Requirements d none = refl
missing_none layout.Hints d none = refl
missing_none layout.Values d none = refl

-- ---- required fields, by the layout

rows_named : (kind : Kind) → list_all (λ row. not (bytes_eq row.name [])) (rows_of kind) ≡ true
rows_named kind.Packed = refl
rows_named kind.Tool = refl
rows_named kind.Workflow = refl
rows_named kind.ToolInput = refl
rows_named kind.ToolOutput = refl
rows_named kind.WorkflowInput = refl
rows_named kind.WorkflowOutput = refl
rows_named kind.Step = refl
rows_named kind.StepInput = refl
rows_named kind.StepOutput = refl
rows_named kind.InputBinding = refl
rows_named kind.Argument = refl
rows_named kind.OutputBinding = refl
rows_named kind.ItemBinding = refl
rows_named kind.ArrayType = refl
rows_named kind.EnumType = refl
rows_named kind.SecondaryFile = refl
rows_named kind.PlainRequirement = refl
rows_named kind.EnvVarRequirement = refl
rows_named kind.WorkReuse = refl
rows_named kind.Variable = refl

some_there : (o : Option Data) → is_none o ≡ false → is_some o ≡ true
some_there None e = absurd (true≢false e)
some_there (Some d) e = refl

not_empty : (row : Row) (rows : List Row) → list_all (λ row. not (bytes_eq row.name [])) (row ∷ rows) ≡ true → (bytes_eq row.name [] ≡ false) × (list_all (λ row. not (bytes_eq row.name [])) rows ≡ true)
not_empty row rows named = parts (bytes_eq row.name []) refl named
  where
    parts : (test : Bool) → bytes_eq row.name [] ≡ test → (not test && list_all (λ row. not (bytes_eq row.name [])) rows) ≡ true
        → (bytes_eq row.name [] ≡ false) × (list_all (λ row. not (bytes_eq row.name [])) rows ≡ true)
    parts true is e = absurd (true≢false (sym e))
    parts false is e = (is, e)

all_there : (d : Data) (rows : List Row) → list_all (λ row. not (bytes_eq row.name [])) rows ≡ true → AllByRecursion (λ row. IsAsked [] row → is_none (get row.name d) ≡ false) rows
    → AllByRecursion (λ row. row.required ≡ true → IsThere row.name d) rows
all_there d [] named there = tt
all_there d (row ∷ rows) named there =
    let parts = not_empty row rows named in
    ((λ required. some_there (get row.name d) (there.0 (required, parts.0))), all_there d rows parts.1 there.1)

pub required_there : (form : Form) (kind : Kind) (ms : Members) → HasForm form (object ms) → layout_of form (object ms) ≡ layout.Fields kind
    → AllByRecursion (λ row. row.required ≡ true → IsThere row.name (object ms)) (rows_of kind)
required_there form kind ms none is =
    let none : missing_field (layout.Fields kind) (object ms) ≡ None = ap (λ l. missing_field l (object ms)) (sym is) ∙ missing_none (layout_of form (object ms)) (object ms) (own_none form ms none) in
    all_there (object ms) (rows_of kind) (rows_named kind) (rows_there [] (object ms) (rows_of kind) none)

keyed_there : (kind : Kind) (d : Data) (rows : List Row) → AllByRecursion (λ row. IsAsked (subject_of kind) row → is_none (get row.name d) ≡ false) rows
    → AllByRecursion (λ row. row.required ≡ true → bytes_eq row.name (subject_of kind) ≡ false → IsThere row.name d) rows
keyed_there kind d [] there = tt
keyed_there kind d (row ∷ rows) there = ((λ required other. some_there (get row.name d) (there.0 (required, other))), keyed_there kind d rows there.1)

pub required_there_keyed : (form : Form) (kind : Kind) (ms : Members) → HasForm form (object ms) → layout_of form (object ms) ≡ layout.KeyedFields kind
    → AllByRecursion (λ row. row.required ≡ true → bytes_eq row.name (subject_of kind) ≡ false → IsThere row.name (object ms)) (rows_of kind)
required_there_keyed form kind ms none is =
    let none : missing_field (layout.KeyedFields kind) (object ms) ≡ None = ap (λ l. missing_field l (object ms)) (sym is) ∙ missing_none (layout_of form (object ms)) (object ms) (own_none form ms none) in
    keyed_there kind (object ms) (rows_of kind) (rows_there (subject_of kind) (object ms) (rows_of kind) none)

-- ---- lists and maps of objects

item_of : (kind : Kind) (index : ℕ) (d : Data) → option_map (at index) (fault_in (form.Object kind) d) ≡ None → IsOf kind d
item_of kind index d none = (form.Object kind, unplaced (fault_in (form.Object kind) d) none, refl)
  where
    unplaced : (o : Option DocumentFault) → option_map (at index) o ≡ None → o ≡ None
    unplaced None e = refl
    unplaced (Some fault) e = absurd (some_is_not_none (at index fault) e)

if_named : (kind : Kind) (d : Data) (ds : Items) (o : Option (List ℕ)) → IsOf kind d → AllByRecursion (λ e. IsOf kind e.1) (listed_entries kind ds)
    → AllByRecursion (λ e. IsOf kind e.1) (option_map_or (λ name. (name, d) ∷ listed_entries kind ds) o (listed_entries kind ds))
if_named kind d ds None is rest = rest
if_named kind d ds (Some name) is rest = (is, rest)

items_of : (kind : Kind) (index : ℕ) (ds : Items) → fault_in_items (form.Object kind) index ds ≡ None → AllByRecursion (λ e. IsOf kind e.1) (listed_entries kind ds)
items_of kind index no_items none = tt
items_of kind index (item d ds) none =
    if_named kind d ds (name_in kind d) (item_of kind index d (first_none _ _ none)) (items_of kind (index + 1) ds (later_none _ _ none))

keyed_of : (kind : Kind) (name : List ℕ) (d : Data) (test : Bool) → judged name (if test then Ok (form.Keyed kind) else Err cause.WrongForm) (λ form. fault_in form d) ≡ None → IsOf kind d
keyed_of kind name d true none = (form.Keyed kind, under_none name (fault_in (form.Keyed kind) d) none, refl)
keyed_of kind name d false none = absurd (some_is_not_none (under name (here cause.WrongForm)) none)

members_of : (kind : Kind) (ms : Members) → fault_in_members (layout.ByKey kind) ms ≡ None → AllByRecursion (λ e. IsOf kind e.1) (mapped_entries kind ms)
members_of kind no_members none = tt
members_of kind (member name d ms) none = (keyed_of kind name d (key_fits kind name) (first_none _ _ none), members_of kind ms (later_none _ _ none))

pub entries_of : (kind : Kind) (d : Data) → HasForm (form.Objects kind) d → AllByRecursion (λ e. IsOf kind e.1) (entries kind d)
entries_of kind null none = tt
entries_of kind (boolean b) none = tt
entries_of kind (number n) none = tt
entries_of kind (string s) none = tt
entries_of kind (array ds) none = items_of kind 0 ds (first_none _ _ none)
entries_of kind (object ms) none = members_of kind ms (first_none _ _ none)

-- ---- processes

classed : (name : List ℕ) (tool workflow : Bool) → bytes_eq name (codes "CommandLineTool") ≡ tool → bytes_eq name (codes "Workflow") ≡ workflow
    → (c : Cause) → (ms : Members) → own_fault (option_map_or layout.Fields (if tool then Some kind.Tool else (if workflow then Some kind.Workflow else None)) (layout.Refused c)) (object ms) ≡ None
    → option_map_or layout.Fields (if tool then Some kind.Tool else (if workflow then Some kind.Workflow else None)) (layout.Refused c) ≡ layout.Fields (if bytes_eq name (codes "Workflow") then kind.Workflow else kind.Tool)
classed name true workflow is_tool is_workflow c ms none =
    let same : name ≡ codes "CommandLineTool" = (bytes_decides name (codes "CommandLineTool")).0 is_tool in
    ap (λ n. layout.Fields (if bytes_eq n (codes "Workflow") then kind.Workflow else kind.Tool)) (sym same)
classed name false true is_tool is_workflow c ms none = ap (λ b. layout.Fields (if b then kind.Workflow else kind.Tool)) (sym is_workflow)
classed name false false is_tool is_workflow c ms none = absurd (some_is_not_none (here c) none)

by_text : (o : Option (List ℕ)) (ms : Members) → own_fault (option_map_or (λ name. option_map_or layout.Fields (process_kind name) (layout.Refused cause.WrongClass)) o (layout.Refused cause.WrongClass)) (object ms) ≡ None
    → option_map_or (λ name. option_map_or layout.Fields (process_kind name) (layout.Refused cause.WrongClass)) o (layout.Refused cause.WrongClass)
    ≡ layout.Fields (if bytes_eq (unwrap_or o []) (codes "Workflow") then kind.Workflow else kind.Tool)
by_text None ms none = absurd (some_is_not_none (here cause.WrongClass) none)
by_text (Some name) ms none = classed name (bytes_eq name (codes "CommandLineTool")) (bytes_eq name (codes "Workflow")) refl refl cause.WrongClass ms none

by_field : (o : Option Data) (ms : Members) → own_fault (by_class process_kind (layout.Refused cause.WrongClass) (layout.Refused cause.WrongClass) o) (object ms) ≡ None
    → by_class process_kind (layout.Refused cause.WrongClass) (layout.Refused cause.WrongClass) o
    ≡ layout.Fields (if bytes_eq (unwrap_or (option_and_then as_str o) []) (codes "Workflow") then kind.Workflow else kind.Tool)
by_field None ms none = absurd (some_is_not_none (under (codes "class") (here cause.MissingField)) none)
by_field (Some class) ms none = by_text (as_str class) ms none

process_of : (ms : Members) → own_fault (process_layout (object ms)) (object ms) ≡ None → process_layout (object ms) ≡ layout.Fields (kind_in (object ms))
process_of ms none = by_field (get (codes "class") (object ms)) ms none

pub run_of : (d : Data) → HasForm form.Run d → is_some (as_object d) ≡ true → IsProcess d
run_of null none is = absurd (true≢false (sym is))
run_of (boolean b) none is = absurd (true≢false (sym is))
run_of (number n) none is = absurd (true≢false (sym is))
run_of (string s) none is = absurd (true≢false (sym is))
run_of (array ds) none is = absurd (true≢false (sym is))
run_of (object ms) none is = (form.Run, none, ap kind_of (process_of ms (own_none form.Run ms none)))

-- a process of which nothing else is said
pub process_has : (d : Data) → HasForm form.Process d → IsProcess d
process_has null none = absurd (some_is_not_none (here cause.WrongForm) none)
process_has (boolean b) none = absurd (some_is_not_none (here cause.WrongForm) none)
process_has (number n) none = absurd (some_is_not_none (here cause.WrongForm) none)
process_has (string s) none = absurd (some_is_not_none (here cause.WrongForm) none)
process_has (array ds) none = absurd (some_is_not_none (here cause.WrongForm) none)
process_has (object ms) none = (form.Process, none, ap kind_of (process_of ms (own_none form.Process ms none)))

versioned : (ms : Members) (test : Bool) → own_fault (if test then layout.Unversioned else process_layout (object ms)) (object ms) ≡ None
    → (if test then layout.Unversioned else process_layout (object ms)) ≡ layout.Fields (kind_in (object ms))
versioned ms true none = absurd (some_is_not_none (under (codes "cwlVersion") (here cause.MissingField)) none)
versioned ms false none = process_of ms none

pub document_of : (d : Data) → HasForm form.Document d → IsProcess d
document_of null none = absurd (some_is_not_none (here cause.WrongForm) none)
document_of (boolean b) none = absurd (some_is_not_none (here cause.WrongForm) none)
document_of (number n) none = absurd (some_is_not_none (here cause.WrongForm) none)
document_of (string s) none = absurd (some_is_not_none (here cause.WrongForm) none)
document_of (array ds) none = absurd (some_is_not_none (here cause.WrongForm) none)
document_of (object ms) none =
    (form.Document, none, ap kind_of (versioned ms (is_none (get (codes "cwlVersion") (object ms))) (own_none form.Document ms none)))
