-- What describes an object decides nothing.
use Rattle.std.proofs.Common.{◌≡◌, ℕ, ◌+◌, List, [], ◌∷◌, Bool, true, false, Option, Some, None, Ok, Err, refl, sym, ap, ◌∙◌, bytes_eq, codes}
use Rattle.std.specs.Prelude.{Result, ◌&&◌, not, is_none, option_and_then, option_map, if◌then◌else◌}
use Rattle.std.specs.Option.{option_map_or}
use Rattle.std.specs.List.{list_all}
use Rattle.std.specs.Ordering.{nat_cmp, match_ordering}
use Rattle.std.specs.declared.cmp.Ordering.{Ordering}
use Rattle.std.specs.declared.cmp.Ordering.TheVariants.{Less, Equal, Greater}
use Rattle.std.specs.Cmp.Lexicographic.{bytes_decides, slice_cmp}
use Rattle.std.proofs.lemmas.Bool.{true≢false}
use Rattle.std.proofs.lemmas.Map.Lookups.{exact_bytes}
use Rattle.std.proofs.lemmas.Option.{none-some}
use Rattle.serde_json.specs.Data.{Data, null, boolean, number, string, array, object, Items, no_items, item, Members, no_members, member, put}
use Rattle.serde_json.specs.Find.{as_str, get}
use Rattle.serde_json.proofs.Views.{get_member-put_other}
use Rattle.document_table.specs.Entries.{kind_of}
use Rattle.document_table.specs.Faults.{at, here, under}
use Rattle.document_table.specs.Layouts.{acting_requirement, by_class, field_form, is_read_over, known_requirement, layout_of, member_form, missing, process_kind, subject_of, type_kind}
use Rattle.document_table.specs.Table.{Row, form_named, rows_of}
use Rattle.document_table.specs.Walk.{fault_in, fault_in_items, fault_in_members, judged, key_fault, or_else, own_fault}
use Rattle.document_table.specs.declared.fault.Cause.{Cause}
use Rattle.document_table.specs.declared.fault.Cause.TheVariants as cause
use Rattle.document_table.specs.declared.form.Form.{Form}
use Rattle.document_table.specs.declared.form.Form.TheVariants as form
use Rattle.document_table.specs.declared.form.Kind.{Kind}
use Rattle.document_table.specs.declared.form.Kind.TheVariants as kind
use Rattle.document_table.specs.declared.layout.Layout.{Layout}
use Rattle.document_table.specs.declared.layout.Layout.TheVariants as layout
use Rattle.document_table.proofs.Known.{fields_of}

-- ---- where nothing is asked

mutual
  pub anything_goes : (d : Data) → fault_in form.Anything d ≡ None
  anything_goes null = refl
  anything_goes (boolean b) = refl
  anything_goes (number n) = refl
  anything_goes (string s) = refl
  anything_goes (array ds) = ap (λ o. or_else o None) (any_items_go 0 ds)
  anything_goes (object ms) = ap (λ o. or_else o None) (any_members_go ms)

  any_items_go : (index : ℕ) (ds : Items) → fault_in_items form.Anything index ds ≡ None
  any_items_go index no_items = refl
  any_items_go index (item d ds) = ap (λ o. or_else (option_map (at index) o) (fault_in_items form.Anything (index + 1) ds)) (anything_goes d) ∙ any_items_go (index + 1) ds

  any_members_go : (ms : Members) → fault_in_members layout.Free ms ≡ None
  any_members_go no_members = refl
  any_members_go (member name d ms) = ap (λ o. or_else (option_map (under name) o) (fault_in_members layout.Free ms)) (anything_goes d) ∙ any_members_go ms

-- ---- names that describe are in no row

unread : (k : Kind) → list_all (λ row. not (is_read_over row.name)) (rows_of k) ≡ true
unread kind.Packed = refl
unread kind.Tool = refl
unread kind.Workflow = refl
unread kind.ToolInput = refl
unread kind.ToolOutput = refl
unread kind.WorkflowInput = refl
unread kind.WorkflowOutput = refl
unread kind.Step = refl
unread kind.StepInput = refl
unread kind.StepOutput = refl
unread kind.InputBinding = refl
unread kind.Argument = refl
unread kind.OutputBinding = refl
unread kind.ItemBinding = refl
unread kind.ArrayType = refl
unread kind.EnumType = refl
unread kind.SecondaryFile = refl
unread kind.PlainRequirement = refl
unread kind.EnvVarRequirement = refl
unread kind.WorkReuse = refl
unread kind.Variable = refl

unread_parts : (test rest : Bool) → (not test && rest) ≡ true → (test ≡ false) × (rest ≡ true)
unread_parts true rest e = absurd (true≢false (sym e))
unread_parts false rest e = (refl, e)

-- a name that is read over is no other
pub apart : (name other : List ℕ) → is_read_over name ≡ true → is_read_over other ≡ false → other ≡ name → ⊥
apart name other over unread same = true≢false (sym over ∙ ap is_read_over (sym same) ∙ unread)

no_row : (name : List ℕ) (rows : List Row) → is_read_over name ≡ true → list_all (λ row. not (is_read_over row.name)) rows ≡ true → form_named name rows ≡ None
no_row name [] over unread = refl
no_row name (row ∷ rows) over unread =
    let parts = unread_parts (is_read_over row.name) (list_all (λ row. not (is_read_over row.name)) rows) unread in
    by_name (bytes_eq row.name name) refl (apart name row.name over parts.0) (no_row name rows over parts.1)
  where
    by_name : (test : Bool) → bytes_eq row.name name ≡ test → (row.name ≡ name → ⊥) → form_named name rows ≡ None → (if test then Some row.form else form_named name rows) ≡ None
    by_name true is other rest = absurd (other ((bytes_decides row.name name).0 is))
    by_name false is other rest = rest

pub read_over : (k : Kind) (name : List ℕ) → is_read_over name ≡ true → field_form k name ≡ Ok form.Anything
read_over k name over =
    ap (λ o. option_map_or Ok o (if is_read_over name then Ok form.Anything else Err cause.UnknownField)) (no_row name (rows_of k) over (unread k))
    ∙ ap (λ t. if t then Ok form.Anything else Err cause.UnknownField) over

-- ---- the members

judged_any : (name : List ℕ) (d : Data) (r : Result Form Cause) → r ≡ Ok form.Anything → judged name r (λ f. fault_in f d) ≡ None
judged_any name d r is = ap (λ r. judged name r (λ f. fault_in f d)) is ∙ ap (option_map (under name)) (anything_goes d)

-- one more member of which nothing is asked
without_it : (l : Layout) (name : List ℕ) (d : Data) (ms : Members) → member_form l name ≡ Ok form.Anything → fault_in_members l (member name d ms) ≡ fault_in_members l ms
without_it l name d ms is = ap (λ o. or_else o (fault_in_members l ms)) (judged_any name d (member_form l name) is)

put_here : (l : Layout) (name other : List ℕ) (d e : Data) (ms : Members) (o : Ordering) → slice_cmp nat_cmp name other ≡ o → member_form l name ≡ Ok form.Anything
    → fault_in_members l (put name d ms) ≡ fault_in_members l ms
    → fault_in_members l (match_ordering o (member name d (member other e ms)) (member other d ms) (member other e (put name d ms))) ≡ fault_in_members l (member other e ms)
put_here l name other d e ms Less cmp is later = without_it l name d (member other e ms) is
put_here l name other d e ms Greater cmp is later = ap (or_else (judged other (member_form l other) (λ f. fault_in f e))) later
put_here l name other d e ms Equal cmp is later =
    let formed : member_form l other ≡ Ok form.Anything = ap (member_form l) (sym (exact_bytes name other cmp)) ∙ is in
    without_it l other d ms formed ∙ sym (without_it l other e ms formed)

put_any : (l : Layout) (name : List ℕ) (d : Data) (ms : Members) → member_form l name ≡ Ok form.Anything → fault_in_members l (put name d ms) ≡ fault_in_members l ms
put_any l name d no_members is = without_it l name d no_members is
put_any l name d (member other e ms) is = put_here l name other d e ms (slice_cmp nat_cmp name other) refl is (put_any l name d ms is)

-- ---- the object

missing_same : (given : List ℕ) (d e : Data) (rows : List Row) → list_all (λ row. not (is_read_over row.name)) rows ≡ true
    → ((name : List ℕ) → is_read_over name ≡ false → get name d ≡ get name e) → missing given d rows ≡ missing given e rows
missing_same given d e [] unread same = refl
missing_same given d e (row ∷ rows) unread same =
    let parts = unread_parts (is_read_over row.name) (list_all (λ row. not (is_read_over row.name)) rows) unread in
    let first = same row.name parts.0 in
    let rest = missing_same given d e rows parts.1 same in
    (λ i. if row.required && not (bytes_eq row.name given) && is_none (first i) then Some row.name else rest i)

own_same : (l : Layout) (k : Kind) (d e : Data) → kind_of l ≡ Some k → ((name : List ℕ) → is_read_over name ≡ false → get name d ≡ get name e) → own_fault l d ≡ own_fault l e
own_same (layout.Fields j) k d e is same = ap (option_map (λ name. under name (here cause.MissingField))) (missing_same [] d e (rows_of j) (unread j) same)
own_same (layout.KeyedFields j) k d e is same = ap (option_map (λ name. under name (here cause.MissingField))) (missing_same (subject_of j) d e (rows_of j) (unread j) same)
own_same _ k d e is same = absurd (none-some k is)

-- the names of fields stand for themselves
no_keys : (l : Layout) (k : Kind) (ms ns : Members) → kind_of l ≡ Some k → key_fault l ms ≡ key_fault l ns
no_keys (layout.Fields j) k ms ns is = refl
no_keys (layout.KeyedFields j) k ms ns is = refl
no_keys _ k ms ns is = absurd (none-some k is)

abbrev type_layout_by : Option Data → Layout
type_layout_by found = option_map_or layout.Fields (option_and_then type_kind (option_and_then as_str found)) (layout.Refused cause.WrongForm)

-- no layout hangs on a member that describes
layout_same : (f : Form) (d e : Data) → ((name : List ℕ) → is_read_over name ≡ false → get name d ≡ get name e) → layout_of f d ≡ layout_of f e
layout_same form.Document d e same =
    let version = same (codes "cwlVersion") refl in
    let class = same (codes "class") refl in
    (λ i. if is_none (version i) then layout.Unversioned else by_class process_kind (layout.Refused cause.WrongClass) (layout.Refused cause.WrongClass) (class i))
layout_same form.Process d e same = ap (by_class process_kind (layout.Refused cause.WrongClass) (layout.Refused cause.WrongClass)) (same (codes "class") refl)
layout_same form.Run d e same = ap (by_class process_kind (layout.Refused cause.WrongClass) (layout.Refused cause.WrongClass)) (same (codes "class") refl)
layout_same form.Type d e same = ap type_layout_by (same (codes "type") refl)
layout_same form.InputType d e same = ap type_layout_by (same (codes "type") refl)
layout_same form.OutputType d e same = ap type_layout_by (same (codes "type") refl)
layout_same form.Requirement d e same = ap (by_class known_requirement (layout.Refused cause.UnknownRequirement) (layout.Refused cause.WrongForm)) (same (codes "class") refl)
layout_same form.Hint d e same = ap (by_class acting_requirement layout.Free (layout.Refused cause.WrongForm)) (same (codes "class") refl)
layout_same _ d e same = refl

pub descriptions_decide_nothing : (f : Form) (k : Kind) (name : List ℕ) (d : Data) (ms : Members) → is_read_over name ≡ true → kind_of (layout_of f (object ms)) ≡ Some k
    → fault_in f (object (put name d ms)) ≡ fault_in f (object ms)
descriptions_decide_nothing f k name d ms over is =
    let same = λ (other : List ℕ) (unread : is_read_over other ≡ false). get_member-put_other other name d ms (apart name other over unread) in
    let layouts = layout_same f (object (put name d ms)) (object ms) same in
    let l = layout_of f (object ms) in
    let members = ap (λ l. fault_in_members l (put name d ms)) layouts ∙ put_any l name d ms (fields_of l k name is ∙ read_over k name over) in
    let own = ap (λ l. own_fault l (object (put name d ms))) layouts ∙ own_same l k (object (put name d ms)) (object ms) is same in
    let keys = ap (λ l. key_fault l (put name d ms)) layouts ∙ no_keys l k (put name d ms) ms is in
    (λ i. or_else (members i) (or_else (own i) (keys i)))
