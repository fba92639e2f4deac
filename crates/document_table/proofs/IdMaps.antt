-- A map of objects stands for a list of them.
use Rattle.std.proofs.Common.{◌≡◌, ℕ, ◌+◌, List, [], ◌∷◌, Bool, true, false, Option, Some, None, Ok, Err, refl, sym, ap, subst, ◌∙◌, bytes_eq, codes, ◌⊎◌, inl, inr}
use Rattle.std.specs.Prelude.{◌&&◌, not, is_none, is_some, option_and_then, option_map, if◌then◌else◌}
use Rattle.std.specs.Option.{option_map_or}
use Rattle.std.specs.Ordering.{nat_cmp, match_ordering}
use Rattle.std.specs.declared.cmp.Ordering.{Ordering}
use Rattle.std.specs.declared.cmp.Ordering.TheVariants.{Less, Equal, Greater}
use Rattle.std.specs.Cmp.Lexicographic.{bytes_decides, slice_cmp}
use Rattle.std.proofs.lemmas.Bool.{true≢false}
use Rattle.std.proofs.lemmas.Map.Lookups.{exact_bytes}
use Rattle.serde_json.specs.Data.{Data, null, boolean, number, string, array, object, Members, no_members, member, put}
use Rattle.serde_json.specs.Find.{as_str, get, get_member}
use Rattle.serde_json.proofs.Views.{get_member-put, get_member-put_other}
use Rattle.document_table.specs.Entries.{HasForm}
use Rattle.document_table.specs.Faults.{at, here, under}
use Rattle.document_table.specs.Laws.{item_under, items_under, predicate_of}
use Rattle.document_table.specs.Layouts.{field_form, key_fits, member_form, missing, subject_of}
use Rattle.document_table.specs.Leaves.{item_form, short_form, short_kind, wrong, wrong_leaf}
use Rattle.document_table.specs.Repeats.{key_names, name_in, names_in, repeat_after, subject_name}
use Rattle.document_table.specs.Table.{Row, form_of, rows_of}
use Rattle.document_table.specs.Walk.{fault_in, fault_in_items, fault_in_members, judged, leaf_fault, listed, or_else, repeat_fault}
use Rattle.document_table.specs.declared.fault.Cause.TheVariants as cause
use Rattle.document_table.specs.declared.fault.DocumentFault.{DocumentFault}
use Rattle.document_table.specs.declared.form.Form.{Form}
use Rattle.document_table.specs.declared.form.Form.TheVariants as form
use Rattle.document_table.specs.declared.form.Kind.{Kind}
use Rattle.document_table.specs.declared.form.Kind.TheVariants as kind
use Rattle.document_table.specs.declared.layout.Layout.{Layout}
use Rattle.document_table.specs.declared.layout.Layout.TheVariants as layout
use Rattle.document_table.proofs.Faultless.{first_none, formed_of, keys_none, later_none, missing_none, some_is_not_none, under_none}

-- ---- a member that is put where it belongs

none_both : (a b : Option DocumentFault) → a ≡ None → b ≡ None → or_else a b ≡ None
none_both a b first later = ap (λ o. or_else o b) first ∙ later

put_here : (l : Layout) (name other : List ℕ) (d e : Data) (ms : Members) (o : Ordering) → slice_cmp nat_cmp name other ≡ o → judged name (member_form l name) (λ f. fault_in f d) ≡ None
    → fault_in_members l (member other e ms) ≡ None → fault_in_members l (put name d ms) ≡ None
    → fault_in_members l (match_ordering o (member name d (member other e ms)) (member other d ms) (member other e (put name d ms))) ≡ None
put_here l name other d e ms Less cmp own all later = none_both _ _ own all
put_here l name other d e ms Greater cmp own all later = none_both _ _ (first_none _ _ all) later
put_here l name other d e ms Equal cmp own all later =
    none_both _ _ (subst (λ n. judged n (member_form l n) (λ f. fault_in f d) ≡ None) (exact_bytes name other cmp) own) (later_none _ _ all)

put_none : (l : Layout) (name : List ℕ) (d : Data) (ms : Members) → judged name (member_form l name) (λ f. fault_in f d) ≡ None → fault_in_members l ms ≡ None
    → fault_in_members l (put name d ms) ≡ None
put_none l name d no_members own all = none_both _ _ own all
put_none l name d (member other e ms) own all =
    put_here l name other d e ms (slice_cmp nat_cmp name other) refl own all (put_none l name d ms own (later_none _ _ all))

-- ---- subjects

-- objects of this kind have their subject among their fields
abbrev HasSubject : Kind → Type 0
HasSubject k = is_some (form_of k (subject_of k)) ≡ true

taken : (f : Form) (name : List ℕ) (test : Bool) → test ≡ true → (if test then None else Some (here (wrong_leaf f (string name)))) ≡ None
taken f name test is = ap (λ t. if t then None else Some (here (wrong_leaf f (string name)))) is

subject_fits : (k : Kind) (name : List ℕ) → HasSubject k → key_fits k name ≡ true → judged (subject_of k) (field_form k (subject_of k)) (λ f. fault_in f (string name)) ≡ None
subject_fits kind.ToolInput name has fits = ap (option_map (under (codes "id"))) (taken form.Id name (key_fits kind.ToolInput name) fits)
subject_fits kind.ToolOutput name has fits = ap (option_map (under (codes "id"))) (taken form.Id name (key_fits kind.ToolInput name) fits)
subject_fits kind.WorkflowInput name has fits = ap (option_map (under (codes "id"))) (taken form.Id name (key_fits kind.ToolInput name) fits)
subject_fits kind.WorkflowOutput name has fits = ap (option_map (under (codes "id"))) (taken form.Id name (key_fits kind.ToolInput name) fits)
subject_fits kind.Step name has fits = ap (option_map (under (codes "id"))) (taken form.StepId name (key_fits kind.Step name) fits)
subject_fits kind.StepInput name has fits = ap (option_map (under (codes "id"))) (taken form.Id name (key_fits kind.ToolInput name) fits)
subject_fits kind.StepOutput name has fits = ap (option_map (under (codes "id"))) (taken form.Id name (key_fits kind.ToolInput name) fits)
subject_fits kind.Tool name has fits = refl
subject_fits kind.Workflow name has fits = refl
subject_fits kind.Packed name has fits = absurd (true≢false (sym has))
subject_fits kind.PlainRequirement name has fits = refl
subject_fits kind.EnvVarRequirement name has fits = refl
subject_fits kind.WorkReuse name has fits = refl
subject_fits kind.Variable name has fits = refl
subject_fits kind.InputBinding name has fits = absurd (true≢false (sym has))
subject_fits kind.Argument name has fits = absurd (true≢false (sym has))
subject_fits kind.OutputBinding name has fits = absurd (true≢false (sym has))
subject_fits kind.ItemBinding name has fits = absurd (true≢false (sym has))
subject_fits kind.ArrayType name has fits = absurd (true≢false (sym has))
subject_fits kind.EnumType name has fits = absurd (true≢false (sym has))
subject_fits kind.SecondaryFile name has fits = absurd (true≢false (sym has))

-- ---- an object under a key

keyed_same : (k : Kind) (ms : Members) → fault_in_members (layout.KeyedFields k) ms ≡ fault_in_members (layout.Fields k) ms
keyed_same k no_members = refl
keyed_same k (member name d ms) = ap (or_else (judged name (field_form k name) (λ f. fault_in f d))) (keyed_same k ms)

-- a row has to be there, and isn't
abbrev is_missed : List ℕ → Data → Row → Bool
is_missed given d row = row.required && not (bytes_eq row.name given) && is_none (get row.name d)

split_row : (test : Bool) (name : List ℕ) (rest : Option (List ℕ)) → (if test then Some name else rest) ≡ None → (test ≡ false) × (rest ≡ None)
split_row true name rest e = absurd (some_is_not_none name e)
split_row false name rest e = (refl, e)

and_false : (b : Bool) → (b && false) ≡ false
and_false true = refl
and_false false = refl

unasked : (required other absent : Bool) → (required && true && absent) ≡ false → (required && other && absent) ≡ false
unasked false other absent e = refl
unasked true true absent e = e
unasked true false absent e = refl

-- a row that is not missed beside the subject is not missed with it
module _ (subject name : List ℕ) (ms : Members) where
  abbrev whole : Data
  whole = object (put subject (string name) ms)

  found_by_name : (row : Row) (test : Bool) → bytes_eq row.name subject ≡ test → is_missed subject (object ms) row ≡ false → is_missed [] whole row ≡ false
  found_by_name row true is was =
      let got = ap (λ n. get_member n (put subject (string name) ms)) ((bytes_decides row.name subject).0 is) ∙ get_member-put subject (string name) ms in
      ap (λ o. row.required && not (bytes_eq row.name []) && is_none o) got ∙ and_false (row.required && not (bytes_eq row.name []))
  found_by_name row false is was =
      let apart = λ (same : row.name ≡ subject). true≢false (sym ((bytes_decides row.name subject).1 same) ∙ is) in
      let got = get_member-put_other row.name subject (string name) ms apart in
      ap (λ o. row.required && not (bytes_eq row.name []) && is_none o) got
      ∙ unasked row.required (not (bytes_eq row.name [])) (is_none (get row.name (object ms)))
      (sym (ap (λ t. row.required && not t && is_none (get row.name (object ms))) is) ∙ was)

  all_found : (rows : List Row) → missing subject (object ms) rows ≡ None → missing [] whole rows ≡ None
  all_found [] none = refl
  all_found (row ∷ rows) none =
      let parts = split_row (is_missed subject (object ms) row) row.name (missing subject (object ms) rows) none in
      let first = found_by_name row (bytes_eq row.name subject) refl parts.0 in
      ap (λ t. if t then Some row.name else missing [] whole rows) first ∙ all_found rows parts.1

abbrev no_row_missed : Option (List ℕ) → Option DocumentFault
no_row_missed o = option_map (λ name. under name (here cause.MissingField)) o

whole_item : (k : Kind) (name : List ℕ) (ms : Members) → HasSubject k → key_fits k name ≡ true → HasForm (form.Keyed k) (object ms)
    → HasForm (form.Object k) (object (put (subject_of k) (string name) ms))
whole_item k name ms has fits none =
    let members = put_none (layout.Fields k) (subject_of k) (string name) ms (subject_fits k name has fits) (sym (keyed_same k ms) ∙ first_none _ _ none) in
    let rows = all_found (subject_of k) name ms (rows_of k) (missing_none (layout.KeyedFields k) (object ms) (first_none _ _ (later_none _ _ none))) in
    none_both _ _ members (none_both _ None (ap no_row_missed rows) refl)

-- ---- another value under a key

abbrev short_object : Kind → List ℕ → Data → Data
short_object k name d = object (put (subject_of k) (string name) (member (predicate_of k) d no_members))

-- the value stands for that field, and no other one has to be there but the subject
pub record HasPredicate (k : Kind) : Type 0 where
  pub row : form_of k (predicate_of k) ≡ Some (short_kind k)
  pub all : (name : List ℕ) (d : Data) → missing [] (short_object k name d) (rows_of k) ≡ None

predicate_or_none : (k : Kind) → HasPredicate k ⊎ (short_kind k ≡ form.Object k)
predicate_or_none kind.ToolInput = inl (record { row = refl; all = λ name d. refl })
predicate_or_none kind.ToolOutput = inl (record { row = refl; all = λ name d. refl })
predicate_or_none kind.WorkflowInput = inl (record { row = refl; all = λ name d. refl })
predicate_or_none kind.WorkflowOutput = inl (record { row = refl; all = λ name d. refl })
predicate_or_none kind.StepInput = inl (record { row = refl; all = λ name d. refl })
predicate_or_none kind.Variable = inl (record { row = refl; all = λ name d. refl })
predicate_or_none _ = inr refl

by_predicate : (k : Kind) (name : List ℕ) (d : Data) → HasSubject k → key_fits k name ≡ true → HasPredicate k → HasForm (short_kind k) d → HasForm (form.Object k) (short_object k name d)
by_predicate k name d has fits row formed =
    let p = predicate_of k in
    let own = ap (λ r. judged p r (λ f. fault_in f d)) (formed_of k k p (short_kind k) refl row.row) ∙ ap (option_map (under p)) formed in
    let members = put_none (layout.Fields k) (subject_of k) (string name) (member p d no_members) (subject_fits k name has fits) (none_both _ None own refl) in
    none_both _ _ members (none_both _ None (ap no_row_missed (row.all name d)) refl)

short_item : (k : Kind) (name : List ℕ) (d : Data) → HasSubject k → key_fits k name ≡ true → HasForm (short_kind k) d → (HasForm (form.Object k) d → ⊥) → HasForm (form.Object k) (short_object k name d)
short_item k name d has fits formed none = either (predicate_or_none k)
  where
    either : HasPredicate k ⊎ (short_kind k ≡ form.Object k) → HasForm (form.Object k) (short_object k name d)
    either (inl row) = by_predicate k name d has fits row formed
    either (inr same) = absurd (none (subst (λ f. HasForm f d) same formed))

-- a form that a short value has is short
stays : (k : Kind) → short_form (short_kind k) ≡ short_kind k
stays kind.ToolInput = refl
stays kind.ToolOutput = refl
stays kind.WorkflowInput = refl
stays kind.WorkflowOutput = refl
stays kind.StepInput = refl
stays kind.Variable = refl
stays _ = refl

listed_same : (f g : Form) (each : Option Form) (fault_of : Form → Option DocumentFault) → listed f each fault_of ≡ None → listed g each fault_of ≡ None
listed_same f g None fault_of none = absurd (some_is_not_none (here (wrong f)) none)
listed_same f g (Some each) fault_of none = none

no_object : (k : Kind) → Some (here (wrong (form.Object k))) ≡ None → ⊥
no_object k e = some_is_not_none (here (wrong (form.Object k))) e

item_none : (k : Kind) (name : List ℕ) (d : Data) → HasSubject k → key_fits k name ≡ true → HasForm (form.Keyed k) d → HasForm (form.Object k) (item_under k name d)
item_none k name null has fits none = short_item k name null has fits (ap (λ f. leaf_fault f null) (stays k) ∙ none) (no_object k)
item_none k name (boolean b) has fits none = short_item k name (boolean b) has fits (ap (λ f. leaf_fault f (boolean b)) (stays k) ∙ none) (no_object k)
item_none k name (number n) has fits none = short_item k name (number n) has fits (ap (λ f. leaf_fault f (number n)) (stays k) ∙ none) (no_object k)
item_none k name (string s) has fits none = short_item k name (string s) has fits (ap (λ f. leaf_fault f (string s)) (stays k) ∙ none) (no_object k)
item_none k name (array ds) has fits none =
    let each_of = λ (f each : Form). or_else (fault_in_items each 0 ds) (repeat_fault f ds) in
    let formed = listed_same (form.Keyed k) (short_kind k) (item_form (short_kind k)) (each_of (short_kind k)) none in
    short_item k name (array ds) has fits (subst (λ f. listed (short_kind k) (item_form f) (each_of f) ≡ None) (sym (stays k)) formed) (no_object k)
item_none k name (object ms) has fits none = whole_item k name ms has fits none

-- ---- the list of a map

keyed_parts : (k : Kind) (name : List ℕ) (d : Data) (test : Bool) → judged name (if test then Ok (form.Keyed k) else Err cause.WrongForm) (λ f. fault_in f d) ≡ None
    → (test ≡ true) × HasForm (form.Keyed k) d
keyed_parts k name d true none = (refl, under_none name (fault_in (form.Keyed k) d) none)
keyed_parts k name d false none = absurd (some_is_not_none (under name (here cause.WrongForm)) none)

items_none : (k : Kind) (index : ℕ) (ms : Members) → HasSubject k → fault_in_members (layout.ByKey k) ms ≡ None → fault_in_items (form.Object k) index (items_under k ms) ≡ None
items_none k index no_members has none = refl
items_none k index (member name d ms) has none =
    let own = keyed_parts k name d (key_fits k name) (first_none _ _ none) in
    none_both _ _ (ap (option_map (at index)) (item_none k name d has own.0 own.1)) (items_none k (index + 1) ms has (later_none _ _ none))

pub name_under : (k : Kind) (name : List ℕ) (d : Data) → name_in k (item_under k name d) ≡ Some (subject_name k name)
name_under k name null = ap (λ o. option_map (subject_name k) (option_and_then as_str o)) (get_member-put (subject_of k) (string name) (member (predicate_of k) null no_members))
name_under k name (boolean b) = ap (λ o. option_map (subject_name k) (option_and_then as_str o)) (get_member-put (subject_of k) (string name) (member (predicate_of k) (boolean b) no_members))
name_under k name (number n) = ap (λ o. option_map (subject_name k) (option_and_then as_str o)) (get_member-put (subject_of k) (string name) (member (predicate_of k) (number n) no_members))
name_under k name (string s) = ap (λ o. option_map (subject_name k) (option_and_then as_str o)) (get_member-put (subject_of k) (string name) (member (predicate_of k) (string s) no_members))
name_under k name (array ds) = ap (λ o. option_map (subject_name k) (option_and_then as_str o)) (get_member-put (subject_of k) (string name) (member (predicate_of k) (array ds) no_members))
name_under k name (object ms) = ap (λ o. option_map (subject_name k) (option_and_then as_str o)) (get_member-put (subject_of k) (string name) ms)

names_under : (k : Kind) (ms : Members) → names_in k (items_under k ms) ≡ key_names k ms
names_under k no_members = refl
names_under k (member name d ms) =
    ap (λ o. option_map_or (λ n. n ∷ names_in k (items_under k ms)) o (names_in k (items_under k ms))) (name_under k name d) ∙ ap (λ names. subject_name k name ∷ names) (names_under k ms)

repeat_none : (o : Option (List ℕ)) → option_map (λ name. under name (here cause.RepeatedId)) o ≡ None → o ≡ None
repeat_none None e = refl
repeat_none (Some name) e = absurd (some_is_not_none (under name (here cause.RepeatedId)) e)

pub maps_stand_for_lists : (k : Kind) (ms : Members) → HasSubject k → HasForm (form.Objects k) (object ms) → HasForm (form.Objects k) (array (items_under k ms))
maps_stand_for_lists k ms has none =
    let once = ap (repeat_after []) (names_under k ms) ∙ repeat_none (repeat_after [] (key_names k ms)) (keys_none (form.Objects k) ms none) in
    none_both _ _ (items_none k 0 ms has (first_none _ _ none)) (ap (option_map (λ name. under name (here cause.RepeatedId))) once)
