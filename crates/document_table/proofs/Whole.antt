-- No value that keeps to the table says a fraction.
use Rattle.std.proofs.Common.{◌≡◌, ℕ, ◌+◌, List, Bool, true, false, Option, Some, None, Ok, Err, refl, sym, ap, subst, ◌∙◌}
use Rattle.std.specs.Prelude.{Result, ◌||◌, option_map, unwrap_or, if◌then◌else◌}
use Rattle.std.proofs.lemmas.Bool.{true≢false}
use Rattle.std.proofs.lemmas.Option.{none-some, same_Some}
use Rattle.serde_json.specs.Data.{Data, Num, unsigned, negative, float, null, boolean, number, string, array, object, Items, no_items, item, Members, no_members, member}
use Rattle.serde_json.specs.Written.{has_float, items_have_float, members_have_float}
use Rattle.document_table.specs.Entries.{HasForm, IsOf, kind_of}
use Rattle.document_table.specs.Faults.{at, here}
use Rattle.document_table.specs.Kept.{is_kept, kept, kept_form, kept_items, kept_members, put_kept}
use Rattle.document_table.specs.Layouts.{field_form, layout_of, member_form}
use Rattle.document_table.specs.Leaves.{item_form, short_form, short_kind, takes_leaf, takes_number, wrong, wrong_leaf}
use Rattle.document_table.specs.Walk.{fault_in, fault_in_items, fault_in_members, judged, listed, or_else, repeat_fault}
use Rattle.document_table.specs.declared.fault.Cause.{Cause}
use Rattle.document_table.specs.declared.fault.DocumentFault.{DocumentFault}
use Rattle.document_table.specs.declared.form.Form.{Form}
use Rattle.document_table.specs.declared.form.Form.TheVariants as form
use Rattle.document_table.specs.declared.form.Kind.{Kind}
use Rattle.document_table.specs.declared.form.Kind.TheVariants as kind
use Rattle.document_table.specs.declared.layout.Layout.{Layout}
use Rattle.document_table.specs.declared.layout.Layout.TheVariants as layout
use Rattle.document_table.proofs.Faultless.{first_none, later_none, members_none, some_is_not_none, under_none}

-- something is asked of the value
abbrev pub asks : Form → Bool
asks form.Anything = false
asks _ = true

short_kind_asks : (k : Kind) → asks (short_kind k) ≡ true
short_kind_asks kind.ToolInput = refl
short_kind_asks kind.ToolOutput = refl
short_kind_asks kind.WorkflowInput = refl
short_kind_asks kind.WorkflowOutput = refl
short_kind_asks kind.StepInput = refl
short_kind_asks kind.Variable = refl
short_kind_asks _ = refl

short_asks : (f : Form) → asks f ≡ true → asks (short_form f) ≡ true
short_asks (form.Keyed k) is = short_kind_asks k
short_asks _ is = is

item_asks : (f each : Form) → asks f ≡ true → item_form f ≡ Some each → asks each ≡ true
item_asks form.Anything each is found = absurd (true≢false (sym is))
item_asks form.Value each is found = ap asks (sym (same_Some form.Value each found))
item_asks form.Words each is found = ap asks (sym (same_Some form.Text each found))
item_asks form.Names each is found = ap asks (sym (same_Some form.Name each found))
item_asks form.Symbols each is found = ap asks (sym (same_Some form.Name each found))
item_asks form.Ints each is found = ap asks (sym (same_Some form.Int each found))
item_asks form.Sources each is found = ap asks (sym (same_Some form.Source each found))
item_asks form.Type each is found = ap asks (sym (same_Some form.Type each found))
item_asks form.InputType each is found = ap asks (sym (same_Some form.Type each found))
item_asks form.OutputType each is found = ap asks (sym (same_Some form.Type each found))
item_asks form.Arguments each is found = ap asks (sym (same_Some form.Argument each found))
item_asks form.SecondaryFiles each is found = ap asks (sym (same_Some form.SecondaryFile each found))
item_asks form.StepOutputs each is found = ap asks (sym (same_Some form.StepOutput each found))
item_asks (form.Objects k) each is found = ap asks (sym (same_Some (form.Object k) each found))
item_asks form.Requirements each is found = ap asks (sym (same_Some form.Requirement each found))
item_asks form.Hints each is found = ap asks (sym (same_Some form.Hint each found))
item_asks _ each is found = absurd (some_is_not_none each (sym found))

kept_asks : (f : Form) → is_kept f ≡ true → asks f ≡ true
kept_asks form.Anything is = absurd (true≢false (sym is))
kept_asks form.Hints is = refl
kept_asks _ is = refl

-- ---- numbers

no_float_taken : (f : Form) (n : Num) → asks f ≡ true → takes_number f (number n) ≡ true → has_float (number n) ≡ false
no_float_taken f (unsigned n) is taken = refl
no_float_taken f (negative z) is taken = refl
no_float_taken form.Anything (float x) is taken = absurd (true≢false (sym is))
no_float_taken form.Value (float x) is taken = absurd (true≢false (sym taken))
no_float_taken form.Int (float x) is taken = absurd (true≢false (sym taken))
no_float_taken _ (float x) is taken = absurd (true≢false (sym taken))

pub taken_of : (c : Cause) (test : Bool) → (if test then None else Some (here c)) ≡ None → test ≡ true
taken_of c true none = refl
taken_of c false none = absurd (some_is_not_none (here c) none)

-- ---- lists and objects

abbrev HasItems : Option Form → Items → Type 0
HasItems found ds = (each : Form) × (found ≡ Some each) × (fault_in_items each 0 ds ≡ None)

items_of : (f : Form) (found : Option Form) (ds : Items)
    → listed f found (λ each. or_else (fault_in_items each 0 ds) (repeat_fault (short_form f) ds)) ≡ None → HasItems found ds
items_of f None ds none = absurd (some_is_not_none (here (wrong f)) none)
items_of f (Some each) ds none = (each, refl, first_none _ _ none)

unplaced : (index : ℕ) (o : Option DocumentFault) → option_map (at index) o ≡ None → o ≡ None
unplaced index None e = refl
unplaced index (Some fault) e = absurd (some_is_not_none (at index fault) e)

both_false : (a b : Bool) → a ≡ false → b ≡ false → (a || b) ≡ false
both_false a b low high = ap (λ x. x || b) low ∙ high

abbrev IsWhole : Data → Type 0
IsWhole d = (f : Form) → asks f ≡ true → HasForm f d → has_float (kept f d) ≡ false

one_whole : (name : List ℕ) (d : Data) (rest : Members) (f : Form) (test : Bool) → is_kept f ≡ test → IsWhole d → HasForm f d → members_have_float rest ≡ false
    → members_have_float (put_kept name (if test then Some f else None) (λ f. kept f d) rest) ≡ false
one_whole name d rest f true is whole has later = both_false (has_float (kept f d)) (members_have_float rest) (whole f (kept_asks f is) has) later
one_whole name d rest f false is whole has later = later

member_whole : (name : List ℕ) (d : Data) (rest : Members) (r : Result Form Cause) → IsWhole d → judged name r (λ f. fault_in f d) ≡ None → members_have_float rest ≡ false
    → members_have_float (put_kept name (kept_form r) (λ f. kept f d) rest) ≡ false
member_whole name d rest (Ok f) whole none later = one_whole name d rest f (is_kept f) refl whole (under_none name (fault_in f d) none) later
member_whole name d rest (Err cause) whole none later = later

mutual
  pub whole : (f : Form) (d : Data) → asks f ≡ true → HasForm f d → has_float (kept f d) ≡ false
  whole f null is has = refl
  whole f (boolean b) is has = refl
  whole f (number n) is has = no_float_taken (short_form f) n (short_asks f is) (taken_of (wrong_leaf (short_form f) (number n)) (takes_leaf (short_form f) (number n)) has)
  whole f (string s) is has = refl
  whole f (array ds) is has =
      let found = items_of f (item_form (short_form f)) ds has in
      subst (λ o. items_have_float (kept_items (unwrap_or o form.Anything) ds) ≡ false) (sym found.1)
      (items_whole found.0 0 ds (item_asks (short_form f) found.0 (short_asks f is) found.1) found.2)
  whole f (object ms) is has = members_whole (layout_of f (object ms)) ms (members_none f ms has)

  items_whole : (f : Form) (index : ℕ) (ds : Items) → asks f ≡ true → fault_in_items f index ds ≡ None → items_have_float (kept_items f ds) ≡ false
  items_whole f index no_items is none = refl
  items_whole f index (item d ds) is none =
      both_false (has_float (kept f d)) (items_have_float (kept_items f ds)) (whole f d is (unplaced index (fault_in f d) (first_none _ _ none)))
      (items_whole f (index + 1) ds is (later_none _ _ none))

  members_whole : (l : Layout) (ms : Members) → fault_in_members l ms ≡ None → members_have_float (kept_members l ms) ≡ false
  members_whole l no_members none = refl
  members_whole l (member name d ms) none =
      member_whole name d (kept_members l ms) (member_form l name) (λ f is has. whole f d is has) (first_none _ _ none) (members_whole l ms (later_none _ _ none))

-- ---- tools

keyed_same : (k : Kind) (ms : Members) → fault_in_members (layout.KeyedFields k) ms ≡ fault_in_members (layout.Fields k) ms
keyed_same k no_members = refl
keyed_same k (member name d ms) = ap (or_else (judged name (field_form k name) (λ f. fault_in f d))) (keyed_same k ms)

fields_faultless : (l : Layout) (k : Kind) (ms : Members) → kind_of l ≡ Some k → fault_in_members l ms ≡ None → fault_in_members (layout.Fields k) ms ≡ None
fields_faultless (layout.Fields j) k ms is none = subst (λ k. fault_in_members (layout.Fields k) ms ≡ None) (same_Some j k is) none
fields_faultless (layout.KeyedFields j) k ms is none = subst (λ k. fault_in_members (layout.Fields k) ms ≡ None) (same_Some j k is) (sym (keyed_same j ms) ∙ none)
fields_faultless _ k ms is none = absurd (none-some k is)

kind_asks : (f : Form) (d : Data) (k : Kind) → kind_of (layout_of f d) ≡ Some k → asks f ≡ true
kind_asks form.Anything d k is = absurd (none-some k is)
kind_asks _ d k is = refl

no_list : (f : Form) (ds : Items) → HasForm f (array ds) → kind_of (layout_of f (array ds)) ≡ Some kind.Tool → ⊥
no_list (form.Object k) ds has is = some_is_not_none (here (wrong (form.Object k))) has
no_list (form.Keyed k) ds has is =
    some_is_not_none (here (wrong (form.Keyed kind.Tool))) (subst (λ k. fault_in (form.Keyed k) (array ds) ≡ None) (same_Some k kind.Tool is) has)
no_list form.Packed ds has is = some_is_not_none (here (wrong form.Packed)) has
no_list form.Argument ds has is = cc
no_list form.SecondaryFile ds has is = cc
no_list form.SecondaryFiles ds has is = cc
no_list form.StepOutput ds has is = cc
no_list _ ds has is = none-some kind.Tool is

pub tool_whole : (d : Data) → IsOf kind.Tool d → has_float (kept (form.Object kind.Tool) d) ≡ false
tool_whole null is = refl
tool_whole (boolean b) is = refl
tool_whole (number n) is =
    no_float_taken (short_form is.0) n (short_asks is.0 (kind_asks is.0 (number n) kind.Tool is.2)) (taken_of (wrong_leaf (short_form is.0) (number n)) (takes_leaf (short_form is.0) (number n)) is.1)
tool_whole (string s) is = refl
tool_whole (array ds) is = absurd (no_list is.0 ds is.1 is.2)
tool_whole (object ms) is = members_whole (layout.Fields kind.Tool) ms (fields_faultless (layout_of is.0 (object ms)) kind.Tool ms is.2 (members_none is.0 ms is.1))
