-- Fields, lists and maps of an object read alike where only what is kept of it is there.
use Rattle.std.proofs.Common.{◌≡◌, ℕ, ◌+◌, List, ◌∷◌, map, Bool, true, false, Option, Some, None, Ok, Err, refl, sym, ap, ◌∙◌}
use Rattle.std.specs.Prelude.{option_map, option_and_then, if◌then◌else◌}
use Rattle.std.specs.Option.{option_map_or}
use Rattle.std.specs.Cmp.Lexicographic.{slice_cmp}
use Rattle.std.specs.Ordering.{match_ordering, nat_cmp}
use Rattle.std.specs.declared.cmp.Ordering.{Ordering}
use Rattle.std.specs.declared.cmp.Ordering.TheVariants.{Less, Equal, Greater}
use Rattle.std.proofs.lemmas.Map.Lookups.{exact_bytes}
use Rattle.std.proofs.lemmas.Option.{none-some, same_Some}
use Rattle.serde_json.specs.Data.{Data, null, boolean, number, string, array, object, Items, no_items, item, Members, no_members, member}
use Rattle.serde_json.specs.Find.{as_bool, as_number, as_str, get_member}
use Rattle.document_table.specs.Entries.{HasForm, entries, listed_entries, mapped_entries}
use Rattle.document_table.specs.Faults.{at, here, under}
use Rattle.document_table.specs.Kept.{kept, kept_form, kept_items, kept_members, put_kept}
use Rattle.document_table.specs.Layouts.{key_fits, member_form, subject_of}
use Rattle.document_table.specs.Repeats.{name_in, subject_name}
use Rattle.document_table.specs.Walk.{fault_in, fault_in_items, fault_in_members, judged}
use Rattle.document_table.specs.declared.fault.Cause.TheVariants as cause
use Rattle.document_table.specs.declared.fault.DocumentFault.{DocumentFault}
use Rattle.document_table.specs.declared.form.Form.{Form}
use Rattle.document_table.specs.declared.form.Form.TheVariants as form
use Rattle.document_table.specs.declared.form.Kind.{Kind}
use Rattle.document_table.specs.declared.layout.Layout.{Layout}
use Rattle.document_table.specs.declared.layout.Layout.TheVariants as layout
use Rattle.document_table.proofs.Faultless.{first_none, later_none, members_none, some_is_not_none, under_none}

-- ---- members

-- the members of that name are kept, with that form
abbrev pub IsKeptAs : Layout → List ℕ → Form → Type 0
IsKeptAs l name f = kept_form (member_form l name) ≡ Some f

got_put : (name l : List ℕ) (f : Form) (d : Data) (rest : Members) (found : Option Data) (o : Ordering) → slice_cmp nat_cmp name l ≡ o
    → (k : Option Form) → (o ≡ Equal → k ≡ Some f) → get_member name rest ≡ option_map (kept f) found
    → get_member name (put_kept l k (λ g. kept g d) rest) ≡ option_map (kept f) (match_ordering o found (Some d) found)
got_put name l f d rest found Less is None here later = later
got_put name l f d rest found Less is (Some g) here later = ap (λ o. match_ordering o (get_member name rest) (Some (kept g d)) (get_member name rest)) is ∙ later
got_put name l f d rest found Greater is None here later = later
got_put name l f d rest found Greater is (Some g) here later = ap (λ o. match_ordering o (get_member name rest) (Some (kept g d)) (get_member name rest)) is ∙ later
got_put name l f d rest found Equal is None here later = absurd (none-some f (here refl))
got_put name l f d rest found Equal is (Some g) here later =
    ap (λ o. match_ordering o (get_member name rest) (Some (kept g d)) (get_member name rest)) is ∙ ap (λ g. Some (kept g d)) (same_Some g f (here refl))

pub member_kept : (l : Layout) (name : List ℕ) (f : Form) (ms : Members) → IsKeptAs l name f → get_member name (kept_members l ms) ≡ option_map (kept f) (get_member name ms)
member_kept l name f no_members is = refl
member_kept l name f (member other d ms) is =
    got_put name other f d (kept_members l ms) (get_member name ms) (slice_cmp nat_cmp name other) refl (kept_form (member_form l other))
    (λ same. ap (λ n. kept_form (member_form l n)) (sym (exact_bytes name other same)) ∙ is) (member_kept l name f ms is)

-- ---- leaves

pub str_kept : (f : Form) (d : Data) → as_str (kept f d) ≡ as_str d
str_kept f null = refl
str_kept f (boolean b) = refl
str_kept f (number n) = refl
str_kept f (string s) = refl
str_kept f (array ds) = refl
str_kept f (object ms) = refl

pub bool_kept : (f : Form) (d : Data) → as_bool (kept f d) ≡ as_bool d
bool_kept f null = refl
bool_kept f (boolean b) = refl
bool_kept f (number n) = refl
bool_kept f (string s) = refl
bool_kept f (array ds) = refl
bool_kept f (object ms) = refl

pub number_kept : (f : Form) (d : Data) → as_number (kept f d) ≡ as_number d
number_kept f null = refl
number_kept f (boolean b) = refl
number_kept f (number n) = refl
number_kept f (string s) = refl
number_kept f (array ds) = refl
number_kept f (object ms) = refl

-- what is read of a value that is there
pub then_kept : {T : Type 0} (read : Data → Option T) → ((f : Form) (d : Data) → read (kept f d) ≡ read d) → (f : Form) (o : Option Data)
    → option_and_then read (option_map (kept f) o) ≡ option_and_then read o
then_kept read same f None = refl
then_kept read same f (Some d) = same f d

pub or_kept : {T : Type 0} (read : Data → T) (absent : T) (f : Form) (o : Option Data) → ((d : Data) → o ≡ Some d → read (kept f d) ≡ read d)
    → option_map_or read (option_map (kept f) o) absent ≡ option_map_or read o absent
or_kept read absent f None same = refl
or_kept read absent f (Some d) same = same d refl

pub map_kept : {T : Type 0} (read : Data → T) (f : Form) (o : Option Data) → ((d : Data) → o ≡ Some d → read (kept f d) ≡ read d)
    → option_map read (option_map (kept f) o) ≡ option_map read o
map_kept read f None same = refl
map_kept read f (Some d) same = ap Some (same d refl)

-- ---- values are kept whole

mutual
  pub value_kept : (d : Data) → kept form.Value d ≡ d
  value_kept null = refl
  value_kept (boolean b) = refl
  value_kept (number n) = refl
  value_kept (string s) = refl
  value_kept (array ds) = ap array (values_kept ds)
  value_kept (object ms) = ap object (fields_kept ms)

  values_kept : (ds : Items) → kept_items form.Value ds ≡ ds
  values_kept no_items = refl
  values_kept (item d ds) = λ i. item (value_kept d i) (values_kept ds i)

  fields_kept : (ms : Members) → kept_members layout.Values ms ≡ ms
  fields_kept no_members = refl
  fields_kept (member name d ms) = λ i. member name (value_kept d i) (fields_kept ms i)

-- ---- lists and maps of objects

-- each entry as f reads it
abbrev pub read_each : {T : Type 0} → (Data → T) → List (List ℕ × Data) → List (List ℕ × T)
read_each f es = map (λ e. (e.0, f e.1)) es

pub unplaced : (index : ℕ) (o : Option DocumentFault) → option_map (at index) o ≡ None → o ≡ None
unplaced index None e = refl
unplaced index (Some fault) e = absurd (some_is_not_none (at index fault) e)

named_kept : (k : Kind) (f : Form) (d : Data) → IsKeptAs (layout.Fields k) (subject_of k) f → name_in k (kept (form.Object k) d) ≡ name_in k d
named_kept k f null is = refl
named_kept k f (boolean b) is = refl
named_kept k f (number n) is = refl
named_kept k f (string s) is = refl
named_kept k f (array ds) is = refl
named_kept k f (object ms) is =
    ap (option_map (subject_name k)) (ap (option_and_then as_str) (member_kept (layout.Fields k) (subject_of k) f ms is) ∙ then_kept as_str str_kept f (get_member (subject_of k) ms))

module _ {T : Type 0} (read : Data → T) (k : Kind) (f : Form) (subject : IsKeptAs (layout.Fields k) (subject_of k) f) where
  one_listed : (d : Data) (o : Option (List ℕ)) (others those : List (List ℕ × Data)) → read (kept (form.Object k) d) ≡ read d
      → read_each read others ≡ read_each read those
      → read_each read (option_map_or (λ name. (name, kept (form.Object k) d) ∷ others) o others) ≡ read_each read (option_map_or (λ name. (name, d) ∷ those) o those)
  one_listed d None others those own later = later
  one_listed d (Some name) others those own later = λ i. (name, own i) ∷ later i

  pub listed_kept : (index : ℕ) (ds : Items) → ((d : Data) → HasForm (form.Object k) d → read (kept (form.Object k) d) ≡ read d) → fault_in_items (form.Object k) index ds ≡ None
      → read_each read (listed_entries k (kept_items (form.Object k) ds)) ≡ read_each read (listed_entries k ds)
  listed_kept index no_items own none = refl
  listed_kept index (item d ds) own none =
      let others = listed_entries k (kept_items (form.Object k) ds) in
      ap (λ o. read_each read (option_map_or (λ name. (name, kept (form.Object k) d) ∷ others) o others)) (named_kept k f d subject)
      ∙ one_listed d (name_in k d) others (listed_entries k ds) (own d (unplaced index (fault_in (form.Object k) d) (first_none _ _ none)))
      (listed_kept (index + 1) ds own (later_none _ _ none))

  one_mapped : (name : List ℕ) (d : Data) (ms : Members) (fits : Bool) → (HasForm (form.Keyed k) d → read (kept (form.Keyed k) d) ≡ read d)
      → judged name (if fits then Ok (form.Keyed k) else Err cause.WrongForm) (λ g. fault_in g d) ≡ None
      → read_each read (mapped_entries k (kept_members (layout.ByKey k) ms)) ≡ read_each read (mapped_entries k ms)
      → read_each read (mapped_entries k (put_kept name (kept_form (if fits then Ok (form.Keyed k) else Err cause.WrongForm)) (λ g. kept g d) (kept_members (layout.ByKey k) ms)))
      ≡ read_each read ((subject_name k name, d) ∷ mapped_entries k ms)
  one_mapped name d ms true own none later = λ i. (subject_name k name, own (under_none name (fault_in (form.Keyed k) d) none) i) ∷ later i
  one_mapped name d ms false own none later = absurd (some_is_not_none (under name (here cause.WrongForm)) none)

  pub mapped_kept : (ms : Members) → ((d : Data) → HasForm (form.Keyed k) d → read (kept (form.Keyed k) d) ≡ read d) → fault_in_members (layout.ByKey k) ms ≡ None
      → read_each read (mapped_entries k (kept_members (layout.ByKey k) ms)) ≡ read_each read (mapped_entries k ms)
  mapped_kept no_members own none = refl
  mapped_kept (member name d ms) own none =
      one_mapped name d ms (key_fits k name) (own d) (first_none _ _ none) (mapped_kept ms own (later_none _ _ none))

  -- what is read of a list or a map of objects
  pub entries_kept : (d : Data) → ((d : Data) → HasForm (form.Object k) d → read (kept (form.Object k) d) ≡ read d)
      → ((d : Data) → HasForm (form.Keyed k) d → read (kept (form.Keyed k) d) ≡ read d) → HasForm (form.Objects k) d
      → read_each read (entries k (kept (form.Objects k) d)) ≡ read_each read (entries k d)
  entries_kept null whole keyed has = refl
  entries_kept (boolean b) whole keyed has = refl
  entries_kept (number n) whole keyed has = refl
  entries_kept (string s) whole keyed has = refl
  entries_kept (array ds) whole keyed has = listed_kept 0 ds whole (first_none _ _ has)
  entries_kept (object ms) whole keyed has = mapped_kept ms keyed (members_none (form.Objects k) ms has)
