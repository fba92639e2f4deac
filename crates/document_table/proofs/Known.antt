-- What a document says of itself, and that an object has no other fields than the table's.
use Rattle.std.proofs.Common.{◌≡◌, ℕ, List, [], Bool, true, false, Option, Some, None, Ok, Err, refl, sym, ap, subst, ◌∙◌, bytes_eq, codes, inl, inr}
use Rattle.std.specs.Prelude.{Result, ◌||◌, is_none, is_some, unwrap_or, option_and_then, if◌then◌else◌}
use Rattle.std.specs.Option.{option_map_or}
use Rattle.std.specs.Ordering.{nat_cmp, match_ordering}
use Rattle.std.specs.declared.cmp.Ordering.{Ordering}
use Rattle.std.specs.declared.cmp.Ordering.TheVariants.{Less, Equal, Greater}
use Rattle.std.specs.Cmp.Lexicographic.{bytes_decides, slice_cmp}
use Rattle.std.proofs.lemmas.Bool.{true≢false}
use Rattle.std.proofs.lemmas.Map.Lookups.{exact_bytes}
use Rattle.std.proofs.lemmas.Option.{none-some, same_Some}
use Rattle.serde_json.specs.Data.{Data, null, boolean, number, string, array, object, Members, no_members, member}
use Rattle.serde_json.specs.Find.{as_str, get, get_member}
use Rattle.document_table.specs.Entries.{HasForm, IsOf, IsThere, MayHaveForm, class_in, kind_in, kind_of}
use Rattle.document_table.specs.Faults.{here, under}
use Rattle.document_table.specs.Laws.{IsClass, is_known_field}
use Rattle.document_table.specs.Layouts.{by_class, field_form, is_read_over, layout_of, member_form, process_kind, process_layout}
use Rattle.document_table.specs.Leaves.{wrong}
use Rattle.document_table.specs.Table.{form_of}
use Rattle.document_table.specs.Walk.{fault_in, fault_in_members, judged, own_fault}
use Rattle.document_table.specs.declared.fault.Cause.{Cause}
use Rattle.document_table.specs.declared.fault.Cause.TheVariants as cause
use Rattle.document_table.specs.declared.form.Form.{Form}
use Rattle.document_table.specs.declared.form.Form.TheVariants as form
use Rattle.document_table.specs.declared.form.Kind.{Kind}
use Rattle.document_table.specs.declared.form.Kind.TheVariants as kind
use Rattle.document_table.specs.declared.layout.Layout.{Layout}
use Rattle.document_table.specs.declared.layout.Layout.TheVariants as layout
use Rattle.document_table.proofs.Faultless.{document_of, field_has_form, first_none, later_none, members_none, own_none, required_there, some_is_not_none}
use Rattle.document_table.proofs.Whole.{taken_of}

-- ---- fields

-- the members of an object of that kind have their forms by its fields
pub fields_of : (l : Layout) (k : Kind) (name : List ℕ) → kind_of l ≡ Some k → member_form l name ≡ field_form k name
fields_of (layout.Fields j) k name is = ap (λ k. field_form k name) (same_Some j k is)
fields_of (layout.KeyedFields j) k name is = ap (λ k. field_form k name) (same_Some j k is)
fields_of _ k name is = absurd (none-some k is)

-- there may be a member of that name
abbrev IsFormed : Layout → List ℕ → Type 0
IsFormed l name = (f : Form) × (member_form l name ≡ Ok f)

formed_own : (name : List ℕ) (d : Data) (r : Result Form Cause) → judged name r (λ f. fault_in f d) ≡ None → (f : Form) × (r ≡ Ok f)
formed_own name d (Ok f) none = (f, refl)
formed_own name d (Err c) none = absurd (some_is_not_none (under name (here c)) none)

formed_here : (l : Layout) (name other : List ℕ) (d : Data) (found : Option Data) (o : Ordering) → slice_cmp nat_cmp name other ≡ o → judged other (member_form l other) (λ f. fault_in f d) ≡ None
    → (is_some found ≡ true → IsFormed l name) → is_some (match_ordering o found (Some d) found) ≡ true → IsFormed l name
formed_here l name other d found Less cmp own later there = later there
formed_here l name other d found Greater cmp own later there = later there
formed_here l name other d found Equal cmp own later there = subst (IsFormed l) (sym (exact_bytes name other cmp)) (formed_own other d (member_form l other) own)

formed_in : (l : Layout) (name : List ℕ) (ms : Members) → fault_in_members l ms ≡ None → is_some (get_member name ms) ≡ true → IsFormed l name
formed_in l name no_members none there = absurd (true≢false (sym there))
formed_in l name (member other d ms) none there =
    formed_here l name other d (get_member name ms) (slice_cmp nat_cmp name other) refl (first_none _ _ none) (formed_in l name ms (later_none _ _ none)) there

known_of : (found : Option Form) (test : Bool) (f : Form) → option_map_or Ok found (if test then Ok form.Anything else Err cause.UnknownField) ≡ Ok f → (is_some found || test) ≡ true
known_of (Some g) test f is = refl
known_of None true f is = refl
known_of None false f is = cc

pub each_field_is_known : (k : Kind) (name : List ℕ) (d : Data) → IsOf k d → IsThere name d → is_known_field k name ≡ true
each_field_is_known k name null is there = absurd (true≢false (sym there))
each_field_is_known k name (boolean b) is there = absurd (true≢false (sym there))
each_field_is_known k name (number n) is there = absurd (true≢false (sym there))
each_field_is_known k name (string s) is there = absurd (true≢false (sym there))
each_field_is_known k name (array ds) is there = absurd (true≢false (sym there))
each_field_is_known k name (object ms) is there =
    let l = layout_of is.0 (object ms) in
    let formed = formed_in l name ms (members_none is.0 ms is.1) there in
    known_of (form_of k name) (is_read_over name) formed.0 (sym (fields_of l k name is.2) ∙ formed.1)

-- ---- the version

version_text : (d : Data) → HasForm form.Version d → d ≡ string (codes "v1.2")
version_text null has = absurd (some_is_not_none (here (wrong form.Version)) has)
version_text (boolean b) has = absurd (some_is_not_none (here (wrong form.Version)) has)
version_text (number n) has = absurd (some_is_not_none (here (wrong form.Version)) has)
version_text (string s) has = ap string ((bytes_decides s (codes "v1.2")).0 (taken_of cause.WrongVersion (bytes_eq s (codes "v1.2")) has))
version_text (array ds) has = absurd (some_is_not_none (here (wrong form.Version)) has)
version_text (object ms) has = absurd (some_is_not_none (here cause.WrongVersion) (own_none form.Version ms has))

version_row : (test : Bool) → form_of (if test then kind.Workflow else kind.Tool) (codes "cwlVersion") ≡ Some form.Version
version_row true = refl
version_row false = refl

version_there : (found : Option Data) (ms : Members) → own_fault (if is_none found then layout.Unversioned else process_layout (object ms)) (object ms) ≡ None → MayHaveForm form.Version found
    → found ≡ Some (string (codes "v1.2"))
version_there None ms none has = absurd (some_is_not_none (under (codes "cwlVersion") (here cause.MissingField)) none)
version_there (Some d) ms none has = ap Some (version_text d has)

pub document_version : (d : Data) → HasForm form.Document d → get (codes "cwlVersion") d ≡ Some (string (codes "v1.2"))
document_version null has = absurd (some_is_not_none (here cause.WrongForm) has)
document_version (boolean b) has = absurd (some_is_not_none (here cause.WrongForm) has)
document_version (number n) has = absurd (some_is_not_none (here cause.WrongForm) has)
document_version (string s) has = absurd (some_is_not_none (here cause.WrongForm) has)
document_version (array ds) has = absurd (some_is_not_none (here cause.WrongForm) has)
document_version (object ms) has =
    let d = object ms in
    let row = version_row (bytes_eq (class_in d) (codes "Workflow")) in
    version_there (get (codes "cwlVersion") d) ms (own_none form.Document ms has) (field_has_form (kind_in d) (codes "cwlVersion") form.Version d (document_of d has) row)

-- ---- the class

class_text : (name : List ℕ) (tool workflow : Bool) → bytes_eq name (codes "CommandLineTool") ≡ tool → bytes_eq name (codes "Workflow") ≡ workflow → (ms : Members)
    → own_fault (option_map_or layout.Fields (if tool then Some kind.Tool else (if workflow then Some kind.Workflow else None)) (layout.Refused cause.WrongClass)) (object ms) ≡ None → IsClass name
class_text name true workflow is_tool is_workflow ms none = inl ((bytes_decides name (codes "CommandLineTool")).0 is_tool)
class_text name false true is_tool is_workflow ms none = inr ((bytes_decides name (codes "Workflow")).0 is_workflow)
class_text name false false is_tool is_workflow ms none = absurd (some_is_not_none (here cause.WrongClass) none)

class_field : (found : Option Data) (ms : Members) → own_fault (by_class process_kind (layout.Refused cause.WrongClass) (layout.Refused cause.WrongClass) found) (object ms) ≡ None
    → IsClass (unwrap_or (option_and_then as_str found) [])
class_field None ms none = absurd (some_is_not_none (under (codes "class") (here cause.MissingField)) none)
class_field (Some d) ms none = class_named (as_str d) none
  where
    class_named : (text : Option (List ℕ))
        → own_fault (option_map_or (λ name. option_map_or layout.Fields (process_kind name) (layout.Refused cause.WrongClass)) text (layout.Refused cause.WrongClass)) (object ms) ≡ None
        → IsClass (unwrap_or text [])
    class_named None none = absurd (some_is_not_none (here cause.WrongClass) none)
    class_named (Some name) none = class_text name (bytes_eq name (codes "CommandLineTool")) (bytes_eq name (codes "Workflow")) refl refl ms none

class_of : (found : Bool) (ms : Members) → own_fault (if found then layout.Unversioned else process_layout (object ms)) (object ms) ≡ None → IsClass (class_in (object ms))
class_of true ms none = absurd (some_is_not_none (under (codes "cwlVersion") (here cause.MissingField)) none)
class_of false ms none = class_field (get (codes "class") (object ms)) ms none

pub document_class : (d : Data) → HasForm form.Document d → IsClass (class_in d)
document_class null has = absurd (some_is_not_none (here cause.WrongForm) has)
document_class (boolean b) has = absurd (some_is_not_none (here cause.WrongForm) has)
document_class (number n) has = absurd (some_is_not_none (here cause.WrongForm) has)
document_class (string s) has = absurd (some_is_not_none (here cause.WrongForm) has)
document_class (array ds) has = absurd (some_is_not_none (here cause.WrongForm) has)
document_class (object ms) has = class_of (is_none (get (codes "cwlVersion") (object ms))) ms (own_none form.Document ms has)

pub process_class : (d : Data) → HasForm form.Process d → IsClass (class_in d)
process_class null has = absurd (some_is_not_none (here cause.WrongForm) has)
process_class (boolean b) has = absurd (some_is_not_none (here cause.WrongForm) has)
process_class (number n) has = absurd (some_is_not_none (here cause.WrongForm) has)
process_class (string s) has = absurd (some_is_not_none (here cause.WrongForm) has)
process_class (array ds) has = absurd (some_is_not_none (here cause.WrongForm) has)
process_class (object ms) has = class_field (get (codes "class") (object ms)) ms (own_none form.Process ms has)

-- ---- packed documents

packed_version_there : (found : Option Data) → is_some found ≡ true → MayHaveForm form.Version found → found ≡ Some (string (codes "v1.2"))
packed_version_there None there has = absurd (true≢false (sym there))
packed_version_there (Some d) there has = ap Some (version_text d has)

pub packed_version : (d : Data) → HasForm form.Packed d → get (codes "cwlVersion") d ≡ Some (string (codes "v1.2"))
packed_version null has = absurd (some_is_not_none (here cause.WrongForm) has)
packed_version (boolean b) has = absurd (some_is_not_none (here cause.WrongForm) has)
packed_version (number n) has = absurd (some_is_not_none (here cause.WrongForm) has)
packed_version (string s) has = absurd (some_is_not_none (here cause.WrongForm) has)
packed_version (array ds) has = absurd (some_is_not_none (here cause.WrongForm) has)
packed_version (object ms) has =
    packed_version_there (get (codes "cwlVersion") (object ms)) ((required_there form.Packed kind.Packed ms has refl).0 refl)
    (field_has_form kind.Packed (codes "cwlVersion") form.Version (object ms) (form.Packed, has, refl) refl)
