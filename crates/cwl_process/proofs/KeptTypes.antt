-- A type reads alike where only what is kept of it is there.
use Rattle.std.proofs.Common.{◌≡◌, ℕ, ◌+◌, List, [], ◌∷◌, ◌++◌, Bool, true, false, Option, Some, None, Ok, refl, sym, ap, ◌∙◌, bytes_eq, codes}
use Rattle.std.specs.Prelude.{option_map, option_and_then, unwrap_or, if◌then◌else◌}
use Rattle.std.specs.Option.{option_map_or}
use Rattle.std.proofs.lemmas.Slice.Eq.{bytes_eq-Decides}
use Rattle.serde_json.specs.Data.{Data, null, boolean, number, string, array, object, Items, no_items, item, Members, no_members, member}
use Rattle.serde_json.specs.Find.{as_bool, as_str, get_member}
use Rattle.cwl_types.specs.Types.{array_of, binding_in, is_array, items_in, object_type, symbols_in, texts_in, type_in, types_in}
use Rattle.cwl_types.specs.declared.types.MemberType.{MemberType}
use Rattle.cwl_types.specs.declared.types.MemberType.TheVariants.{Enum}
use Rattle.document_table.specs.Entries.{HasForm}
use Rattle.document_table.specs.Faults.{here}
use Rattle.document_table.specs.Kept.{kept, kept_form, kept_items, kept_members, put_kept}
use Rattle.document_table.specs.Layouts.{member_form, type_kind}
use Rattle.document_table.specs.Texts.{plain_id}
use Rattle.document_table.specs.Walk.{fault_in, fault_in_items, fault_in_members, judged, own_fault}
use Rattle.document_table.specs.declared.fault.Cause.TheVariants as cause
use Rattle.document_table.specs.declared.form.Form.{Form}
use Rattle.document_table.specs.declared.form.Form.TheVariants as form
use Rattle.document_table.specs.declared.form.Kind.TheVariants as kind
use Rattle.document_table.specs.declared.layout.Layout.{Layout}
use Rattle.document_table.specs.declared.layout.Layout.TheVariants as layout
use Rattle.document_table.proofs.Faultless.{first_none, later_none, members_none, own_none, some_is_not_none, under_none}
use Rattle.cwl_process.proofs.KeptFields.{bool_kept, map_kept, member_kept, or_kept, str_kept, then_kept, unplaced}

-- ---- item bindings and symbols

field_text : (l : Layout) (name : List ℕ) (f : Form) (ms : Members) → kept_form (member_form l name) ≡ Some f
    → option_and_then as_str (get_member name (kept_members l ms)) ≡ option_and_then as_str (get_member name ms)
field_text l name f ms is = ap (option_and_then as_str) (member_kept l name f ms is) ∙ then_kept as_str str_kept f (get_member name ms)

pub item_binding_kept : (d : Data) → binding_in (kept (form.Object kind.ItemBinding) d) ≡ binding_in d
item_binding_kept null = refl
item_binding_kept (boolean b) = refl
item_binding_kept (number n) = refl
item_binding_kept (string s) = refl
item_binding_kept (array ds) = refl
item_binding_kept (object ms) =
    let l = layout.Fields kind.ItemBinding in
    let prefix = field_text l (codes "prefix") form.Text ms refl in
    let separate = ap (option_and_then as_bool) (member_kept l (codes "separate") form.Bool ms refl) ∙ then_kept as_bool bool_kept form.Bool (get_member (codes "separate") ms) in
    (λ i. record { prefix = prefix i; separate = unwrap_or (separate i) true })

texts_kept : (f : Form) (ds : Items) → texts_in (kept_items f ds) ≡ texts_in ds
texts_kept f no_items = refl
texts_kept f (item d ds) = λ i. plain_id (unwrap_or (str_kept f d i) []) ∷ texts_kept f ds i

symbols_kept : (f : Form) (d : Data) → symbols_in (kept f d) ≡ symbols_in d
symbols_kept f null = refl
symbols_kept f (boolean b) = refl
symbols_kept f (number n) = refl
symbols_kept f (string s) = refl
symbols_kept f (array ds) = texts_kept _ ds
symbols_kept f (object ms) = refl

-- ---- objects, by their class

abbrev array_text : Option (List ℕ) → Bool
array_text o = option_map_or (λ s. bytes_eq s (codes "array")) o false

abbrev layout_at : Bool → Bool → Layout
layout_at lists enum = option_map_or layout.Fields (if lists then Some kind.ArrayType else (if enum then Some kind.EnumType else None)) (layout.Refused cause.WrongForm)

abbrev layout_by : Option (List ℕ) → Layout
layout_by o = option_map_or layout.Fields (option_and_then type_kind o) (layout.Refused cause.WrongForm)

-- the member of an object of the layout, by whether it is an array's
abbrev member_by : Bool → Members → List MemberType → MemberType
member_by lists ms items =
    if lists then array_of items (option_map binding_in (get_member (codes "inputBinding") ms)) else Enum (option_map_or symbols_in (get_member (codes "symbols") ms) [])

abbrev ItemsStay : Members → Type 0
ItemsStay ms = fault_in_members (layout.Fields kind.ArrayType) ms ≡ None → items_in (kept_members (layout.Fields kind.ArrayType) ms) ≡ items_in ms

abbrev ObjectStays : Layout → Members → Type 0
ObjectStays l ms = object_type (object (kept_members l ms)) (items_in (kept_members l ms)) ≡ object_type (object ms) (items_in ms)

same_object : (ms : Members) (lists enum : Bool) → is_array (object ms) ≡ lists → ItemsStay ms → own_fault (layout_at lists enum) (object ms) ≡ None
    → fault_in_members (layout_at lists enum) ms ≡ None → ObjectStays (layout_at lists enum) ms
same_object ms true enum is items own none =
    let l = layout.Fields kind.ArrayType in
    let after = kept_members l ms in
    let as_before : is_array (object after) ≡ true = ap array_text (field_text l (codes "type") form.Text ms refl) ∙ is in
    let binding = ap (option_map binding_in) (member_kept l (codes "inputBinding") (form.Object kind.ItemBinding) ms refl)
    ∙ map_kept binding_in (form.Object kind.ItemBinding) (get_member (codes "inputBinding") ms) (λ d there. item_binding_kept d) in
    let stays = items none in
    ap (λ lists. member_by lists after (items_in after)) as_before ∙ (λ i. array_of (stays i) (binding i)) ∙ sym (ap (λ lists. member_by lists ms (items_in ms)) is)
same_object ms false true is items own none =
    let l = layout.Fields kind.EnumType in
    let after = kept_members l ms in
    let as_before : is_array (object after) ≡ false = ap array_text (field_text l (codes "type") form.Text ms refl) ∙ is in
    let symbols = ap (λ o. option_map_or symbols_in o []) (member_kept l (codes "symbols") form.Symbols ms refl)
    ∙ or_kept symbols_in [] form.Symbols (get_member (codes "symbols") ms) (λ d there. symbols_kept form.Symbols d) in
    ap (λ lists. member_by lists after (items_in after)) as_before ∙ ap Enum symbols ∙ sym (ap (λ lists. member_by lists ms (items_in ms)) is)
same_object ms false false is items own none = absurd (some_is_not_none (here cause.WrongForm) own)

by_text : (ms : Members) (o : Option (List ℕ)) → option_and_then as_str (get_member (codes "type") ms) ≡ o → ItemsStay ms → own_fault (layout_by o) (object ms) ≡ None
    → fault_in_members (layout_by o) ms ≡ None → ObjectStays (layout_by o) ms
by_text ms None is items own none = absurd (some_is_not_none (here cause.WrongForm) own)
by_text ms (Some s) is items own none = same_object ms (bytes_eq s (codes "array")) (bytes_eq s (codes "enum")) (ap array_text is) items own none

-- ---- the field `items`

skipped : (name : List ℕ) (d : Data) (after : Members) (k : Option Form) → bytes_eq name (codes "items") ≡ false
    → items_in (put_kept name k (λ f. kept f d) after) ≡ items_in after
skipped name d after None is = refl
skipped name d after (Some f) is = ap (λ test. if test then type_in (kept f d) else items_in after) is

one_item : (name : List ℕ) (d : Data) (after ms : Members) (test : Bool) → bytes_eq name (codes "items") ≡ test
    → (HasForm form.Type d → type_in (kept form.Type d) ≡ type_in d) → judged name (member_form (layout.Fields kind.ArrayType) name) (λ f. fault_in f d) ≡ None
    → items_in after ≡ items_in ms
    → items_in (put_kept name (kept_form (member_form (layout.Fields kind.ArrayType) name)) (λ f. kept f d) after) ≡ (if test then type_in d else items_in ms)
one_item name d after ms true is own none later =
    let same : name ≡ codes "items" = (bytes_eq-Decides name (codes "items")).0 is in
    let formed : member_form (layout.Fields kind.ArrayType) name ≡ Ok form.Type = ap (member_form (layout.Fields kind.ArrayType)) same in
    ap (λ r. items_in (put_kept name (kept_form r) (λ f. kept f d) after)) formed ∙ ap (λ test. if test then type_in (kept form.Type d) else items_in after) is
    ∙ own (under_none name (fault_in form.Type d) (sym (ap (λ r. judged name r (λ f. fault_in f d)) formed) ∙ none))
one_item name d after ms false is own none later = skipped name d after (kept_form (member_form (layout.Fields kind.ArrayType) name)) is ∙ later

-- ---- types

mutual
  pub type_kept : (d : Data) → HasForm form.Type d → type_in (kept form.Type d) ≡ type_in d
  type_kept null has = refl
  type_kept (boolean b) has = refl
  type_kept (number n) has = refl
  type_kept (string s) has = refl
  type_kept (array ds) has = types_kept 0 ds (first_none _ _ has)
  type_kept (object ms) has = ap (λ t. t ∷ []) (by_text ms (option_and_then as_str (get_member (codes "type") ms)) refl (items_kept ms) (own_none form.Type ms has) (members_none form.Type ms has))

  pub types_kept : (index : ℕ) (ds : Items) → fault_in_items form.Type index ds ≡ None → types_in (kept_items form.Type ds) ≡ types_in ds
  types_kept index no_items none = refl
  types_kept index (item d ds) none =
      let first = type_kept d (unplaced index (fault_in form.Type d) (first_none _ _ none)) in
      let later = types_kept (index + 1) ds (later_none _ _ none) in
      (λ i. first i ++ later i)

  items_kept : (ms : Members) → ItemsStay ms
  items_kept no_members none = refl
  items_kept (member name d ms) none =
      one_item name d (kept_members (layout.Fields kind.ArrayType) ms) ms (bytes_eq name (codes "items")) refl (type_kept d) (first_none _ _ none) (items_kept ms (later_none _ _ none))

pub input_type_kept : (d : Data) → HasForm form.InputType d → type_in (kept form.InputType d) ≡ type_in d
input_type_kept null has = refl
input_type_kept (boolean b) has = refl
input_type_kept (number n) has = refl
input_type_kept (string s) has = refl
input_type_kept (array ds) has = types_kept 0 ds (first_none _ _ has)
input_type_kept (object ms) has =
    ap (λ t. t ∷ []) (by_text ms (option_and_then as_str (get_member (codes "type") ms)) refl (items_kept ms) (own_none form.InputType ms has) (members_none form.InputType ms has))

pub output_type_kept : (d : Data) → HasForm form.OutputType d → type_in (kept form.OutputType d) ≡ type_in d
output_type_kept null has = refl
output_type_kept (boolean b) has = refl
output_type_kept (number n) has = refl
output_type_kept (string s) has = refl
output_type_kept (array ds) has = types_kept 0 ds (first_none _ _ has)
output_type_kept (object ms) has =
    ap (λ t. t ∷ []) (by_text ms (option_and_then as_str (get_member (codes "type") ms)) refl (items_kept ms) (own_none form.OutputType ms has) (members_none form.OutputType ms has))
