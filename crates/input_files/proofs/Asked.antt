-- Contents are those of the inputs that ask for them.
use Rattle.std.proofs.Common.{◌≡◌, ◌⊎◌, inl, inr, Bool, true, false, true≢false, ◌||◌, List, [], ◌∷◌, ◌++◌, map, Option, Some, None, is_some, Ok, IfOk, refl, sym, ap, subst, ◌∙◌}
use Rattle.std.specs.Prelude.{fold, bytes_eq, unwrap_or, if◌then◌else◌}
use Rattle.std.proofs.lemmas.Bool.{ltb-false, or_parts}
use Rattle.std.specs.List.{All, Contains, flat_map, list_any}
use Rattle.std.specs.Map.{values_of}
use Rattle.std.specs.Option.{IfSome}
use Rattle.std.proofs.lemmas.List.Elements.{All-nil, All-cons, Contains-append_left, Contains-append_right, Contains-push}
use Rattle.std.proofs.lemmas.Map.Views.{All-values-insert_entry, IfSome-lookup_from_All}
use Rattle.plain_data.specs.ByName.{name_cmp, value_at, with_value}
use Rattle.cwl_value.specs.declared.value.Value.{Value}
use Rattle.cwl_value.specs.declared.value.FileVal.{FileVal, out-FileVal}
use Rattle.staging.proofs.Numbered.{contains_cons}
use Rattle.staging.proofs.Together.{nothing_in}
use Rattle.input_files.specs.Contents.{Asked, Heads, asked_by, loads, is_too_long, is_text, head_at, file_fault, files_fault, field_fault, field_loaded, field_wants, file_wants, contents_fault, value_loaded, unless_fault}
use Rattle.input_files.specs.Given.{Name, Fields, NamedInput, files_in}
use Rattle.input_files.specs.Inputs.{or_else}
use Rattle.input_files.specs.Laws.{asks, IsShortText, IsRead, AreRead, ContentsAreThoseAsked, NothingIsReadUnasked}
use Rattle.input_files.specs.Paths.{each_once}
use Rattle.cwl_value.specs.declared.value.TheConstants.{MOST_CONTENTS}
use Rattle.input_files.specs.declared.fault.ContentsFault.{ContentsFault}
use Rattle.input_files.specs.declared.fault.ContentsFault.TheVariants as fault
use Rattle.input_files.proofs.Once.{names_kept}

-- faults

no_fault : {X : Type 0} (x : X) → Some x ≡ None → ⊥
no_fault x h = true≢false (ap is_some h)

left_none : {X : Type 0} (a b : Option X) → or_else a b ≡ None → a ≡ None
left_none None b h = refl
left_none (Some x) b h = absurd (no_fault x h)

right_none : {X : Type 0} (a b : Option X) → or_else a b ≡ None → b ≡ None
right_none None b h = h
right_none (Some x) b h = absurd (no_fault x h)

module _ (heads : Heads) where
  is_fine : (name : Name) (f : FileVal) → file_fault heads name f ≡ None → IsShortText heads f
  is_fine name f none = by (is_too_long f) (is_text (head_at heads (out-FileVal f).place)) refl refl none where
    by : (long text : Bool) → is_too_long f ≡ long → is_text (head_at heads (out-FileVal f).place) ≡ text
        → (if long then Some (fault.TooLong name) else if text then None else Some (fault.NotUtf8 name)) ≡ None → IsShortText heads f
    by true text long is h = absurd (no_fault (fault.TooLong name) h)
    by false true short is h = record { short = ltb-false MOST_CONTENTS (unwrap_or (out-FileVal f).size 0) short; text = is }
    by false false short is h = absurd (no_fault (fault.NotUtf8 name) h)

  are_fine : (name : Name) (fs : List FileVal) → files_fault heads name fs ≡ None → All (IsShortText heads) fs
  are_fine name [] none = All-nil (IsShortText heads)
  are_fine name (f ∷ fs) none =
      All-cons (IsShortText heads) f fs (is_fine name f (left_none (file_fault heads name f) (files_fault heads name fs) none))
      (are_fine name fs (right_none (file_fault heads name f) (files_fault heads name fs) none))

  module _ (asked : Asked) where
    field_fine : (fields : Fields) (name : Name) (v : Value) → contents_fault asked heads fields ≡ None → Contains fields (name, v) → field_fault asked heads (name, v) ≡ None
    field_fine [] name v none one = absurd (nothing_in (name, v) one)
    field_fine (field ∷ more) name v none one = by (contains_cons field more (name, v) one) (field_fine more name v (right_none (field_fault asked heads field) (contents_fault asked heads more) none)) where
      by : (field ≡ (name, v)) ⊎ Contains more (name, v) → (Contains more (name, v) → field_fault asked heads (name, v) ≡ None) → field_fault asked heads (name, v) ≡ None
      by (inl same) on = ap (field_fault asked heads) (sym same) ∙ left_none (field_fault asked heads field) (contents_fault asked heads more) none
      by (inr later) on = on later

    loaded_in : (fields : Fields) (field : Name × Value) → Contains fields field → Contains (map (field_loaded asked heads) fields) (field_loaded asked heads field)
    loaded_in [] field one = absurd (nothing_in field one)
    loaded_in (first ∷ more) field one = by (contains_cons first more field one) (loaded_in more field) where
      rest : Fields
      rest = map (field_loaded asked heads) more

      by : (first ≡ field) ⊎ Contains more field → (Contains more field → Contains rest (field_loaded asked heads field)) → Contains (field_loaded asked heads first ∷ rest) (field_loaded asked heads field)
      by (inl same) on =
          subst (λ (e : Name × Value). Contains (field_loaded asked heads first ∷ rest) (field_loaded asked heads e)) same
          (Contains-append_left (field_loaded asked heads first ∷ []) rest (field_loaded asked heads first) (Contains-push [] (field_loaded asked heads first)))
      by (inr later) on = Contains-append_right (field_loaded asked heads first ∷ []) rest (field_loaded asked heads field) (on later)

    one_read : (name : Name) (v : Value) → field_fault asked heads (name, v) ≡ None → IsRead heads (loads asked name) v (value_loaded (loads asked name) heads v)
    one_read name v none = record {
      not_asked = λ is. ap (λ (b : Bool). value_loaded b heads v) is;
      loaded = λ is. ap (λ (b : Bool). value_loaded b heads v) is;
      files = λ is. are_fine name (files_in v) (sym (ap (λ (b : Bool). if b then files_fault heads name (files_in v) else None) is) ∙ none);
    }

  all_read : (inputs : List NamedInput) (staged : Fields) (found : Option ContentsFault) → contents_fault (asked_by inputs) heads staged ≡ found
      → IfOk (unless_fault found (map (field_loaded (asked_by inputs) heads) staged)) (AreRead inputs heads staged)
  all_read inputs staged None none = record {
    same_names = names_kept (asked_by inputs) heads staged;
    each = λ name v one. (
      value_loaded (asks inputs name) heads v,
      loaded_in (asked_by inputs) staged (name, v) one,
      one_read (asked_by inputs) name v (field_fine (asked_by inputs) staged name v none one),
    );
  }
  all_read inputs staged (Some found) is = tt

pub those_asked : ContentsAreThoseAsked
those_asked inputs staged read heads is = subst (λ r. IfOk r (AreRead inputs heads staged)) is (all_read heads inputs staged (contents_fault (asked_by inputs) heads staged) refl)

-- where none asks

abbrev No : Bool → Type 0
No b = b ≡ false

none_put : (entries sorted : Asked) → All No (values_of sorted) → list_any (λ (e : Name × Bool). e.1) entries ≡ false → All No (values_of (fold (λ (s : Asked) (e : Name × Bool). with_value e.0 e.1 s) sorted entries))
none_put [] sorted before none = before
none_put (e ∷ es) sorted before none =
    none_put es (with_value e.0 e.1 sorted) (All-values-insert_entry name_cmp e.0 e.1 No sorted before (or_parts e.1 (list_any (λ (e : Name × Bool). e.1) es) none).0)
    (or_parts e.1 (list_any (λ (e : Name × Bool). e.1) es) none).1

same_loads : (inputs : List NamedInput) → list_any (λ (e : Name × Bool). e.1) (map (λ (i : NamedInput). (i.0, i.1.load_contents)) inputs) ≡ list_any (λ (i : NamedInput). i.1.load_contents) inputs
same_loads [] = refl
same_loads (i ∷ is) = ap (λ b. i.1.load_contents || b) (same_loads is)

or_no : (o : Option Bool) → IfSome o No → unwrap_or o false ≡ false
or_no None h = refl
or_no (Some b) h = h

module _ (inputs : List NamedInput) (none : list_any (λ (i : NamedInput). i.1.load_contents) inputs ≡ false) where
  none_asks : (name : Name) → asks inputs name ≡ false
  none_asks name =
      or_no (value_at name (asked_by inputs))
      (IfSome-lookup_from_All No (bytes_eq name) (asked_by inputs) (none_put (map (λ (i : NamedInput). (i.0, i.1.load_contents)) inputs) [] (All-nil No) (same_loads inputs ∙ none)))

  none_wanted : (staged : Fields) → flat_map (field_wants (asked_by inputs)) staged ≡ []
  none_wanted [] = refl
  none_wanted (field ∷ more) =
      ap (λ (b : Bool). (if b then flat_map file_wants (files_in field.1) else []) ++ flat_map (field_wants (asked_by inputs)) more) (none_asks field.0) ∙ none_wanted more

  none_faulty : (heads : Heads) (staged : Fields) → contents_fault (asked_by inputs) heads staged ≡ None
  none_faulty heads [] = refl
  none_faulty heads (field ∷ more) =
      ap (λ (b : Bool). or_else (if b then files_fault heads field.0 (files_in field.1) else None) (contents_fault (asked_by inputs) heads more)) (none_asks field.0) ∙ none_faulty heads more

  all_stay : (heads : Heads) (staged : Fields) → map (field_loaded (asked_by inputs) heads) staged ≡ staged
  all_stay heads [] = refl
  all_stay heads (field ∷ more) =
      ap (λ (b : Bool). (field.0, value_loaded b heads field.1) ∷ map (field_loaded (asked_by inputs) heads) more) (none_asks field.0) ∙ ap (λ l. field ∷ l) (all_stay heads more)

pub unasked : NothingIsReadUnasked
unasked inputs staged heads none = (
  ap each_once (none_wanted inputs none staged),
  ap (λ found. unless_fault found (map (field_loaded (asked_by inputs) heads) staged)) (none_faulty inputs none heads staged) ∙ ap Ok (all_stay inputs none heads staged),
)
