-- Settled values whose types are as the program's are such as a record keeps.
use Rattle.std.proofs.Common.{◌≡◌, ◌≢◌, Bool, true, false, true≢false, ◌||◌, List, [], map, Option, Some, None, option_map, bytes_eq, codes, refl, sym, ap, subst, ◌∙◌, rules}
use Rattle.std.specs.Prelude.{option_and_then, unwrap_or}
use Rattle.std.specs.Cmp.Lexicographic.{bytes_decides}
use Rattle.std.specs.List.{list_any, list_all}
use Rattle.std.specs.Option.{option_map_or}
use Rattle.plain_data.specs.ByName.{IsByName, value_at, map_values}
use Rattle.plain_data.proofs.Lookup.{value_at-map_values}
use Rattle.serde_json.specs.Find.{as_str}
use Rattle.cwl_value.proofs.Induction.{Cases, induction}
use Rattle.cwl_value.proofs.JsonOf.{json_of-FileVal, json_of-DirVal, file_data-roll, dir_data-roll}
use Rattle.cwl_value.specs.Json.{json_of, fields_json}
use Rattle.cwl_value.specs.Plain.{FitsWhole}
use Rattle.cwl_value.specs.Reading.{class_in}
use Rattle.cwl_value.specs.Secondary.{is_file, are_distinct}
use Rattle.cwl_value.specs.declared.place.Place.TheVariants.{Url}
use Rattle.cwl_value.specs.declared.value.Value.{Value, out-Value, the_lemmas}
use Rattle.cwl_value.specs.declared.value.Value as value
use Rattle.cwl_value.specs.declared.value.Value.TheOpen.{Value-F, FileVal-F, DirVal-F}
use Rattle.cwl_value.specs.declared.value.FileVal.{FileVal, out-FileVal, roll-FileVal, out-roll-FileVal, roll-out-FileVal}
use Rattle.cwl_value.specs.declared.value.DirVal.{DirVal, out-DirVal, roll-DirVal, out-roll-DirVal, roll-out-DirVal}
use Rattle.staging.proofs.Greedy.{both}
use Rattle.collected_outputs.specs.Listing.{Listing}
use Rattle.collected_outputs.specs.Matched.{Name}
use Rattle.collected_outputs.specs.Readable.{Seen, is_class, any_seen, is_classed, seen, has_class, file_class, dir_class}
use Rattle.job_rows.specs.Storable.{IsStorable, AreStorable, AreStorableFields}
use Rattle.job_reuse.specs.Form.{IsInForm, AreAllInForm, AreFieldsInForm}
use Rattle.job_reuse.proofs.InTurn.{as_written, distinct}
use Rattle.job_reuse.proofs.Members.{field_found}
use Rattle.job_reuse.proofs.Settled.{IsSettled, AreSettled, AreSettledFields}

-- ---- one level of a value in form

pub record FieldsForm (es : List (Name × Value)) : Type 0 where
  pub order : IsByName es
  pub each : AreFieldsInForm es

abbrev pub FormAt : Value-F Value DirVal FileVal → Type 0
FormAt Value-F.Null = Unit {0}
FormAt (Value-F.Bool b) = Unit {0}
FormAt (Value-F.Whole n) = FitsWhole n
FormAt (Value-F.Text s) = Unit {0}
FormAt (Value-F.FileVal f) = AreAllInForm (out-FileVal f).secondary
FormAt (Value-F.DirVal d) = AreAllInForm (unwrap_or (out-DirVal d).listing [])
FormAt (Value-F.List vs) = AreAllInForm vs
FormAt (Value-F.Fields es) = FieldsForm es

form_level : (v : Value) → IsInForm v → FormAt (out-Value v)
form_level _ IsInForm.null = subst FormAt (sym (let e : out-Value value.Null ≡ Value-F.Null = search (rules, the_lemmas) in e)) tt
form_level _ (IsInForm.boolean b) = subst FormAt (sym (let e : out-Value (value.Bool b) ≡ Value-F.Bool b = search (rules, the_lemmas) in e)) tt
form_level _ (IsInForm.whole n fits) = subst FormAt (sym (let e : out-Value (value.Whole n) ≡ Value-F.Whole n = search (rules, the_lemmas) in e)) fits
form_level _ (IsInForm.text s) = subst FormAt (sym (let e : out-Value (value.Text s) ≡ Value-F.Text s = search (rules, the_lemmas) in e)) tt
form_level _ (IsInForm.file f each) = subst FormAt (sym (let e : out-Value (value.FileVal f) ≡ Value-F.FileVal f = search (rules, the_lemmas) in e)) each
form_level _ (IsInForm.dir d each) = subst FormAt (sym (let e : out-Value (value.DirVal d) ≡ Value-F.DirVal d = search (rules, the_lemmas) in e)) each
form_level _ (IsInForm.list vs each) = subst FormAt (sym (let e : out-Value (value.List vs) ≡ Value-F.List vs = search (rules, the_lemmas) in e)) each
form_level _ (IsInForm.fields es order each) = subst FormAt (sym (let e : out-Value (value.Fields es) ≡ Value-F.Fields es = search (rules, the_lemmas) in e)) (record { order = order; each = each })

pub form_at : (v : Value) (x : Value-F Value DirVal FileVal) → out-Value v ≡ x → IsInForm v → FormAt x
form_at v x is form = subst FormAt is (form_level v form)

pub file_form : (f : FileVal-F Value DirVal FileVal) → IsInForm (value.FileVal (roll-FileVal f)) → AreAllInForm f.secondary
file_form f form = subst (λ (g : FileVal-F Value DirVal FileVal). AreAllInForm g.secondary) (out-roll-FileVal f) (form_at (value.FileVal (roll-FileVal f)) (Value-F.FileVal (roll-FileVal f)) (search (rules, the_lemmas)) form)

pub dir_form : (d : DirVal-F Value DirVal FileVal) → IsInForm (value.DirVal (roll-DirVal d)) → AreAllInForm (unwrap_or d.listing [])
dir_form d form = subst (λ (e : DirVal-F Value DirVal FileVal). AreAllInForm (unwrap_or e.listing [])) (out-roll-DirVal d) (form_at (value.DirVal (roll-DirVal d)) (Value-F.DirVal (roll-DirVal d)) (search (rules, the_lemmas)) form)

-- ---- classes

pub neither : (a b : Bool) → (a || b) ≡ false → (a ≡ false) × (b ≡ false)
neither true b h = absurd (true≢false h)
neither false b h = (refl, h)

other_text : (s class : Name) (b : Bool) → bytes_eq s class ≡ b → b ≡ false → s ≢ class
other_text s class b is none = λ same. true≢false (sym ((bytes_decides s class).1 same) ∙ is ∙ none)

abbrev told_class : Value → Name
told_class v = unwrap_or (as_str (json_of v)) []

class_cases : Cases (λ v. (seen v).0 ≡ false → (told_class v ≢ codes "File") × (told_class v ≢ codes "Directory")) (λ f. Unit {0}) (λ d. Unit {0})
class_cases = record {
  null = λ h. untold value.Null (search (rules, the_lemmas));
  boolean = λ b h. untold (value.Bool b) (search (rules, the_lemmas));
  whole = λ n h. untold (value.Whole n) (search (rules, the_lemmas));
  text = λ s h. of_text s h;
  file = λ f one h. untold (value.FileVal f) (of_file f);
  dir = λ d one h. untold (value.DirVal d) (of_dir d);
  list = λ vs each h. untold (value.List vs) (search (rules, the_lemmas));
  fields = λ es each h. untold (value.Fields es) (search (rules, the_lemmas));
  a_file = λ f each. tt;
  a_dir = λ d each. tt;
} where
  untold : (v : Value) → told_class v ≡ [] → (told_class v ≢ codes "File") × (told_class v ≢ codes "Directory")
  untold v is = (λ same. true≢false (ap (λ n. bytes_eq n []) (sym is ∙ same)), λ same. true≢false (ap (λ n. bytes_eq n []) (sym is ∙ same)))

  of_file : (f : FileVal) → told_class (value.FileVal f) ≡ []
  of_file f = ap (λ g. told_class (value.FileVal g)) (sym (roll-out-FileVal f)) ∙ ap (λ d. unwrap_or (as_str d) []) (json_of-FileVal (roll-FileVal (out-FileVal f)) ∙ file_data-roll (out-FileVal f))

  of_dir : (d : DirVal) → told_class (value.DirVal d) ≡ []
  of_dir d = ap (λ e. told_class (value.DirVal e)) (sym (roll-out-DirVal d)) ∙ ap (λ x. unwrap_or (as_str x) []) (json_of-DirVal (roll-DirVal (out-DirVal d)) ∙ dir_data-roll (out-DirVal d))

  of_text : (s : Name) → (seen (value.Text s)).0 ≡ false → (told_class (value.Text s) ≢ codes "File") × (told_class (value.Text s) ≢ codes "Directory")
  of_text s h =
      let is : (seen (value.Text s)).0 ≡ is_class s = search (rules, the_lemmas) in
      let told : told_class (value.Text s) ≡ s = search (rules, the_lemmas) in
      let parts = neither (bytes_eq s (codes "File")) (bytes_eq s (codes "Directory")) (sym is ∙ h) in
      (λ same. other_text s (codes "File") (bytes_eq s (codes "File")) refl parts.0 (sym told ∙ same), λ same. other_text s (codes "Directory") (bytes_eq s (codes "Directory")) refl parts.1 (sym told ∙ same))

pub record HasNoClass (es : List (Name × Value)) : Type 0 where
  pub no_file : class_in (fields_json es) ≢ codes "File"
  pub no_directory : class_in (fields_json es) ≢ codes "Directory"

-- the text under `class`, as it is written of what is found there
abbrev written_class : Option Value → Name
written_class o = unwrap_or (option_and_then as_str (option_map json_of o)) []

class_of : (o : Option Value) → option_map_or (λ (s : Seen). s.0) (option_map seen o) false ≡ false → (written_class o ≢ codes "File") × (written_class o ≢ codes "Directory")
class_of None h = (λ same. true≢false (ap (λ n. bytes_eq n []) same), λ same. true≢false (ap (λ n. bytes_eq n []) same))
class_of (Some v) h = induction class_cases v h

unclassed : (es : List (Name × Value)) → IsByName es → is_classed (map_values seen es) ≡ false → HasNoClass es
unclassed es order none =
    let found : class_in (fields_json es) ≡ written_class (value_at (codes "class") es) = ap (λ o. unwrap_or (option_and_then as_str o) []) (field_found (codes "class") es order) in
    let other = class_of (value_at (codes "class") es) (ap (λ o. option_map_or (λ (s : Seen). s.0) o false) (sym (value_at-map_values seen (codes "class") es)) ∙ none) in
    record { no_file = λ same. other.0 (sym found ∙ same); no_directory = λ same. other.1 (sym found ∙ same) }

seen_file : (f : FileVal-F Value DirVal FileVal) → has_class (value.FileVal (roll-FileVal f)) ≡ any_seen (map seen f.secondary)
seen_file f =
    let one : seen (value.FileVal (roll-FileVal f)) ≡ (false, file_class (roll-FileVal f)) = search (rules, the_lemmas) in
    let two : file_class (roll-FileVal f) ≡ any_seen (map seen f.secondary) = search (rules, the_lemmas) in
    ap (λ (s : Seen). s.1) one ∙ two

seen_dir : (d : DirVal-F Value DirVal FileVal) → has_class (value.DirVal (roll-DirVal d)) ≡ option_map_or any_seen (option_map (map seen) d.listing) false
seen_dir d =
    let one : seen (value.DirVal (roll-DirVal d)) ≡ (false, dir_class (roll-DirVal d)) = search (rules, the_lemmas) in
    let two : dir_class (roll-DirVal d) ≡ option_map_or any_seen (option_map (map seen) d.listing) false = search (rules, the_lemmas) in
    ap (λ (s : Seen). s.1) one ∙ two

seen_list : (vs : List Value) → has_class (value.List vs) ≡ any_seen (map seen vs)
seen_list vs = search (rules, the_lemmas)

seen_fields : (es : List (Name × Value)) → has_class (value.Fields es) ≡ (is_classed (map_values seen es) || list_any (λ e. e.1.1) (map_values seen es))
seen_fields es = search (rules, the_lemmas)

-- ---- values

module _ (listing : Listing) where
  mutual
    pub storable : (v : Value) → IsSettled listing v → IsInForm v → has_class v ≡ false → IsStorable v
    storable _ IsSettled.null form none = IsStorable.null
    storable _ (IsSettled.boolean b) form none = IsStorable.boolean b
    storable _ (IsSettled.whole n) form none = IsStorable.whole n (form_at (value.Whole n) (Value-F.Whole n) (search (rules, the_lemmas)) form)
    storable _ (IsSettled.text s) form none = IsStorable.text s
    storable _ (IsSettled.file location basename checksum size secondary is scanned each fit) form none =
        let f : FileVal-F Value DirVal FileVal = record { place = Url location; basename = Some basename; checksum = checksum; size = size; contents = None; secondary = secondary } in
        IsStorable.file location (Some basename) checksum size secondary is
        (all_storable secondary each (file_form f form) (sym (seen_file f) ∙ none)) fit
    storable _ (IsSettled.dir location basename inside is found each files climb) form none =
        let d : DirVal-F Value DirVal FileVal = record { place = Url location; basename = Some basename; listing = Some inside } in
        IsStorable.listed location (Some basename) inside is
        (all_storable inside each (dir_form d form) (sym (seen_dir d) ∙ none))
        (both (list_all is_file inside) (are_distinct inside) files (distinct inside climb)) (as_written inside files climb)
    storable _ (IsSettled.list vs each) form none = IsStorable.list vs (all_storable vs each (form_at (value.List vs) (Value-F.List vs) (search (rules, the_lemmas)) form) (sym (seen_list vs) ∙ none))
    storable _ (IsSettled.fields es each) form none =
        let parts = neither (is_classed (map_values seen es)) (list_any (λ e. e.1.1) (map_values seen es)) (sym (seen_fields es) ∙ none) in
        let within : FieldsForm es = form_at (value.Fields es) (Value-F.Fields es) (search (rules, the_lemmas)) form in
        let class = unclassed es within.order parts.0 in
        IsStorable.fields es (fields_storable es each within.each parts.1) within.order class.no_file class.no_directory

    all_storable : (vs : List Value) → AreSettled listing vs → AreAllInForm vs → any_seen (map seen vs) ≡ false → AreStorable vs
    all_storable _ AreSettled.no_values form none = AreStorable.no_values
    all_storable _ (AreSettled.one_more v vs one more) (AreAllInForm.one_more _ _ first rest) none =
        let parts = neither (has_class v) (any_seen (map seen vs)) none in
        AreStorable.one_more v vs (storable v one first parts.0) (all_storable vs more rest parts.1)

    fields_storable : (es : List (Name × Value)) → AreSettledFields listing es → AreFieldsInForm es → list_any (λ e. e.1.1) (map_values seen es) ≡ false → AreStorableFields es
    fields_storable _ AreSettledFields.no_fields form none = AreStorableFields.no_fields
    fields_storable _ (AreSettledFields.one_field name v es one more) (AreFieldsInForm.one_field _ _ _ first rest) none =
        let parts = neither (has_class v) (list_any (λ e. e.1.1) (map_values seen es)) none in
        AreStorableFields.one_field name v es (storable v one first parts.0) (fields_storable es more rest parts.1)
