-- Values whose names climb: they stand in the order in which a listing is written, and no two have one name.
use Rattle.std.proofs.Common.{◌≡◌, ℕ, ◌+◌, true, false, true≢false, not, ◌||◌, ◌&&◌, List, [], ◌∷◌, map, get_or, Option, Some, None, option_map, codes, refl, sym, ap, subst, ◌∙◌, rules, arith}
use Rattle.std.specs.Prelude.{bytes_eq, option_and_then, unwrap_or}
use Rattle.std.specs.Cmp.Lexicographic.{nat_list_cmp_total}
use Rattle.std.specs.List.{list_all, list_any}
use Rattle.std.specs.List.Sorted.{IsSortedBy, IsStrictlySortedBy}
use Rattle.std.specs.Option.{option_map_or}
use Rattle.std.specs.Ordering.{is_lt, ordering_reverse}
use Rattle.std.specs.declared.cmp.Ordering.TheVariants.{Less}
use Rattle.std.proofs.lemmas.List.{get_or-map, length-map}
use Rattle.std.proofs.lemmas.List.Sorted.{ranks_by}
use Rattle.std.proofs.lemmas.Map.Keys.{Less-from_sorted}
use Rattle.plain_data.specs.ByName.{name_cmp}
use Rattle.plain_data.proofs.ByName.{IsBelow}
use Rattle.plain_data.proofs.Lookup.{names_apart}
use Rattle.serde_json.specs.Data.{Data}
use Rattle.serde_json.specs.Find.{as_str}
use Rattle.cwl_value.proofs.Induction.{Cases, induction}
use Rattle.cwl_value.proofs.JsonOf.{json_of-FileVal, json_of-DirVal, file_data-roll, dir_data-roll}
use Rattle.cwl_value.proofs.Stable.{stably_sorted}
use Rattle.cwl_value.specs.Json.{json_of, file_data, dir_data, items_json, name_in, is_above, by_name, file_members, dir_members, text_json}
use Rattle.cwl_value.specs.Secondary.{name_of, has_name, is_new, are_distinct, is_file}
use Rattle.cwl_value.specs.declared.value.Value.{Value, the_lemmas}
use Rattle.cwl_value.specs.declared.value.Value as value
use Rattle.cwl_value.specs.declared.value.FileVal.{FileVal, out-FileVal, roll-out-FileVal}
use Rattle.cwl_value.specs.declared.value.DirVal.{DirVal, out-DirVal, roll-out-DirVal}
use Rattle.staging.proofs.Greedy.{both_first, both_second}
use Rattle.param_refs.specs.Listings.{entry_name}
use Rattle.job_reuse.proofs.Members.{member_found, picked}

abbrev pub AreInTurn : List Value → Type 0
AreInTurn vs = IsStrictlySortedBy name_cmp (map entry_name vs)

-- ---- no two have one name

new_to : (name : List ℕ) (o : Option (List ℕ)) → name_cmp name (unwrap_or o []) ≡ Less → option_map_or (bytes_eq name) o false ≡ false
new_to name None below = refl
new_to name (Some other) below = names_apart name other Less below refl

none_named : (name : List ℕ) (vs : List Value) → IsBelow name (map entry_name vs) → list_any (has_name name) vs ≡ false
none_named name [] below = refl
none_named name (v ∷ vs) below = ap (λ b. b || list_any (has_name name) vs) (new_to name (name_of v) below.0) ∙ none_named name vs below.1

is_new_below : (o : Option (List ℕ)) (vs : List Value) → IsBelow (unwrap_or o []) (map entry_name vs) → is_new o vs ≡ true
is_new_below None vs below = refl
is_new_below (Some name) vs below = ap not (none_named name vs below)

pub distinct : (vs : List Value) → AreInTurn vs → are_distinct vs ≡ true
unfolding IsStrictlySortedBy
distinct [] climb = refl
distinct (v ∷ vs) climb = ap (λ b. b && are_distinct vs) (is_new_below (name_of v) vs climb.0) ∙ distinct vs climb.1

-- ---- in the order in which they are written

told_name : (o : Option (List ℕ)) → unwrap_or (option_and_then as_str (picked true (text_json o) None)) [] ≡ unwrap_or o []
told_name None = refl
told_name (Some name) = refl

file_name : (f : FileVal) → name_in (file_data f) ≡ unwrap_or (out-FileVal f).basename []
file_name f =
    let ms = file_members (record { place = (out-FileVal f).place; basename = (out-FileVal f).basename; checksum = (out-FileVal f).checksum; size = (out-FileVal f).size; contents = (out-FileVal f).contents; secondary = items_json (out-FileVal f).secondary }) in
    ap (λ g. name_in (file_data g)) (sym (roll-out-FileVal f)) ∙ ap name_in (file_data-roll (out-FileVal f))
    ∙ ap (λ o. unwrap_or (option_and_then as_str o) []) (member_found (codes "basename") ms) ∙ told_name (out-FileVal f).basename

dir_name : (d : DirVal) → name_in (dir_data d) ≡ unwrap_or (out-DirVal d).basename []
dir_name d =
    let ms = dir_members (record { place = (out-DirVal d).place; basename = (out-DirVal d).basename; listing = option_map items_json (out-DirVal d).listing }) in
    ap (λ e. name_in (dir_data e)) (sym (roll-out-DirVal d)) ∙ ap name_in (dir_data-roll (out-DirVal d))
    ∙ ap (λ o. unwrap_or (option_and_then as_str o) []) (member_found (codes "basename") ms) ∙ told_name (out-DirVal d).basename

no_file : (es : List (List ℕ × Value)) → is_file (value.Fields es) ≡ true → ⊥
no_file es h = let none : is_file (value.Fields es) ≡ false = search (rules, the_lemmas) in true≢false (sym h ∙ none)

cases : Cases (λ v. is_file v ≡ true → name_in (json_of v) ≡ entry_name v) (λ f. Unit {0}) (λ d. Unit {0})
cases = record {
  null = λ h. search (rules, the_lemmas);
  boolean = λ b h. search (rules, the_lemmas);
  whole = λ n h. search (rules, the_lemmas);
  text = λ s h. search (rules, the_lemmas);
  file = λ f one h. (let is : entry_name (value.FileVal f) ≡ unwrap_or (out-FileVal f).basename [] = search (rules, the_lemmas) in ap name_in (json_of-FileVal f) ∙ file_name f ∙ sym is);
  dir = λ d one h. (let is : entry_name (value.DirVal d) ≡ unwrap_or (out-DirVal d).basename [] = search (rules, the_lemmas) in ap name_in (json_of-DirVal d) ∙ dir_name d ∙ sym is);
  list = λ vs each h. search (rules, the_lemmas);
  fields = λ es each h. absurd (no_file es h);
  a_file = λ f each. tt;
  a_dir = λ d each. tt;
}

written_name : (v : Value) → is_file v ≡ true → name_in (json_of v) ≡ entry_name v
written_name = induction cases

written_names : (vs : List Value) → list_all is_file vs ≡ true → map name_in (items_json vs) ≡ map entry_name vs
written_names [] all = refl
written_names (v ∷ vs) all =
    ap (λ n. n ∷ map name_in (items_json vs)) (written_name v (both_first (is_file v) (list_all is_file vs) all))
    ∙ ap (λ ns. entry_name v ∷ ns) (written_names vs (both_second (is_file v) (list_all is_file vs) all))

climbs : (ds : List Data) → IsStrictlySortedBy name_cmp (map name_in ds) → IsSortedBy is_above ds
climbs ds order k d low within =
    let here : get_or (map name_in ds) k (name_in d) ≡ name_in (get_or ds k d) = get_or-map name_in ds k d (name_in d) (omega arith) in
    let next : get_or (map name_in ds) (k + 1) (name_in d) ≡ name_in (get_or ds (k + 1) d) = get_or-map name_in ds (k + 1) d (name_in d) within in
    let less : name_cmp (get_or (map name_in ds) k (name_in d)) (get_or (map name_in ds) (k + 1) (name_in d)) ≡ Less = Less-from_sorted name_cmp (map name_in ds) k (k + 1) (name_in d) order (omega arith) (omega (arith, length-map ds name_in)) in
    let along : name_cmp (name_in (get_or ds k d)) (name_in (get_or ds (k + 1) d)) ≡ Less = (λ i. name_cmp (sym here i) (sym next i)) ∙ less in
    ap is_lt (nat_list_cmp_total.antisymm (name_in (get_or ds (k + 1) d)) (name_in (get_or ds k d)) ∙ ap ordering_reverse along)

pub as_written : (vs : List Value) → list_all is_file vs ≡ true → AreInTurn vs → by_name (items_json vs) ≡ items_json vs
as_written vs all order =
    sym (stably_sorted is_above (ranks_by nat_list_cmp_total name_in) (items_json vs) (items_json vs)
    (climbs (items_json vs) (subst (IsStrictlySortedBy name_cmp) (sym (written_names vs all)) order)) (λ z. refl))
