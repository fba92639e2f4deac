-- Where a value's files stand is no part of the value without its places.
use Rattle.std.proofs.Common.{◌≡◌, ◌∙◌, ℕ, ℤ, Bool, true, List, [], ◌∷◌, map, Option, Some, None, option_map, fold, Ordering, Less, Equal, Greater, refl, sym, ap, rules}
use Rattle.std.specs.List.{AllByRecursion}
use Rattle.std.specs.Option.{IfSome}
use Rattle.std.specs.Ordering.{match_ordering}
use Rattle.plain_data.specs.ByName.{name_cmp, with_value, map_values}
use Rattle.cwl_value.specs.Erased.{erased, file_erased, dir_erased, items_erased, fields_erased, placeless_file, placeless_dir}
use Rattle.cwl_value.specs.declared.place.Place.{Place}
use Rattle.cwl_value.specs.declared.value.Value.{Value, roll-Value, fold-roll-Value, the_lemmas}
use Rattle.cwl_value.specs.declared.value.Value as value
use Rattle.cwl_value.specs.declared.value.Value.TheOpen.{Value-F, FileVal-F, DirVal-F}
use Rattle.cwl_value.specs.declared.value.FileVal.{FileVal, roll-FileVal, fold-FileVal}
use Rattle.cwl_value.specs.declared.value.DirVal.{DirVal, roll-DirVal, fold-DirVal}
use Rattle.cwl_value.proofs.Induction.{Cases, induction}
use Rattle.cwl_value.specs.Placed.{value_moved, file_moved, dir_moved, fields_moved}
use Rattle.job_graph.specs.Words.{Name, Fields, last_by_name}
use Rattle.run_rules.specs.Delivered.{located, location_place, object_of, source_place, sources}
use Rattle.run_rules.specs.Events.{Event, folder_at}
use Rattle.run_rules.specs.EndsSo.{IsDelivered, no_file, copied}
use Rattle.run_rules.specs.Scene.{Scene}
use Rattle.staging.proofs.Erasing.{all_same}
use Rattle.staging.specs.Plan.{folder_path}

-- Values without their places, level by level

erased-List : (vs : List Value) → erased (value.List vs) ≡ value.List (items_erased vs)
erased-List vs = search (rules, the_lemmas)

erased-Fields : (es : Fields) → erased (value.Fields es) ≡ value.Fields (fields_erased es)
erased-Fields es = search (rules, the_lemmas)

erased-FileVal : (f : FileVal) → erased (value.FileVal f) ≡ value.FileVal (file_erased f)
erased-FileVal f = search (rules, the_lemmas)

erased-DirVal : (d : DirVal) → erased (value.DirVal d) ≡ value.DirVal (dir_erased d)
erased-DirVal d = search (rules, the_lemmas)

abbrev file_with : FileVal-F Value DirVal FileVal → Place → List Value → FileVal-F Value DirVal FileVal
file_with f place secondary = record {
  place = place;
  basename = f.basename;
  checksum = f.checksum;
  size = f.size;
  contents = f.contents;
  secondary = secondary;
}

abbrev dir_with : DirVal-F Value DirVal FileVal → Place → Option (List Value) → DirVal-F Value DirVal FileVal
dir_with d place listing = record { place = place; basename = d.basename; listing = listing }

erased-file : (f : FileVal-F Value DirVal FileVal) → file_erased (roll-FileVal f) ≡ placeless_file (file_with f f.place (items_erased f.secondary))
erased-file f = search (rules, the_lemmas)

erased-dir : (d : DirVal-F Value DirVal FileVal) → dir_erased (roll-DirVal d) ≡ placeless_dir (dir_with d d.place (option_map items_erased d.listing))
erased-dir d = search (rules, the_lemmas)

-- Values elsewhere, level by level

module _ (move : Place → Place) where
  abbrev file_elsewhere : FileVal → FileVal
  file_elsewhere = fold-FileVal Value DirVal FileVal roll-Value (dir_moved move) (file_moved move)

  abbrev dir_elsewhere : DirVal → DirVal
  dir_elsewhere = fold-DirVal Value DirVal FileVal roll-Value (dir_moved move) (file_moved move)

  abbrev items_moved : List Value → List Value
  items_moved = map (value_moved move)

  moved-Null : value_moved move value.Null ≡ value.Null
  moved-Null = search (rules, the_lemmas)

  moved-Bool : (b : Bool) → value_moved move (value.Bool b) ≡ value.Bool b
  moved-Bool b = search (rules, the_lemmas)

  moved-Whole : (n : ℤ) → value_moved move (value.Whole n) ≡ value.Whole n
  moved-Whole n = search (rules, the_lemmas)

  moved-Text : (s : List ℕ) → value_moved move (value.Text s) ≡ value.Text s
  moved-Text s = search (rules, the_lemmas)

  moved-List : (vs : List Value) → value_moved move (value.List vs) ≡ value.List (items_moved vs)
  moved-List vs = search (rules, the_lemmas)

  moved-Fields : (es : Fields) → value_moved move (value.Fields es) ≡ value.Fields (fields_moved move es)
  moved-Fields es = search (rules, the_lemmas)

  moved-FileVal : (f : FileVal) → value_moved move (value.FileVal f) ≡ value.FileVal (file_elsewhere f)
  moved-FileVal f = search (rules, the_lemmas)

  moved-DirVal : (d : DirVal) → value_moved move (value.DirVal d) ≡ value.DirVal (dir_elsewhere d)
  moved-DirVal d = search (rules, the_lemmas)

  moved-file : (f : FileVal-F Value DirVal FileVal) → file_elsewhere (roll-FileVal f) ≡ file_moved move (file_with f f.place (items_moved f.secondary))
  moved-file f = search (rules, the_lemmas)

  moved-dir : (d : DirVal-F Value DirVal FileVal) → dir_elsewhere (roll-DirVal d) ≡ dir_moved move (dir_with d d.place (option_map items_moved d.listing))
  moved-dir d = search (rules, the_lemmas)

  -- Without places both are one

  abbrev IsSame : Value → Type 0
  IsSame v = erased (value_moved move v) ≡ erased v

  same_items : (vs : List Value) → AllByRecursion IsSame vs → items_erased (items_moved vs) ≡ items_erased vs
  same_items [] h = refl
  same_items (v ∷ vs) h =
      ap (λ (x : Value). x ∷ items_erased (items_moved vs)) h.0 ∙ ap (λ (xs : List Value). erased v ∷ xs) (same_items vs h.1)

  same_listing : (o : Option (List Value)) → IfSome o (AllByRecursion IsSame) → option_map items_erased (option_map items_moved o) ≡ option_map items_erased o
  same_listing None h = refl
  same_listing (Some vs) h = ap Some (same_items vs h)

  same_fields : (es : Fields) → AllByRecursion (λ (e : Name × Value). IsSame e.1) es → fields_erased (fields_moved move es) ≡ fields_erased es
  same_fields [] h = refl
  same_fields (e ∷ es) h =
      ap (λ (x : Value). (e.0, x) ∷ fields_erased (fields_moved move es)) h.0 ∙ ap (λ (xs : Fields). (e.0, erased e.1) ∷ xs) (same_fields es h.1)

  cases : Cases IsSame (λ f. file_erased (file_elsewhere f) ≡ file_erased f) (λ d. dir_erased (dir_elsewhere d) ≡ dir_erased d)
  cases = record {
    null = ap erased moved-Null;
    boolean = λ b. ap erased (moved-Bool b);
    whole = λ n. ap erased (moved-Whole n);
    text = λ s. ap erased (moved-Text s);
    file = λ f h. ap erased (moved-FileVal f) ∙ erased-FileVal (file_elsewhere f) ∙ ap value.FileVal h ∙ sym (erased-FileVal f);
    dir = λ d h. ap erased (moved-DirVal d) ∙ erased-DirVal (dir_elsewhere d) ∙ ap value.DirVal h ∙ sym (erased-DirVal d);
    list = λ vs h. ap erased (moved-List vs) ∙ erased-List (items_moved vs) ∙ ap value.List (same_items vs h) ∙ sym (erased-List vs);
    fields = λ es h. ap erased (moved-Fields es) ∙ erased-Fields (fields_moved move es) ∙ ap value.Fields (same_fields es h) ∙ sym (erased-Fields es);
    a_file = λ f h. ap file_erased (moved-file f) ∙ erased-file (file_with f (move f.place) (items_moved f.secondary))
        ∙ ap (λ (vs : List Value). placeless_file (file_with f f.place vs)) (same_items f.secondary h) ∙ sym (erased-file f);
    a_dir = λ d h. ap dir_erased (moved-dir d) ∙ erased-dir (dir_with d (move d.place) (option_map items_moved d.listing))
        ∙ ap (λ (o : Option (List Value)). placeless_dir (dir_with d d.place o)) (same_listing d.listing h) ∙ sym (erased-dir d);
  }

  pub erased_moved : (v : Value) → erased (value_moved move v) ≡ erased v
  erased_moved v = induction cases v

  pub fields_erased_moved : (es : Fields) → fields_erased (fields_moved move es) ≡ fields_erased es
  fields_erased_moved [] = refl
  fields_erased_moved (e ∷ es) =
      ap (λ (x : Value). (e.0, x) ∷ fields_erased (fields_moved move es)) (erased_moved e.1)
      ∙ ap (λ (xs : Fields). (e.0, erased e.1) ∷ xs) (fields_erased_moved es)

-- The order of names looks at no value

module _ {X Y : Type 0} (f : X → Y) where
  map_put : (o : Ordering) (name : Name) (value : X) (e : Name × X) (es later : List (Name × X)) (mapped : List (Name × Y)) →
      map_values f later ≡ mapped →
      map_values f (match_ordering o ((name, value) ∷ e ∷ es) ((e.0, value) ∷ es) (e ∷ later))
      ≡ match_ordering o ((name, f value) ∷ (e.0, f e.1) ∷ map_values f es) ((e.0, f value) ∷ map_values f es) ((e.0, f e.1) ∷ mapped)
  map_put Less name value e es later mapped is = refl
  map_put Equal name value e es later mapped is = refl
  map_put Greater name value e es later mapped is = ap (λ (rest : List (Name × Y)). (e.0, f e.1) ∷ rest) is

  map_with_value : (name : Name) (value : X) (es : List (Name × X)) → map_values f (with_value name value es) ≡ with_value name (f value) (map_values f es)
  map_with_value name value [] = refl
  map_with_value name value (e ∷ es) =
      map_put (name_cmp name e.0) name value e es (with_value name value es) (with_value name (f value) (map_values f es)) (map_with_value name value es)

  map_sorted : (sorted es : List (Name × X)) → map_values f (fold (λ sorted e. with_value e.0 e.1 sorted) sorted es)
      ≡ fold (λ sorted e. with_value e.0 e.1 sorted) (map_values f sorted) (map_values f es)
  map_sorted sorted [] = refl
  map_sorted sorted (e ∷ es) =
      map_sorted (with_value e.0 e.1 sorted) es
      ∙ ap (λ (done : List (Name × Y)). fold (λ sorted e. with_value e.0 e.1 sorted) done (map_values f es)) (map_with_value e.0 e.1 sorted)

  pub map_by_name : (es : List (Name × X)) → map_values f (last_by_name es) ≡ last_by_name (map_values f es)
  map_by_name es = map_sorted [] es

erased-object : (es : Fields) → erased (roll-Value (Value-F.Fields es)) ≡ roll-Value (Value-F.Fields (fields_erased es))
erased-object es = search (rules, the_lemmas)

-- in the order of names, and without places
erased_by_name : (es : Fields) → fields_erased (last_by_name es) ≡ last_by_name (fields_erased es)
erased_by_name es = map_by_name erased es

as_told : (delivered : Fields) → erased (located delivered) ≡ roll-Value (Value-F.Fields (fields_erased delivered))
as_told delivered =
    erased-object (fields_moved location_place delivered) ∙ ap (λ (es : Fields). roll-Value (Value-F.Fields es)) (fields_erased_moved location_place delivered)

module _ (s : Scene) (es : List Event) (outputs : Fields) where
  sources_erased : fields_erased (sources (folder_at s es) outputs) ≡ last_by_name (fields_erased outputs)
  sources_erased =
      erased_by_name (fields_moved (source_place (folder_at s es)) outputs)
      ∙ ap last_by_name (fields_erased_moved (source_place (folder_at s es)) outputs)

  pub keeps_the_value : (delivered : Fields) → IsDelivered s es outputs delivered → erased (located delivered) ≡ object_of (fields_erased outputs)
  keeps_the_value delivered (no_file none only) =
      as_told (last_by_name outputs) ∙ ap (λ (fields : Fields). roll-Value (Value-F.Fields fields)) (erased_by_name outputs)
  keeps_the_value delivered (copied plan is delivery) =
      as_told plan.value ∙ ap (λ (fields : Fields). roll-Value (Value-F.Fields fields))
      (ap fields_erased delivery.value
      ∙ all_same (λ group. folder_path true s.options.outdir (delivery.number group)) (sources (folder_at s es) outputs)
      ∙ sources_erased)
