-- A value is what its places make of it once it was erased: so values that are the same without places, and stand at the same ones, are one.
use Rattle.std.proofs.Common.{◌≡◌, List, [], ◌∷◌, ◌++◌, map, append_assoc, append-nil, Option, Some, None, option_map, refl, sym, ap, ◌∙◌, rules}
use Rattle.std.specs.Prelude.{unwrap_or}
use Rattle.std.specs.List.{AllByRecursion}
use Rattle.std.specs.Option.{IfSome}
use Rattle.plain_data.specs.ByName.{map_values}
use Rattle.cwl_value.proofs.Induction.{Cases, induction}
use Rattle.cwl_value.specs.Erased.{erased, file_erased, dir_erased, fields_erased}
use Rattle.cwl_value.specs.declared.place.Place.{Place}
use Rattle.cwl_value.specs.declared.place.Place.TheVariants.{Nowhere}
use Rattle.cwl_value.specs.declared.value.Value.{Value, fold-Value, the_lemmas}
use Rattle.cwl_value.specs.declared.value.Value as value
use Rattle.cwl_value.specs.declared.value.Value.TheOpen.{Value-F, FileVal-F, DirVal-F}
use Rattle.cwl_value.specs.declared.value.FileVal.{FileVal, roll-FileVal, fold-FileVal}
use Rattle.cwl_value.specs.declared.value.DirVal.{DirVal, roll-DirVal, fold-DirVal}
use Rattle.collected_outputs.specs.Matched.{Name}
use Rattle.collected_outputs.specs.Object.{Named}
use Rattle.job_reuse.specs.Laws.{SameWhereErasedAndNamedAlike}
use Rattle.job_reuse.specs.Places.{joined, value_places, file_places, dir_places, places, fields_places}

-- what takes as many places as it has, and leaves the rest
abbrev Fill : Type 0 → Type 0
Fill T = List Place → T × List Place

abbrev first : List Place → Place
first [] = Nowhere
first (p ∷ ps) = p

abbrev rest : List Place → List Place
rest [] = []
rest (p ∷ ps) = ps

abbrev fill_all : List (Fill Value) → Fill (List Value)
fill_all [] ps = ([], ps)
fill_all (g ∷ gs) ps = ((g ps).0 ∷ (fill_all gs (g ps).1).0, (fill_all gs (g ps).1).1)

abbrev fill_fields : List (Name × Fill Value) → Fill Named
fill_fields [] ps = ([], ps)
fill_fields (e ∷ es) ps = ((e.0, (e.1 ps).0) ∷ (fill_fields es (e.1 ps).1).0, (fill_fields es (e.1 ps).1).1)

abbrev fill_listed : Option (List (Fill Value)) → Fill (Option (List Value))
fill_listed None ps = (None, ps)
fill_listed (Some gs) ps = (Some (fill_all gs ps).0, (fill_all gs ps).1)

abbrev fill_value : Value-F (Fill Value) (Fill DirVal) (Fill FileVal) → Fill Value
fill_value Value-F.Null ps = (value.Null, ps)
fill_value (Value-F.Bool b) ps = (value.Bool b, ps)
fill_value (Value-F.Whole n) ps = (value.Whole n, ps)
fill_value (Value-F.Text s) ps = (value.Text s, ps)
fill_value (Value-F.FileVal g) ps = (value.FileVal (g ps).0, (g ps).1)
fill_value (Value-F.DirVal g) ps = (value.DirVal (g ps).0, (g ps).1)
fill_value (Value-F.List gs) ps = (value.List (fill_all gs ps).0, (fill_all gs ps).1)
fill_value (Value-F.Fields gs) ps = (value.Fields (fill_fields gs ps).0, (fill_fields gs ps).1)

abbrev fill_file : FileVal-F (Fill Value) (Fill DirVal) (Fill FileVal) → Fill FileVal
fill_file f ps =
    (roll-FileVal (record { place = first ps; basename = f.basename; checksum = f.checksum; size = f.size; contents = f.contents; secondary = (fill_all f.secondary (rest ps)).0 }), (fill_all f.secondary (rest ps)).1)

abbrev fill_dir : DirVal-F (Fill Value) (Fill DirVal) (Fill FileVal) → Fill DirVal
fill_dir d ps = (roll-DirVal (record { place = first ps; basename = d.basename; listing = (fill_listed d.listing (rest ps)).0 }), (fill_listed d.listing (rest ps)).1)

abbrev refill : Value → Fill Value
refill = fold-Value (Fill Value) (Fill DirVal) (Fill FileVal) fill_value fill_dir fill_file

abbrev refill_file : FileVal → Fill FileVal
refill_file = fold-FileVal (Fill Value) (Fill DirVal) (Fill FileVal) fill_value fill_dir fill_file

abbrev refill_dir : DirVal → Fill DirVal
refill_dir = fold-DirVal (Fill Value) (Fill DirVal) (Fill FileVal) fill_value fill_dir fill_file

abbrev places_in : FileVal → List Place
places_in = fold-FileVal (List Place) (List Place) (List Place) value_places dir_places file_places

abbrev places_inside : DirVal → List Place
places_inside = fold-DirVal (List Place) (List Place) (List Place) value_places dir_places file_places

-- ---- one level

abbrev P : Value → Type 0
P v = (ps : List Place) → refill (erased v) (places v ++ ps) ≡ (v, ps)

abbrev Q : FileVal → Type 0
Q f = (ps : List Place) → refill_file (file_erased f) (places_in f ++ ps) ≡ (f, ps)

abbrev R : DirVal → Type 0
R d = (ps : List Place) → refill_dir (dir_erased d) (places_inside d ++ ps) ≡ (d, ps)

items : (vs : List Value) → AllByRecursion P vs → (ps : List Place) → fill_all (map refill (map erased vs)) (joined (map places vs) ++ ps) ≡ (vs, ps)
items [] each ps = refl
items (v ∷ vs) each ps =
    let gs : List (Fill Value) = map refill (map erased vs) in
    let more : List Place = joined (map places vs) in
    ap (λ l. fill_all (refill (erased v) ∷ gs) l) (append_assoc (places v) more ps)
    ∙ ap (λ (r : Value × List Place). (r.0 ∷ (fill_all gs r.1).0, (fill_all gs r.1).1)) (each.0 (more ++ ps))
    ∙ ap (λ (r : List Value × List Place). (v ∷ r.0, r.1)) (items vs each.1 ps)

fields : (es : Named) → AllByRecursion (λ (e : Name × Value). P e.1) es → (ps : List Place) → fill_fields (map_values refill (map_values erased es)) (fields_places es ++ ps) ≡ (es, ps)
fields [] each ps = refl
fields (e ∷ es) each ps =
    let gs : List (Name × Fill Value) = map_values refill (map_values erased es) in
    let more : List Place = fields_places es in
    ap (λ l. fill_fields ((e.0, refill (erased e.1)) ∷ gs) l) (append_assoc (places e.1) more ps)
    ∙ ap (λ (r : Value × List Place). ((e.0, r.0) ∷ (fill_fields gs r.1).0, (fill_fields gs r.1).1)) (each.0 (more ++ ps))
    ∙ ap (λ (r : Named × List Place). (e ∷ r.0, r.1)) (fields es each.1 ps)

listed : (o : Option (List Value)) → IfSome o (AllByRecursion P) → (ps : List Place) → fill_listed (option_map (map refill) (option_map (map erased) o)) (joined (unwrap_or (option_map (map places) o) []) ++ ps) ≡ (o, ps)
listed None each ps = refl
listed (Some vs) each ps = ap (λ (r : List Value × List Place). (Some r.0, r.1)) (items vs each ps)

a_file : (f : FileVal-F Value DirVal FileVal) → AllByRecursion P f.secondary → Q (roll-FileVal f)
a_file f each ps =
    let gs : List (Fill Value) = map refill (map erased f.secondary) in
    let bare : file_erased (roll-FileVal f) ≡ roll-FileVal (record { place = Nowhere; basename = f.basename; checksum = f.checksum; size = f.size; contents = f.contents; secondary = map erased f.secondary }) = search (rules, the_lemmas) in
    let full : (g : FileVal-F Value DirVal FileVal) → refill_file (roll-FileVal g) ≡ fill_file (record { place = g.place; basename = g.basename; checksum = g.checksum; size = g.size; contents = g.contents; secondary = map refill g.secondary }) = λ g. search (rules, the_lemmas) in
    let there : places_in (roll-FileVal f) ≡ f.place ∷ joined (map places f.secondary) = search (rules, the_lemmas) in
    ap (λ g. refill_file g (places_in (roll-FileVal f) ++ ps)) bare
    ∙ ap (λ l. refill_file (roll-FileVal (record { place = Nowhere; basename = f.basename; checksum = f.checksum; size = f.size; contents = f.contents; secondary = map erased f.secondary })) (l ++ ps)) there
    ∙ ap (λ (g : Fill FileVal). g (f.place ∷ (joined (map places f.secondary) ++ ps))) (full (record { place = Nowhere; basename = f.basename; checksum = f.checksum; size = f.size; contents = f.contents; secondary = map erased f.secondary }))
    ∙ ap (λ (r : List Value × List Place). (roll-FileVal (record { place = f.place; basename = f.basename; checksum = f.checksum; size = f.size; contents = f.contents; secondary = r.0 }), r.1)) (items f.secondary each ps)

a_dir : (d : DirVal-F Value DirVal FileVal) → IfSome d.listing (AllByRecursion P) → R (roll-DirVal d)
a_dir d each ps =
    let now : DirVal-F Value DirVal FileVal = record { place = Nowhere; basename = d.basename; listing = option_map (map erased) d.listing } in
    let bare : dir_erased (roll-DirVal d) ≡ roll-DirVal (record { place = Nowhere; basename = d.basename; listing = option_map (map erased) d.listing }) = search (rules, the_lemmas) in
    let full : (g : DirVal-F Value DirVal FileVal) → refill_dir (roll-DirVal g) ≡ fill_dir (record { place = g.place; basename = g.basename; listing = option_map (map refill) g.listing }) = λ g. search (rules, the_lemmas) in
    let there : places_inside (roll-DirVal d) ≡ d.place ∷ joined (unwrap_or (option_map (map places) d.listing) []) = search (rules, the_lemmas) in
    ap (λ g. refill_dir g (places_inside (roll-DirVal d) ++ ps)) bare
    ∙ ap (λ l. refill_dir (roll-DirVal now) (l ++ ps)) there
    ∙ ap (λ (g : Fill DirVal). g (d.place ∷ (joined (unwrap_or (option_map (map places) d.listing) []) ++ ps))) (full now)
    ∙ ap (λ (r : Option (List Value) × List Place). (roll-DirVal (record { place = d.place; basename = d.basename; listing = r.0 }), r.1)) (listed d.listing each ps)

of_file : (f : FileVal) → Q f → P (value.FileVal f)
of_file f one ps =
    let bare : erased (value.FileVal f) ≡ value.FileVal (file_erased f) = search (rules, the_lemmas) in
    let full : (g : FileVal) (l : List Place) → refill (value.FileVal g) l ≡ (value.FileVal (refill_file g l).0, (refill_file g l).1) = λ g l. search (rules, the_lemmas) in
    let there : places (value.FileVal f) ≡ places_in f = search (rules, the_lemmas) in
    ap (λ v. refill v (places (value.FileVal f) ++ ps)) bare ∙ full (file_erased f) (places (value.FileVal f) ++ ps)
    ∙ ap (λ l. (value.FileVal (refill_file (file_erased f) (l ++ ps)).0, (refill_file (file_erased f) (l ++ ps)).1)) there
    ∙ ap (λ (r : FileVal × List Place). (value.FileVal r.0, r.1)) (one ps)

of_dir : (d : DirVal) → R d → P (value.DirVal d)
of_dir d one ps =
    let bare : erased (value.DirVal d) ≡ value.DirVal (dir_erased d) = search (rules, the_lemmas) in
    let full : (g : DirVal) (l : List Place) → refill (value.DirVal g) l ≡ (value.DirVal (refill_dir g l).0, (refill_dir g l).1) = λ g l. search (rules, the_lemmas) in
    let there : places (value.DirVal d) ≡ places_inside d = search (rules, the_lemmas) in
    ap (λ v. refill v (places (value.DirVal d) ++ ps)) bare ∙ full (dir_erased d) (places (value.DirVal d) ++ ps)
    ∙ ap (λ l. (value.DirVal (refill_dir (dir_erased d) (l ++ ps)).0, (refill_dir (dir_erased d) (l ++ ps)).1)) there
    ∙ ap (λ (r : DirVal × List Place). (value.DirVal r.0, r.1)) (one ps)

of_list : (vs : List Value) → AllByRecursion P vs → P (value.List vs)
of_list vs each ps =
    let bare : erased (value.List vs) ≡ value.List (map erased vs) = search (rules, the_lemmas) in
    let full : (ws : List Value) (l : List Place) → refill (value.List ws) l ≡ (value.List (fill_all (map refill ws) l).0, (fill_all (map refill ws) l).1) = λ ws l. search (rules, the_lemmas) in
    let there : places (value.List vs) ≡ joined (map places vs) = search (rules, the_lemmas) in
    ap (λ v. refill v (places (value.List vs) ++ ps)) bare ∙ full (map erased vs) (places (value.List vs) ++ ps)
    ∙ ap (λ l. (value.List (fill_all (map refill (map erased vs)) (l ++ ps)).0, (fill_all (map refill (map erased vs)) (l ++ ps)).1)) there
    ∙ ap (λ (r : List Value × List Place). (value.List r.0, r.1)) (items vs each ps)

of_fields : (es : Named) → AllByRecursion (λ (e : Name × Value). P e.1) es → P (value.Fields es)
of_fields es each ps =
    let bare : erased (value.Fields es) ≡ value.Fields (map_values erased es) = search (rules, the_lemmas) in
    let full : (fs : Named) (l : List Place) → refill (value.Fields fs) l ≡ (value.Fields (fill_fields (map_values refill fs) l).0, (fill_fields (map_values refill fs) l).1) = λ fs l. search (rules, the_lemmas) in
    let there : places (value.Fields es) ≡ fields_places es = search (rules, the_lemmas) in
    ap (λ v. refill v (places (value.Fields es) ++ ps)) bare ∙ full (map_values erased es) (places (value.Fields es) ++ ps)
    ∙ ap (λ l. (value.Fields (fill_fields (map_values refill (map_values erased es)) (l ++ ps)).0, (fill_fields (map_values refill (map_values erased es)) (l ++ ps)).1)) there
    ∙ ap (λ (r : Named × List Place). (value.Fields r.0, r.1)) (fields es each ps)

cases : Cases P Q R
cases = record {
  null = λ ps. search (rules, the_lemmas);
  boolean = λ b ps. search (rules, the_lemmas);
  whole = λ n ps. search (rules, the_lemmas);
  text = λ s ps. search (rules, the_lemmas);
  file = of_file;
  dir = of_dir;
  list = of_list;
  fields = of_fields;
  a_file = a_file;
  a_dir = a_dir;
}

-- ---- of outputs

each_refilled : (es : Named) → AllByRecursion (λ (e : Name × Value). P e.1) es
each_refilled [] = tt
each_refilled (e ∷ es) = (induction cases e.1, each_refilled es)

back : (es : Named) → (fill_fields (map_values refill (fields_erased es)) (fields_places es)).0 ≡ es
back es =
    ap (λ l. (fill_fields (map_values refill (fields_erased es)) l).0) (sym (append-nil (fields_places es)))
    ∙ ap (λ (r : Named × List Place). r.0) (fields es (each_refilled es) [])

pub same_where : SameWhereErasedAndNamedAlike
same_where one other = (
  λ same. (ap fields_erased same, ap fields_places same),
  λ h. sym (back one) ∙ (λ i. (fill_fields (map_values refill (h.0 i)) (h.1 i)).0) ∙ back other,
)
