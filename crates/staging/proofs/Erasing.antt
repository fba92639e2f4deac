-- A value at new paths is the same value, but for its places.
use Rattle.std.proofs.Common.{◌≡◌, ℕ, Bool, List, [], ◌∷◌, option_map, Option, Some, None, Result, Ok, Err, IfOk, refl, sym, ap, ◌∙◌, rules}
use Rattle.std.specs.List.{AllByRecursion}
use Rattle.std.specs.Option.{IfSome}
use Rattle.cwl_value.specs.Erased.{erased, file_erased, dir_erased, items_erased, fields_erased}
use Rattle.cwl_value.specs.declared.place.Place.TheVariants.{Nowhere, Path}
use Rattle.cwl_value.specs.declared.value.Value.{Value, the_lemmas}
use Rattle.cwl_value.specs.declared.value.Value as value
use Rattle.cwl_value.specs.declared.value.Value.TheOpen.{FileVal-F, DirVal-F}
use Rattle.cwl_value.specs.declared.value.FileVal.{FileVal, roll-FileVal}
use Rattle.cwl_value.specs.declared.value.DirVal.{DirVal, roll-DirVal}
use Rattle.cwl_value.proofs.Induction.{Cases, induction}
use Rattle.staging.specs.inner.Ways.{group_at}
use Rattle.staging.specs.Groups.{FolderOf, path_in, name_of, copied, copied_file, copied_dir, items_moved, fields_moved}
use Rattle.std.specs.declared.alloc.AllocError.{AllocError}
use Rattle.staging.specs.declared.plan.StagePlan.{StagePlan}
use Rattle.staging.specs.Plan.{IsPlan, folder_path}
use Rattle.staging.proofs.Moved.{list_moved, fields_moved_level, file_moved, dir_path, dir_moved}

abbrev Same : Value → Type 0
Same v = (fo : FolderOf) → erased ((copied v).moved fo) ≡ erased v

abbrev SameFile : FileVal → Type 0
SameFile f = (fo : FolderOf) → file_erased ((copied_file f).moved fo) ≡ file_erased f

abbrev SameDir : DirVal → Type 0
SameDir d = (fo : FolderOf) → dir_erased ((copied_dir d).moved fo) ≡ dir_erased d

erased-list : (vs : List Value) → erased (value.List vs) ≡ value.List (items_erased vs)
erased-list vs = search (rules, the_lemmas)

erased-fields : (es : List (List ℕ × Value)) → erased (value.Fields es) ≡ value.Fields (fields_erased es)
erased-fields es = search (rules, the_lemmas)

erased-file : (f : FileVal-F Value DirVal FileVal) → file_erased (roll-FileVal f) ≡ roll-FileVal (record f { place = Nowhere; secondary = items_erased f.secondary })
erased-file f = search (rules, the_lemmas)

erased-dir : (d : DirVal-F Value DirVal FileVal) → dir_erased (roll-DirVal d) ≡ roll-DirVal (record d { place = Nowhere; listing = option_map items_erased d.listing })
erased-dir d = search (rules, the_lemmas)

pub items_same : (fo : FolderOf) (vs : List Value) → AllByRecursion Same vs → items_erased (items_moved fo vs) ≡ items_erased vs
items_same fo [] h = refl
items_same fo (v ∷ vs) h = ap (λ x. x ∷ items_erased (items_moved fo vs)) (h.0 fo) ∙ ap (λ xs. erased v ∷ xs) (items_same fo vs h.1)

fields_same : (fo : FolderOf) (es : List (List ℕ × Value)) → AllByRecursion (λ (e : List ℕ × Value). Same e.1) es → fields_erased (fields_moved fo es) ≡ fields_erased es
fields_same fo [] h = refl
fields_same fo (e ∷ es) h =
    ap (λ (x : Value). (e.0, x) ∷ fields_erased (fields_moved fo es)) (h.0 fo) ∙ ap (λ (xs : List (List ℕ × Value)). (e.0, erased e.1) ∷ xs) (fields_same fo es h.1)

listing_same : (fo : FolderOf) (o : Option (List Value)) → IfSome o (AllByRecursion Same) → option_map items_erased (option_map (items_moved fo) o) ≡ option_map items_erased o
listing_same fo None h = refl
listing_same fo (Some vs) h = ap Some (items_same fo vs h)

file_value : (f : FileVal) → erased (value.FileVal f) ≡ value.FileVal (file_erased f)
file_value f = search (rules, the_lemmas)

dir_value : (d : DirVal) → erased (value.DirVal d) ≡ value.DirVal (dir_erased d)
dir_value d = search (rules, the_lemmas)

moved_file_value : (fo : FolderOf) (f : FileVal) → (copied (value.FileVal f)).moved fo ≡ value.FileVal ((copied_file f).moved fo)
moved_file_value fo f = search (rules, the_lemmas)

moved_dir_value : (fo : FolderOf) (d : DirVal) → (copied (value.DirVal d)).moved fo ≡ value.DirVal ((copied_dir d).moved fo)
moved_dir_value fo d = search (rules, the_lemmas)

same_file : (f : FileVal-F Value DirVal FileVal) → AllByRecursion Same f.secondary → SameFile (roll-FileVal f)
same_file f h fo =
    let path : List ℕ = fo (group_at (roll-FileVal f)) in
    let there : FileVal-F Value DirVal FileVal = record f { place = Path (path_in path (name_of f.basename)); secondary = items_moved (λ _. path) f.secondary } in
    ap file_erased (file_moved fo (roll-FileVal f))
    ∙ erased-file there
    ∙ ap (λ (vs : List Value). roll-FileVal (record f { place = Nowhere; secondary = vs })) (items_same (λ _. path) f.secondary h)
    ∙ sym (erased-file f)

same_dir : (d : DirVal-F Value DirVal FileVal) → IfSome d.listing (AllByRecursion Same) → SameDir (roll-DirVal d)
same_dir d h fo =
    let path : List ℕ = dir_path fo (roll-DirVal d) in
    let there : DirVal-F Value DirVal FileVal = record d { place = Path path; listing = option_map (items_moved (λ _. path)) d.listing } in
    ap dir_erased (dir_moved fo (roll-DirVal d))
    ∙ erased-dir there
    ∙ ap (λ (l : Option (List Value)). roll-DirVal (record d { place = Nowhere; listing = l })) (listing_same (λ _. path) d.listing h)
    ∙ sym (erased-dir d)

cases : Cases Same SameFile SameDir
cases = record {
  null = λ fo. search (rules, the_lemmas);
  boolean = λ b fo. search (rules, the_lemmas);
  whole = λ n fo. search (rules, the_lemmas);
  text = λ s fo. search (rules, the_lemmas);
  file = λ f h fo. ap erased (moved_file_value fo f) ∙ file_value ((copied_file f).moved fo) ∙ ap value.FileVal (h fo) ∙ sym (file_value f);
  dir = λ d h fo. ap erased (moved_dir_value fo d) ∙ dir_value ((copied_dir d).moved fo) ∙ ap value.DirVal (h fo) ∙ sym (dir_value d);
  list = λ vs h fo. ap erased (list_moved fo vs) ∙ erased-list (items_moved fo vs) ∙ ap value.List (items_same fo vs h) ∙ sym (erased-list vs);
  fields = λ es h fo. ap erased (fields_moved_level fo es) ∙ erased-fields (fields_moved fo es) ∙ ap value.Fields (fields_same fo es h) ∙ sym (erased-fields es);
  a_file = same_file;
  a_dir = same_dir;
}

pub same : (v : Value) (fo : FolderOf) → erased ((copied v).moved fo) ≡ erased v
same = induction cases

-- and so are fields
pub all_same : (fo : FolderOf) (es : List (List ℕ × Value)) → fields_erased (fields_moved fo es) ≡ fields_erased es
all_same fo [] = refl
all_same fo (e ∷ es) = ap (λ (x : Value). (e.0, x) ∷ fields_erased (fields_moved fo es)) (same e.1 fo) ∙ ap (λ (xs : List (List ℕ × Value)). (e.0, erased e.1) ∷ xs) (all_same fo es)

pub if_same : (holds_others : Bool) (dir : List ℕ) (values : List (List ℕ × Value)) (r : Result StagePlan AllocError) → IfOk r (IsPlan holds_others dir values) → IfOk r (λ plan. fields_erased plan.value ≡ fields_erased values)
if_same holds_others dir values (Ok plan) is = ap fields_erased is.value ∙ all_same (λ group. folder_path holds_others dir (is.number group)) values
if_same holds_others dir values (Err e) is = tt
