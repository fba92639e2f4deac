-- Files of outputs have the sizes and the checksums that were found.
use Rattle.std.proofs.Common.{◌≡◌, ℕ, zero, suc, Bool, true, false, not, ◌&&◌, ◌==◌, cond, List, [], ◌∷◌, ◌++◌, length, map, codes, Option, Some, None, option_map, Ok, Err, IfOk, refl, sym, ap, subst, ◌∙◌, rules}
use Rattle.std.specs.Prelude.{bytes_eq, filter, if◌then◌else◌}
use Rattle.std.specs.List.{All, AllByRecursion, Contains, list_any}
use Rattle.std.specs.Option.{IfSome, option_to_list}
use Rattle.std.proofs.lemmas.List.Elements.{All-contains_itself, All-filter, All-head, All-tail}
use Rattle.std.proofs.lemmas.List.Folds.{list_all-append}
use Rattle.std.proofs.lemmas.Bool.{eq-eqb}
use Rattle.std.proofs.lemmas.List.{map-append}
use Rattle.std.proofs.lemmas.Map.Views.{Contains-from_lookup}
use Rattle.std.proofs.lemmas.Slice.Eq.{bytes_eq-Decides}
use Rattle.plain_data.proofs.Lookup.{name_itself}
use Rattle.plain_data.specs.ByName.{value_at}
use Rattle.cwl_types.specs.declared.types.MemberType.{MemberType}
use Rattle.cwl_value.proofs.Induction.{Cases, induction}
use Rattle.cwl_value.specs.declared.place.Place.TheVariants.{Url}
use Rattle.cwl_value.specs.declared.value.Value.{Value, the_lemmas}
use Rattle.cwl_value.specs.declared.value.Value as value
use Rattle.cwl_value.specs.declared.value.Value.TheOpen.{FileVal-F}
use Rattle.cwl_value.specs.declared.value.FileVal.{FileVal, out-FileVal, roll-out-FileVal}
use Rattle.cwl_value.specs.declared.value.DirVal.{DirVal, out-DirVal, roll-out-DirVal}
use Rattle.staging.proofs.Greedy.{both, both_first, both_second}
use Rattle.staging.proofs.Together.{any_of}
use Rattle.type_check.specs.Fits.{fits}
use Rattle.collected_outputs.specs.ByType.{is_array, sole_value, value_by_type}
use Rattle.collected_outputs.specs.Checked.{every}
use Rattle.collected_outputs.specs.Contents.{Heads, all_loaded, contents_of, file_loaded, loaded, with_contents}
use Rattle.collected_outputs.specs.Gives.{Gives, and_map, and_then, all_given}
use Rattle.collected_outputs.specs.Laws.{is_entry, is_scanned, all_scanned}
use Rattle.collected_outputs.specs.Listing.{Listing}
use Rattle.collected_outputs.specs.Matched.{Name}
use Rattle.collected_outputs.specs.Values.{basename_of, checksum_of, dir_at, file_at, entry_value, values_in, all_in, stands_in, value_under, values_of}
use Rattle.collected_outputs.specs.Throughout.{FileTest, DirTest, passes_file, passes_dir}
use Rattle.collected_outputs.specs.declared.listing.Entry.{Entry}
use Rattle.collected_outputs.specs.declared.fault.CollectFault.TheVariants.{NoMatch}
use Rattle.collected_outputs.proofs.Throughout.{file_pass, dir_pass, seen_file, seen_dir, list_passes, file_value, dir_value, file_level, dir_level}

pub all_append : (xs ys : List Bool) → every xs ≡ true → every ys ≡ true → every (xs ++ ys) ≡ true
all_append xs ys h k = list_all-append (λ flag. flag) xs ys ∙ both (every xs) (every ys) h k

module _ (listing : Listing) where
  abbrev pub file : FileTest
  file f = is_scanned listing f.size f.checksum f.place

  abbrev pub dir : DirTest
  dir d = true

  -- the value passes
  abbrev pub T : Value → Type 0
  T v = all_scanned listing v ≡ true

  -- all of them do
  abbrev pub Ts : List Value → Type 0
  Ts vs = every (map (all_scanned listing) vs) ≡ true

  abbrev pub F : FileVal → Type 0
  F f = file_pass file dir f ≡ true

  abbrev pub D : DirVal → Type 0
  D d = dir_pass file dir d ≡ true

  pub of_file : (f : FileVal) → F f → T (value.FileVal f)
  of_file f h = file_value file dir f ∙ h

  pub of_dir : (d : DirVal) → D d → T (value.DirVal d)
  of_dir d h = dir_value file dir d ∙ h

  pub of_list : (vs : List Value) → Ts vs → T (value.List vs)
  of_list vs h = list_passes file dir vs ∙ h

  pub of_null : T value.Null
  of_null = search (rules, the_lemmas)

  -- what stands in the folder

  file_there : (name : Name) (e : Entry) → Contains listing (name, e) → e.is_dir ≡ false → F (file_at name e)
  file_there name e one is_file =
      let f : FileVal-F Value DirVal FileVal = record { place = Url name; basename = Some (basename_of name); checksum = Some (checksum_of e.sum); size = Some e.size; contents = None; secondary = [] } in
      let test : is_entry name (Some e.size) (Some (checksum_of e.sum)) (name, e) ≡ true =
      both (bytes_eq name name) (not e.is_dir && ((e.size == e.size) && bytes_eq (checksum_of e.sum) (checksum_of e.sum))) (name_itself name)
      (both (not e.is_dir) ((e.size == e.size) && bytes_eq (checksum_of e.sum) (checksum_of e.sum)) (ap not is_file)
      (both (e.size == e.size) (bytes_eq (checksum_of e.sum) (checksum_of e.sum)) (eq-eqb e.size e.size refl) (name_itself (checksum_of e.sum)))) in
      file_level file dir f ∙ both (list_any (is_entry name (Some e.size) (Some (checksum_of e.sum))) listing) true (any_of (is_entry name (Some e.size) (Some (checksum_of e.sum))) listing (name, e) one test) refl

  dir_there : (name basename : Name) (inside : List Value) → Ts inside → D (dir_at name basename inside)
  dir_there name basename inside h = dir_level file dir (record { place = Url name; basename = Some basename; listing = Some inside }) ∙ h

  entry_there : (inside : Name → List Value) (name : Name) (e : Entry) → Contains listing (name, e) → Ts (inside name) → T (entry_value inside name e)
  entry_there inside name e one h = by e.is_dir refl where
    by : (b : Bool) → e.is_dir ≡ b → T (cond b (value.DirVal (dir_at name (basename_of name) (inside name))) (value.FileVal (file_at name e)))
    by true is = of_dir (dir_at name (basename_of name) (inside name)) (dir_there name (basename_of name) (inside name) h)
    by false is = of_file (file_at name e) (file_there name e one is)

  entries_there : (inside : Name → List Value) → ((name : Name) → Ts (inside name)) → (es : Listing) → All (Contains listing) es → Ts (map (λ (e : Name × Entry). entry_value inside e.0 e.1) es)
  entries_there inside deeper [] one = refl
  entries_there inside deeper (e ∷ es) one =
      both (all_scanned listing (entry_value inside e.0 e.1)) (every (map (all_scanned listing) (map (λ (e : Name × Entry). entry_value inside e.0 e.1) es)))
      (entry_there inside e.0 e.1 (All-head (Contains listing) e es one) (deeper e.0)) (entries_there inside deeper es (All-tail (Contains listing) e es one))

  folder_there : (depth : ℕ) (folder : Name) → Ts (values_in listing depth folder)
  folder_there zero folder = refl
  folder_there (suc depth) folder =
      entries_there (values_in listing depth) (folder_there depth) (filter (λ e. stands_in folder e.0) listing)
      (All-filter (λ e. stands_in folder e.0) (Contains listing) listing (All-contains_itself listing))

  pub under : (name : Name) → IfSome (value_under listing name) T
  under name = by (bytes_eq name (codes ".")) (value_at name listing) refl where
    by : (b : Bool) (o : Option Entry) → value_at name listing ≡ o → IfSome (cond b (Some (value.DirVal (dir_at (codes ".") (codes "out") (all_in listing [])))) (option_map (entry_value (all_in listing) name) o)) T
    by true o is = of_dir _ (dir_there (codes ".") (codes "out") (all_in listing []) (folder_there (length listing) []))
    by false None is = tt
    by false (Some e) is = entry_there (all_in listing) name e (Contains-from_lookup (λ x y. (bytes_eq-Decides x y).0) name e listing is) (folder_there (length listing) name)

  pub as_list : (o : Option Value) → IfSome o T → Ts (option_to_list o)
  as_list None h = refl
  as_list (Some v) h = both (all_scanned listing v) true h refl

  pub of_names : (names : List Name) → Ts (values_of listing names)
  of_names [] = refl
  of_names (name ∷ names) =
      ap every (map-append (all_scanned listing) (option_to_list (value_under listing name)) (values_of listing names))
      ∙ all_append (map (all_scanned listing) (option_to_list (value_under listing name))) (map (all_scanned listing) (values_of listing names)) (as_list (value_under listing name) (under name)) (of_names names)

  -- all that are given

  pub all_pass_on : {X : Type 0} (g : X → Gives Value) (xs : List X) → AllByRecursion (λ x. IfOk (g x) T) xs → IfOk (all_given (map g xs)) Ts
  all_pass_on g [] each = refl
  all_pass_on g (x ∷ xs) each = by (g x) (all_given (map g xs)) each.0 (all_pass_on g xs each.1) where
    by : (here : Gives Value) (rest : Gives (List Value)) → IfOk here T → IfOk rest Ts → IfOk (and_then here (λ v. and_map (λ vs. v ∷ vs) rest)) Ts
    by (Ok v) (Ok vs) h k = both (all_scanned listing v) (every (map (all_scanned listing) vs)) h k
    by (Ok v) (Err fault) h k = tt
    by (Err fault) rest h k = tt

  pub each_passes : (g : Value → Gives Value) → ((v : Value) → T v → IfOk (g v) T) → (vs : List Value) → Ts vs → AllByRecursion (λ v. IfOk (g v) T) vs
  each_passes g keeps [] h = tt
  each_passes g keeps (v ∷ vs) h =
      (keeps v (both_first (all_scanned listing v) (every (map (all_scanned listing) vs)) h), each_passes g keeps vs (both_second (all_scanned listing v) (every (map (all_scanned listing) vs)) h))

  -- a File by its parts: contents and basename count for nothing

  pub parts : (f : FileVal) → file_pass file dir f ≡ passes_file file (seen_file file dir (out-FileVal f))
  parts f = ap (file_pass file dir) (sym (roll-out-FileVal f)) ∙ file_level file dir (out-FileVal f)

  pub dir_parts : (d : DirVal) → dir_pass file dir d ≡ passes_dir dir (seen_dir file dir (out-DirVal d))
  dir_parts d = ap (dir_pass file dir) (sym (roll-out-DirVal d)) ∙ dir_level file dir (out-DirVal d)

  pub of_map : (r : Gives FileVal) → IfOk r F → IfOk (and_map value.FileVal r) T
  of_map (Ok f) h = of_file f h
  of_map (Err fault) h = tt

  -- contents

  read : (heads : Heads) (f : FileVal) → F f → IfOk (file_loaded heads f) F
  read heads f h = by (contents_of heads f) where
    by : (r : Gives (Option Name)) → IfOk (and_map (with_contents f) r) F
    by (Ok contents) = file_level file dir (record (out-FileVal f) { contents = contents }) ∙ (sym (parts f) ∙ h)
    by (Err fault) = tt

  loads : (heads : Heads) (v : Value) → T v → IfOk (loaded heads v) T
  loads heads = induction cases where
    cases : Cases (λ v. T v → IfOk (loaded heads v) T) (λ f. Unit {0}) (λ d. Unit {0})
    cases = record {
      null = λ h. search (rules, the_lemmas);
      boolean = λ b h. search (rules, the_lemmas);
      whole = λ n h. search (rules, the_lemmas);
      text = λ s h. search (rules, the_lemmas);
      file = λ f one h. (let is : loaded heads (value.FileVal f) ≡ and_map value.FileVal (file_loaded heads f) = search (rules, the_lemmas) in subst (λ (r : Gives Value). IfOk r T) (sym is) (of_map (file_loaded heads f) (read heads f (sym (file_value file dir f) ∙ h))));
      dir = λ d one h. (let is : loaded heads (value.DirVal d) ≡ Ok (value.DirVal d) = search (rules, the_lemmas) in subst (λ (r : Gives Value). IfOk r T) (sym is) h);
      list = λ vs each h. (let is : loaded heads (value.List vs) ≡ Ok (value.List vs) = search (rules, the_lemmas) in subst (λ (r : Gives Value). IfOk r T) (sym is) h);
      fields = λ es each h. (let is : loaded heads (value.Fields es) ≡ Ok (value.Fields es) = search (rules, the_lemmas) in subst (λ (r : Gives Value). IfOk r T) (sym is) h);
      a_file = λ f each. tt;
      a_dir = λ d each. tt;
    }

  pub all_read : (heads : Heads) (vs : List Value) → Ts vs → IfOk (all_loaded heads vs) Ts
  all_read heads vs h = all_pass_on (loaded heads) vs (each_passes (loaded heads) (loads heads) vs h)

  -- the value by the type

  sole : (members : List MemberType) (vs : List Value) → Ts vs → IfOk (sole_value members vs) T
  sole members [] h = by (fits members value.Null) where
    by : (b : Bool) → IfOk (if b then Ok value.Null else Err NoMatch) T
    by true = of_null
    by false = tt
  sole members (v ∷ []) h = both_first (all_scanned listing v) true h
  sole members (v ∷ w ∷ vs) h = tt

  pub by_type : (members : List MemberType) (vs : List Value) → Ts vs → IfOk (value_by_type members vs) T
  by_type members vs h = by (list_any is_array members) where
    by : (b : Bool) → IfOk (if b then Ok (value.List vs) else sole_value members vs) T
    by true = of_list vs h
    by false = sole members vs h
