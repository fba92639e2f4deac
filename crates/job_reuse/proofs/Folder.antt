-- The Files and Directories of a job's folder are good, where what was found has paths.
use Rattle.std.proofs.Common.{◌≡◌, ℕ, zero, suc, Bool, true, false, true≢false, not, ◌==◌, ◌&&◌, cond, IsTrue, List, [], ◌∷◌, length, map, codes, Option, Some, None, is_some, option_map, refl, sym, ap, subst, ◌∙◌, rules}
use Rattle.std.specs.Prelude.{bytes_eq, filter, unwrap_or}
use Rattle.std.specs.List.{All, Contains, list_all}
use Rattle.std.specs.List.Sorted.{IsStrictlySortedBy}
use Rattle.std.specs.Map.{keys_of}
use Rattle.std.specs.Option.{IfSome, option_to_list}
use Rattle.std.proofs.lemmas.Bool.{eq-eqb}
use Rattle.std.proofs.lemmas.List.Elements.{All-contains_itself, All-head, All-tail, All-contains}
use Rattle.std.proofs.lemmas.Map.Views.{Contains-from_lookup}
use Rattle.std.proofs.lemmas.Slice.Eq.{bytes_eq-Decides}
use Rattle.plain_data.specs.ByName.{IsByName, name_cmp, value_at}
use Rattle.plain_data.proofs.ByName.{IsBelow, by_name_first, by_name_rest}
use Rattle.plain_data.proofs.Lookup.{name_itself}
use Rattle.cwl_value.specs.Reading.{is_name}
use Rattle.cwl_value.specs.Secondary.{is_file, is_secondary, name_of}
use Rattle.cwl_value.specs.declared.place.Place.TheVariants.{Url}
use Rattle.cwl_value.specs.declared.value.Value.{Value, the_lemmas}
use Rattle.cwl_value.specs.declared.value.Value as value
use Rattle.param_refs.specs.Listings.{entry_name}
use Rattle.staging.proofs.Greedy.{both}
use Rattle.staging.proofs.Together.{any_of}
use Rattle.collected_outputs.specs.Laws.{is_entry}
use Rattle.collected_outputs.specs.Listing.{Listing}
use Rattle.collected_outputs.specs.Matched.{Name}
use Rattle.collected_outputs.specs.Object.{named as written_name}
use Rattle.collected_outputs.specs.Values.{basename_of, stands_in, checksum_of, file_at, dir_at, entry_value, values_in, all_in, value_under, values_of}
use Rattle.job_reuse.proofs.Good.{IsNamed, IsGood, AreGood, append}
use Rattle.job_reuse.proofs.InTurn.{AreInTurn}
use Rattle.job_reuse.proofs.Paths.{IsPath, basename_named, by_basename}
use Rattle.job_reuse.proofs.Entries.{Entry}

-- the value of an entry is called after it, and may stand in a Directory or beside a File

called : (inside : Name → List Value) (name : Name) (e : Entry) → name_of (entry_value inside name e) ≡ Some (basename_of name)
called inside name e = by e.is_dir where
  by : (b : Bool) → name_of (cond b (value.DirVal (dir_at name (basename_of name) (inside name))) (value.FileVal (file_at name e))) ≡ Some (basename_of name)
  by true = search (rules, the_lemmas)
  by false = search (rules, the_lemmas)

of_file_kind : (inside : Name → List Value) (name : Name) (e : Entry) → is_file (entry_value inside name e) ≡ true
of_file_kind inside name e = by e.is_dir where
  by : (b : Bool) → is_file (cond b (value.DirVal (dir_at name (basename_of name) (inside name))) (value.FileVal (file_at name e))) ≡ true
  by true = search (rules, the_lemmas)
  by false = search (rules, the_lemmas)

beside_kind : (inside : Name → List Value) (name : Name) (e : Entry) → is_secondary (entry_value inside name e) ≡ true
beside_kind inside name e = by e.is_dir where
  by : (b : Bool) → is_secondary (cond b (value.DirVal (dir_at name (basename_of name) (inside name))) (value.FileVal (file_at name e))) ≡ true
  by true = search (rules, the_lemmas)
  by false = search (rules, the_lemmas)

abbrev pub ArePaths : Listing → Type 0
ArePaths es = All (λ (e : Name × Entry). IsPath e.0) es

abbrev inside_of : (Name → List Value) → Listing → List Value
inside_of inside es = map (λ (e : Name × Entry). entry_value inside e.0 e.1) es

all_files : (inside : Name → List Value) (es : Listing) → list_all is_file (inside_of inside es) ≡ true
all_files inside [] = refl
all_files inside (e ∷ es) = both (is_file (entry_value inside e.0 e.1)) (list_all is_file (inside_of inside es)) (of_file_kind inside e.0 e.1) (all_files inside es)

-- those of one folder climb by their names

abbrev in_folder : Name → Listing → Listing
in_folder folder es = filter (λ e. stands_in folder e.0) es

below_in : (inside : Name → List Value) (folder low : Name) (es : Listing) → IsPath low → stands_in folder low ≡ true → ArePaths es → IsBelow low (keys_of es) → IsBelow (basename_of low) (map entry_name (inside_of inside (in_folder folder es)))
below_in inside folder low [] is stands paths below = tt
below_in inside folder low (e ∷ es) is stands paths below = by (below_in inside folder low es is stands (All-tail (λ (e : Name × Entry). IsPath e.0) e es paths) below.1) (stands_in folder e.0) refl where
  by : IsBelow (basename_of low) (map entry_name (inside_of inside (in_folder folder es))) → (b : Bool) → stands_in folder e.0 ≡ b
      → IsBelow (basename_of low) (map entry_name (inside_of inside (cond b (e ∷ in_folder folder es) (in_folder folder es))))
  by rest true there =
      let name : entry_name (entry_value inside e.0 e.1) ≡ basename_of e.0 = ap (λ o. unwrap_or o []) (called inside e.0 e.1) in
      (ap (name_cmp (basename_of low)) name ∙ sym (by_basename folder low e.0 is (All-head (λ (e : Name × Entry). IsPath e.0) e es paths) stands there) ∙ below.0, rest)
  by rest false other = rest

one_climbs : (inside : Name → List Value) (folder : Name) (e : Name × Entry) (es : Listing) → ArePaths (e ∷ es) → IsByName (e ∷ es) → AreInTurn (inside_of inside (in_folder folder es)) → (b : Bool) → stands_in folder e.0 ≡ b
    → AreInTurn (inside_of inside (cond b (e ∷ in_folder folder es) (in_folder folder es)))
unfolding IsStrictlySortedBy
one_climbs inside folder e es paths order rest true there =
    let name : entry_name (entry_value inside e.0 e.1) ≡ basename_of e.0 = ap (λ o. unwrap_or o []) (called inside e.0 e.1) in (
      subst (λ (n : Name). IsBelow n (map entry_name (inside_of inside (in_folder folder es)))) (sym name)
          (below_in inside folder e.0 es (All-head (λ (e : Name × Entry). IsPath e.0) e es paths) there (All-tail (λ (e : Name × Entry). IsPath e.0) e es paths) (by_name_first e es order)),
      rest,
    )
one_climbs inside folder e es paths order rest false other = rest

none_climb : AreInTurn []
unfolding IsStrictlySortedBy
none_climb = tt

climbing : (inside : Name → List Value) (folder : Name) (es : Listing) → ArePaths es → IsByName es → AreInTurn (inside_of inside (in_folder folder es))
climbing inside folder [] paths order = none_climb
climbing inside folder (e ∷ es) paths order =
    one_climbs inside folder e es paths order (climbing inside folder es (All-tail (λ (e : Name × Entry). IsPath e.0) e es paths) (by_name_rest e es order)) (stands_in folder e.0) refl

module _ (listing : Listing) (paths : ArePaths listing) (order : IsByName listing) where
  abbrev G : Value → Type 0
  G = IsGood listing

  path_of : (name : Name) (e : Entry) → Contains listing (name, e) → IsPath name
  path_of name e one = All-contains (λ (e : Name × Entry). IsPath e.0) listing (name, e) paths one

  named : (name : Name) → IsTrue (is_name (basename_of name)) → IsNamed (Some (basename_of name))
  named name is = (basename_of name, refl, is)

  file_there : (name : Name) (e : Entry) → Contains listing (name, e) → e.is_dir ≡ false → G (value.FileVal (file_at name e))
  file_there name e one is_file_there =
      let test : is_entry name (Some e.size) (Some (checksum_of e.sum)) (name, e) ≡ true =
      both (bytes_eq name name) (not e.is_dir && ((e.size == e.size) && bytes_eq (checksum_of e.sum) (checksum_of e.sum))) (name_itself name)
      (both (not e.is_dir) ((e.size == e.size) && bytes_eq (checksum_of e.sum) (checksum_of e.sum)) (ap not is_file_there)
      (both (e.size == e.size) (bytes_eq (checksum_of e.sum) (checksum_of e.sum)) (eq-eqb e.size e.size refl) (name_itself (checksum_of e.sum)))) in
      IsGood.file (record { place = Url name; basename = Some (basename_of name); checksum = Some (checksum_of e.sum); size = Some e.size; contents = None; secondary = [] })
      (record {
        named = named name (basename_named name (path_of name e one));
        scanned = any_of (is_entry name (Some e.size) (Some (checksum_of e.sum))) listing (name, e) one test;
        fit = refl;
      })
      AreGood.no_values

  dir_there : (name basename : Name) (inside : List Value) → IsTrue (is_name basename) → list_all is_file inside ≡ true → AreInTurn inside → AreGood listing inside → G (value.DirVal (dir_at name basename inside))
  dir_there name basename inside is files climb each =
      IsGood.dir (record { place = Url name; basename = Some basename; listing = Some inside }) (record { named = (basename, refl, is); inside = inside; listed = refl; files = files; climb = climb }) each

  -- what is in folders, with all that is said of what is in a Directory
  record AreInside (vs : List Value) : Type 0 where
    good : AreGood listing vs
    files : list_all is_file vs ≡ true
    climb : AreInTurn vs

  entry_there : (inside : Name → List Value) → ((name : Name) → AreInside (inside name)) → (name : Name) (e : Entry) → Contains listing (name, e) → G (entry_value inside name e)
  entry_there inside deeper name e one = by e.is_dir refl where
    by : (b : Bool) → e.is_dir ≡ b → G (cond b (value.DirVal (dir_at name (basename_of name) (inside name))) (value.FileVal (file_at name e)))
    by true is = let within = deeper name in dir_there name (basename_of name) (inside name) (basename_named name (path_of name e one)) within.files within.climb within.good
    by false is = file_there name e one is

  entries_there : (inside : Name → List Value) → ((name : Name) → AreInside (inside name)) → (folder : Name) (es : Listing) → All (Contains listing) es → AreGood listing (inside_of inside (in_folder folder es))
  entries_there inside deeper folder [] one = AreGood.no_values
  entries_there inside deeper folder (e ∷ es) one = by (entries_there inside deeper folder es (All-tail (Contains listing) e es one)) (stands_in folder e.0) where
    by : AreGood listing (inside_of inside (in_folder folder es)) → (b : Bool) → AreGood listing (inside_of inside (cond b (e ∷ in_folder folder es) (in_folder folder es)))
    by rest true = AreGood.one_more _ _ (entry_there inside deeper e.0 e.1 (All-head (Contains listing) e es one)) rest
    by rest false = rest

  none_inside : AreInside []
  none_inside = record { good = AreGood.no_values; files = refl; climb = none_climb }

  folder_there : (depth : ℕ) (folder : Name) → AreInside (values_in listing depth folder)
  folder_there zero folder = none_inside
  folder_there (suc depth) folder = record {
    good = entries_there (values_in listing depth) (folder_there depth) folder listing (All-contains_itself listing);
    files = all_files (values_in listing depth) (in_folder folder listing);
    climb = climbing (values_in listing depth) folder listing paths order;
  }

  pub under : (name : Name) → IfSome (value_under listing name) G
  under name = by (bytes_eq name (codes ".")) (value_at name listing) refl where
    by : (b : Bool) (o : Option Entry) → value_at name listing ≡ o → IfSome (cond b (Some (value.DirVal (dir_at (codes ".") (codes "out") (all_in listing [])))) (option_map (entry_value (all_in listing) name) o)) G
    by true o is = let within = folder_there (length listing) [] in dir_there (codes ".") (codes "out") (all_in listing []) refl within.files within.climb within.good
    by false None is = tt
    by false (Some e) is = entry_there (all_in listing) (folder_there (length listing)) name e (Contains-from_lookup (λ x y. (bytes_eq-Decides x y).0) name e listing is)

  -- what was found under a path is called after it, and may stand beside a File
  pub called_under : (name : Name) → is_some (value_at name listing) ≡ true → IfSome (value_under listing name) (λ w. (is_secondary w ≡ true) × (name_of w ≡ Some (basename_of name)))
  called_under name there = by (bytes_eq name (codes ".")) (value_at name listing) refl refl where
    by : (b : Bool) (o : Option Entry) → bytes_eq name (codes ".") ≡ b → value_at name listing ≡ o
        → IfSome (cond b (Some (value.DirVal (dir_at (codes ".") (codes "out") (all_in listing [])))) (option_map (entry_value (all_in listing) name) o)) (λ w. (is_secondary w ≡ true) × (name_of w ≡ Some (basename_of name)))
    by true None dot is = absurd (true≢false (sym there ∙ ap is_some is))
    by true (Some e) dot is =
        let same : name ≡ codes "." = (bytes_eq-Decides name (codes ".")).0 dot in
        absurd (true≢false (sym (basename_named name (path_of name e (Contains-from_lookup (λ x y. (bytes_eq-Decides x y).0) name e listing is))) ∙ ap (λ n. is_name (basename_of n)) same))
    by false None other is = tt
    by false (Some e) other is = (beside_kind (all_in listing) name e, called (all_in listing) name e)

  -- and its own name, or `out` for the folder, is one
  pub named_under : (name : Name) → IfSome (value_under listing name) (λ w. IsTrue (is_name (written_name None name)))
  named_under name = by (bytes_eq name (codes ".")) (value_at name listing) refl where
    by : (b : Bool) (o : Option Entry) → value_at name listing ≡ o
        → IfSome (cond b (Some (value.DirVal (dir_at (codes ".") (codes "out") (all_in listing [])))) (option_map (entry_value (all_in listing) name) o)) (λ w. IsTrue (is_name (cond b (codes "out") (basename_of name))))
    by true o is = refl
    by false None is = tt
    by false (Some e) is = basename_named name (path_of name e (Contains-from_lookup (λ x y. (bytes_eq-Decides x y).0) name e listing is))

  pub as_list : (o : Option Value) → IfSome o G → AreGood listing (option_to_list o)
  as_list None h = AreGood.no_values
  as_list (Some v) h = AreGood.one_more v [] h AreGood.no_values

  pub of_names : (names : List Name) → AreGood listing (values_of listing names)
  of_names [] = AreGood.no_values
  of_names (name ∷ names) = append listing (option_to_list (value_under listing name)) (values_of listing names) (as_list (value_under listing name) (under name)) (of_names names)
