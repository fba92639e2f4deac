-- The values that `cwl.output.json` gives are good.
use Rattle.std.proofs.Common.{◌≡◌, ℕ, ℤ, Bool, true, false, true≢false, ◌&&◌, cond, IsTrue, List, [], ◌∷◌, map, codes, Option, Some, None, option_map, Ok, Err, IfOk, refl, sym, ap, subst, ◌∙◌, rules}
use Rattle.std.specs.Prelude.{bytes_eq, if◌then◌else◌, nat_le, nat_lt}
use Rattle.std.specs.Str.{is_utf8}
use Rattle.std.specs.List.{AllByRecursion, list_all}
use Rattle.std.specs.Option.{IfSome}
use Rattle.plain_data.specs.ByName.{IsByName, value_at, map_values}
use Rattle.serde_json.specs.Data.{Data, null, boolean, number, string, array, object, Items, no_items, item, Members, no_members, member, depth}
use Rattle.serde_json.specs.Find.{as_i64, is_float}
use Rattle.serde_json.specs.Read as json
use Rattle.cwl_value.proofs.Induction.{Cases, induction}
use Rattle.cwl_value.specs.Reading as read
use Rattle.cwl_value.specs.Reading.{Reads, all_read, is_name, value_read, items_read, members_read, fields_read, object_read, file_read, file_form, dir_read, placed_read, summed_read, list_read, list_form, secondary_read, listing_read, basename_read, named as name_read, name_form, place_read, text_read, whole_form, class_in, field, reading, greatest_depth}
use Rattle.cwl_value.specs.Secondary.{fit_beside, is_secondary, is_new, are_distinct, is_empty}
use Rattle.cwl_value.specs.declared.place.Place.{Place}
use Rattle.cwl_value.specs.declared.place.Place.TheVariants.{Nowhere, Url, Path, Made}
use Rattle.cwl_value.specs.declared.refusal.FileField.TheVariants.{Basename, SecondaryFiles, Listing}
use Rattle.cwl_value.specs.declared.refusal.ValueRefusal.TheVariants as refusal
use Rattle.cwl_value.specs.declared.value.Value.{Value, out-Value, the_lemmas}
use Rattle.cwl_value.specs.declared.value.Value as value
use Rattle.cwl_value.specs.declared.value.Value.TheOpen.{Value-F, FileVal-F, DirVal-F}
use Rattle.cwl_value.specs.declared.value.FileVal.{FileVal, out-FileVal, roll-FileVal, out-roll-FileVal, roll-out-FileVal}
use Rattle.cwl_value.specs.declared.value.DirVal.{DirVal, out-DirVal, roll-DirVal}
use Rattle.staging.proofs.Greedy.{both, both_first, both_second}
use Rattle.collected_outputs.specs.Contents.{Heads}
use Rattle.collected_outputs.specs.Gives.{Gives, and_map, and_then, all_given}
use Rattle.collected_outputs.specs.Listing.{Listing as Entries}
use Rattle.collected_outputs.specs.Matched.{Name}
use Rattle.collected_outputs.specs.Object.{Named, data_read, bytes_read, fields_level, fields_in, fields_of, object_of, placed, file_placed, dir_placed, relative_name, named, file_apart, file_in, file_level, dir_of, dir_level, entries_apart, all_named, written}
use Rattle.collected_outputs.specs.Values.{value_under}
use Rattle.collected_outputs.specs.declared.object.TheConstants.{MOST_OBJECT}
use Rattle.collected_outputs.specs.declared.fault.CollectFault.TheVariants.{BadOutputObject}
use Rattle.job_reuse.proofs.Bound.{all_good}
use Rattle.job_reuse.proofs.Folder.{ArePaths, under, named_under}
use Rattle.job_reuse.proofs.Good.{IsNamed, IsGood, AreGood, AreGoodFields, FileIs, DirIs, AtLevel, level, list_in, out_list}
use Rattle.job_reuse.proofs.Entries.{Entry}

-- a basename as it is read, where it is there
abbrev IsReadName : Option Name → Type 0
IsReadName None = Unit {0}
IsReadName (Some s) = is_name s ≡ true

name_good : (o : Option Name) → IfOk (name_read o) IsReadName
name_good None = tt
name_good (Some s) = by (is_name s) refl where
  by : (b : Bool) → is_name s ≡ b → IfOk (read.and_map Some (if b then Ok s else Err (refusal.BadFile Basename))) IsReadName
  by true is = is
  by false is = tt

basename_good : (r : Reads (Option Name)) → IfOk (read.and_then r name_read) IsReadName
basename_good (Ok o) = name_good o
basename_good (Err why) = tt

placed_good : (ms : Members) → IfOk (placed_read ms) (λ p. IsReadName p.1)
placed_good ms = by (place_read (field (codes "location") ms) (field (codes "path") ms)) (basename_read (field (codes "basename") ms)) (basename_good (text_read Basename (field (codes "basename") ms))) where
  by : (r : Reads Place) (s : Reads (Option Name)) → IfOk s IsReadName → IfOk (read.and_then r (λ place. read.and_map (λ basename. (place, basename)) s)) (λ (p : Place × Option Name). IsReadName p.1)
  by (Ok place) (Ok basename) is = is
  by (Ok place) (Err why) is = tt
  by (Err why) s is = tt

fit_none : (name : Option Name) → fit_beside name [] ≡ true
fit_none None = refl
fit_none (Some s) = refl

module _ (listing : Entries) (paths : ArePaths listing) (order : IsByName listing) where
  abbrev G : Value → Type 0
  G = IsGood listing

  abbrev Q : Value → Type 0
  Q v = IfOk (placed listing v) G

  -- what is read as a File's secondary files
  abbrev ArePlaced : List Value → Type 0
  ArePlaced vs = IfOk (all_given (map (placed listing) vs)) (AreGood listing)

  same : (v : Value) (r : Gives Value) → r ≡ Ok v → G v → IfOk r G
  same v r is good = subst (λ (r : Gives Value). IfOk r G) (sym is) good

  -- ---- secondary files stay secondary

  abbrev IsBeside : Value → Type 0
  IsBeside w = is_secondary w ≡ true

  empty_only : (vs : List Value) → is_empty vs ≡ true → vs ≡ []
  empty_only [] is = refl
  empty_only (v ∷ vs) is = absurd (true≢false (sym is))

  alone_file : (f : FileVal) → (out-FileVal f).secondary ≡ [] → IsBeside (value.FileVal f)
  alone_file f none = let is : is_secondary (value.FileVal f) ≡ is_empty (out-FileVal f).secondary = search (rules, the_lemmas) in is ∙ ap is_empty none

  file_beside_stays : (f : FileVal-F Value DirVal FileVal) → f.secondary ≡ [] → IfOk (file_placed listing (roll-FileVal f)) (λ g. IsBeside (value.FileVal g))
  file_beside_stays f none =
      let is : file_placed listing (roll-FileVal f) ≡ and_then (relative_name f.place) (λ name. and_then (all_given (map (placed listing) f.secondary)) (file_apart listing name (named f.basename name))) = search (rules, the_lemmas) in
      subst (λ (r : Gives FileVal). IfOk r (λ g. IsBeside (value.FileVal g))) (sym (is ∙ ap (λ (vs : List Value). and_then (relative_name f.place) (λ name. and_then (all_given (map (placed listing) vs)) (file_apart listing name (named f.basename name)))) none)) (by (relative_name f.place)) where
        renamed : (name basename : Name) (b : Bool) (r : Gives FileVal) → IfOk (if b then and_map (λ f. roll-FileVal (record (out-FileVal f) { basename = Some basename; secondary = [] })) r else Err BadOutputObject) (λ g. IsBeside (value.FileVal g))
        renamed name basename true (Ok g) = let now : FileVal-F Value DirVal FileVal = record (out-FileVal g) { basename = Some basename; secondary = [] } in alone_file (roll-FileVal now) (ap (λ (h : FileVal-F Value DirVal FileVal). h.secondary) (out-roll-FileVal now))
        renamed name basename true (Err fault) = tt
        renamed name basename false r = tt

        by : (r : Gives Name) → IfOk (and_then r (λ name. and_then (Ok []) (file_apart listing name (named f.basename name)))) (λ g. IsBeside (value.FileVal g))
        by (Ok name) = renamed name (named f.basename name) (is_new (Some (named f.basename name)) [] && are_distinct []) (file_in (value_under listing name))
        by (Err fault) = tt

  beside_map : (r : Gives FileVal) → IfOk r (λ g. IsBeside (value.FileVal g)) → IfOk (and_map value.FileVal r) IsBeside
  beside_map (Ok g) is = is
  beside_map (Err fault) is = tt

  dir_beside : (r : Gives DirVal) → IfOk (and_map value.DirVal r) IsBeside
  dir_beside (Ok d) = search (rules, the_lemmas)
  dir_beside (Err fault) = tt

  no_secondary : (v : Value) (r : Gives Value) → is_secondary v ≡ false → IsBeside v → IfOk r IsBeside
  no_secondary v r none is = absurd (true≢false (sym is ∙ none))

  stays : (v : Value) → IsBeside v → IfOk (placed listing v) IsBeside
  stays = induction cases where
    of_a_file : (f : FileVal) → IsBeside (value.FileVal f) → IfOk (placed listing (value.FileVal f)) IsBeside
    of_a_file f is =
        let one : placed listing (value.FileVal f) ≡ and_map value.FileVal (file_placed listing f) = search (rules, the_lemmas) in
        let empty : is_secondary (value.FileVal f) ≡ is_empty (out-FileVal f).secondary = search (rules, the_lemmas) in
        let none : (out-FileVal f).secondary ≡ [] = empty_only (out-FileVal f).secondary (sym empty ∙ is) in
        subst (λ (r : Gives Value). IfOk r IsBeside) (sym one)
        (beside_map (file_placed listing f) (subst (λ (g : FileVal). IfOk (file_placed listing g) (λ g. IsBeside (value.FileVal g))) (roll-out-FileVal f) (file_beside_stays (out-FileVal f) none)))

    of_a_dir : (d : DirVal) → IfOk (placed listing (value.DirVal d)) IsBeside
    of_a_dir d =
        let one : placed listing (value.DirVal d) ≡ and_map value.DirVal (dir_placed listing d) = search (rules, the_lemmas) in
        subst (λ (r : Gives Value). IfOk r IsBeside) (sym one) (dir_beside (dir_placed listing d))

    cases : Cases (λ v. IsBeside v → IfOk (placed listing v) IsBeside) (λ f. Unit {0}) (λ d. Unit {0})
    cases = record {
      null = λ h. no_secondary value.Null (placed listing value.Null) (search (rules, the_lemmas)) h;
      boolean = λ b h. no_secondary (value.Bool b) (placed listing (value.Bool b)) (search (rules, the_lemmas)) h;
      whole = λ n h. no_secondary (value.Whole n) (placed listing (value.Whole n)) (search (rules, the_lemmas)) h;
      text = λ s h. no_secondary (value.Text s) (placed listing (value.Text s)) (search (rules, the_lemmas)) h;
      file = λ f one h. of_a_file f h;
      dir = λ d one h. of_a_dir d;
      list = λ vs each h. no_secondary (value.List vs) (placed listing (value.List vs)) (search (rules, the_lemmas)) h;
      fields = λ es each h. no_secondary (value.Fields es) (placed listing (value.Fields es)) (search (rules, the_lemmas)) h;
      a_file = λ f each. tt;
      a_dir = λ d each. tt;
    }

  all_stay : (vs : List Value) → list_all is_secondary vs ≡ true → IfOk (all_given (map (placed listing) vs)) (λ ws. list_all is_secondary ws ≡ true)
  all_stay [] all = refl
  all_stay (v ∷ vs) all =
      by (placed listing v) (all_given (map (placed listing) vs)) (stays v (both_first (is_secondary v) (list_all is_secondary vs) all)) (all_stay vs (both_second (is_secondary v) (list_all is_secondary vs) all)) where
        by : (here : Gives Value) (rest : Gives (List Value)) → IfOk here IsBeside → IfOk rest (λ ws. list_all is_secondary ws ≡ true) → IfOk (and_then here (λ w. and_map (λ ws. w ∷ ws) rest)) (λ ws. list_all is_secondary ws ≡ true)
        by (Ok w) (Ok ws) one more = both (is_secondary w) (list_all is_secondary ws) one more
        by (Ok w) (Err fault) one more = tt
        by (Err fault) rest one more = tt

  -- ---- a File as it is placed

  -- the name that it takes
  takes_name : (o : Option Name) (name : Name) (v : Value) → IsReadName o → value_under listing name ≡ Some v → IsNamed (Some (named o name))
  takes_name (Some s) name v is there = (s, refl, is)
  takes_name None name v is there = (named None name, refl, subst (λ (o : Option Value). IfSome o (λ w. IsTrue (is_name (named None name)))) there (named_under listing paths order name))

  renamed_file : (f : FileVal-F Value DirVal FileVal) (basename : Name) (others : List Value) (p : Place) → FileIs listing f p → IsNamed (Some basename) → fit_beside (Some basename) others ≡ true
      → FileIs listing (record f { basename = Some basename; secondary = others }) p
  renamed_file f basename others Nowhere is called fit = tt
  renamed_file f basename others (Url name) is called fit = record { named = called; scanned = is.scanned; fit = fit }
  renamed_file f basename others (Path path) is called fit = tt
  renamed_file f basename others (Made job name) is called fit = tt

  renamed_dir : (d : DirVal-F Value DirVal FileVal) (basename : Name) (p : Place) → DirIs d p → IsNamed (Some basename) → DirIs (record d { basename = Some basename }) p
  renamed_dir d basename Nowhere is called = tt
  renamed_dir d basename (Url name) is called = record { named = called; inside = is.inside; listed = is.listed; files = is.files; climb = is.climb }
  renamed_dir d basename (Path path) is called = tt
  renamed_dir d basename (Made job name) is called = tt

  take_file : (basename : Name) (others : List Value) (x : Value-F Value DirVal FileVal) → AtLevel listing x → IsNamed (Some basename) → fit_beside (Some basename) others ≡ true → AreGood listing others
      → IfOk (and_map (λ f. roll-FileVal (record (out-FileVal f) { basename = Some basename; secondary = others })) (file_level x)) (λ f. G (value.FileVal f))
  take_file basename others Value-F.Null at called fit good = tt
  take_file basename others (Value-F.Bool b) at called fit good = tt
  take_file basename others (Value-F.Whole n) at called fit good = tt
  take_file basename others (Value-F.Text s) at called fit good = tt
  take_file basename others (Value-F.FileVal f) at called fit good = IsGood.file (record (out-FileVal f) { basename = Some basename; secondary = others }) (renamed_file (out-FileVal f) basename others (out-FileVal f).place at.0 called fit) good
  take_file basename others (Value-F.DirVal d) at called fit good = tt
  take_file basename others (Value-F.List vs) at called fit good = tt
  take_file basename others (Value-F.Fields es) at called fit good = tt

  take_dir : (basename : Name) (x : Value-F Value DirVal FileVal) → AtLevel listing x → IsNamed (Some basename) → IfOk (and_map (λ d. roll-DirVal (record (out-DirVal d) { basename = Some basename })) (dir_level x)) (λ d. G (value.DirVal d))
  take_dir basename Value-F.Null at called = tt
  take_dir basename (Value-F.Bool b) at called = tt
  take_dir basename (Value-F.Whole n) at called = tt
  take_dir basename (Value-F.Text s) at called = tt
  take_dir basename (Value-F.FileVal f) at called = tt
  take_dir basename (Value-F.DirVal d) at called = IsGood.dir (record (out-DirVal d) { basename = Some basename }) (renamed_dir (out-DirVal d) basename (out-DirVal d).place at.0 called) at.1
  take_dir basename (Value-F.List vs) at called = tt
  take_dir basename (Value-F.Fields es) at called = tt

  apart_good : (o : Option Name) (name : Name) (others : List Value) → IsReadName o → list_all is_secondary others ≡ true → AreGood listing others → IfOk (file_apart listing name (named o name) others) (λ f. G (value.FileVal f))
  apart_good o name others is beside good = by (is_new (Some (named o name)) others && are_distinct others) refl (value_under listing name) refl (under listing paths order name) where
    basename : Name
    basename = named o name

    by : (b : Bool) → (is_new (Some basename) others && are_distinct others) ≡ b → (there : Option Value) → value_under listing name ≡ there → IfSome there G
        → IfOk (if b then and_map (λ f. roll-FileVal (record (out-FileVal f) { basename = Some basename; secondary = others })) (file_in there) else Err BadOutputObject) (λ f. G (value.FileVal f))
    by true apart None there one = tt
    by true apart (Some v) there one =
        take_file basename others (out-Value v) (level listing v one) (takes_name o name v is there)
        (both (list_all is_secondary others) (is_new (Some basename) others && are_distinct others) beside apart) good
    by false apart there is one = tt

  file_good : (f : FileVal-F Value DirVal FileVal) → IsReadName f.basename → fit_beside f.basename f.secondary ≡ true → ArePlaced f.secondary → Q (value.FileVal (roll-FileVal f))
  file_good f is fit others =
      let one : placed listing (value.FileVal (roll-FileVal f)) ≡ and_map value.FileVal (and_then (relative_name f.place) (λ name. and_then (all_given (map (placed listing) f.secondary)) (file_apart listing name (named f.basename name)))) = search (rules, the_lemmas) in
      subst (λ (r : Gives Value). IfOk r G) (sym one)
      (by (relative_name f.place) (all_given (map (placed listing) f.secondary)) others (all_stay f.secondary (both_first (list_all is_secondary f.secondary) (is_new f.basename f.secondary && are_distinct f.secondary) fit))) where
        as_value : (r : Gives FileVal) → IfOk r (λ f. G (value.FileVal f)) → IfOk (and_map value.FileVal r) G
        as_value (Ok g) good = good
        as_value (Err fault) good = tt

        by : (r : Gives Name) (s : Gives (List Value)) → IfOk s (AreGood listing) → IfOk s (λ ws. list_all is_secondary ws ≡ true) → IfOk (and_map value.FileVal (and_then r (λ name. and_then s (file_apart listing name (named f.basename name))))) G
        by (Ok name) (Ok ws) good beside = as_value (file_apart listing name (named f.basename name) ws) (apart_good f.basename name ws is beside good)
        by (Ok name) (Err fault) good beside = tt
        by (Err fault) s good beside = tt

  dir_good : (d : DirVal-F Value DirVal FileVal) → IsReadName d.basename → Q (value.DirVal (roll-DirVal d))
  dir_good d is =
      let one : placed listing (value.DirVal (roll-DirVal d)) ≡ and_map value.DirVal (dir_placed listing (roll-DirVal d)) = search (rules, the_lemmas) in
      let two : dir_placed listing (roll-DirVal d) ≡ and_then (relative_name d.place) (λ name. and_then (entries_apart (option_map (map (placed listing)) d.listing)) (λ vs. dir_of (named d.basename name) (value_under listing name))) = search (rules, the_lemmas) in
      subst (λ (r : Gives Value). IfOk r G) (sym (one ∙ ap (and_map value.DirVal) two)) (by (relative_name d.place) (entries_apart (option_map (map (placed listing)) d.listing))) where
        as_value : (r : Gives DirVal) → IfOk r (λ d. G (value.DirVal d)) → IfOk (and_map value.DirVal r) G
        as_value (Ok e) good = good
        as_value (Err fault) good = tt

        there : (name : Name) (o : Option Value) → value_under listing name ≡ o → IfSome o G → IfOk (dir_of (named d.basename name) o) (λ d. G (value.DirVal d))
        there name None at one = tt
        there name (Some v) at one = take_dir (named d.basename name) (out-Value v) (level listing v one) (takes_name d.basename name v is at)

        by : (r : Gives Name) (s : Gives (List Value)) → IfOk (and_map value.DirVal (and_then r (λ name. and_then s (λ vs. dir_of (named d.basename name) (value_under listing name))))) G
        by (Ok name) (Ok vs) = as_value (dir_of (named d.basename name) (value_under listing name)) (there name (value_under listing name) refl (under listing paths order name))
        by (Ok name) (Err fault) = tt
        by (Err fault) s = tt

  list_good : (vs : List Value) → ArePlaced vs → Q (value.List vs)
  list_good vs each =
      let one : placed listing (value.List vs) ≡ and_map value.List (all_given (map (placed listing) vs)) = search (rules, the_lemmas) in
      subst (λ (r : Gives Value). IfOk r G) (sym one) (by (all_given (map (placed listing) vs)) each) where
        by : (r : Gives (List Value)) → IfOk r (AreGood listing) → IfOk (and_map value.List r) G
        by (Ok ws) good = IsGood.list ws good
        by (Err fault) good = tt

  abbrev EachField : Named → Type 0
  EachField es = AllByRecursion (λ (e : Name × Value). Q e.1) es

  named_good : (es : Named) → EachField es → IfOk (all_named (map_values (placed listing) es)) (AreGoodFields listing)
  named_good [] each = AreGoodFields.no_fields
  named_good (e ∷ es) each = by (placed listing e.1) (all_named (map_values (placed listing) es)) each.0 (named_good es each.1) where
    by : (here : Gives Value) (rest : Gives Named) → IfOk here G → IfOk rest (AreGoodFields listing) → IfOk (and_then (and_map (λ v. (e.0, v)) here) (λ f. and_map (λ fs. f ∷ fs) rest)) (AreGoodFields listing)
    by (Ok v) (Ok fs) one more = AreGoodFields.one_field e.0 v fs one more
    by (Ok v) (Err fault) one more = tt
    by (Err fault) rest one more = tt

  fields_good : (es : Named) → EachField es → Q (value.Fields es)
  fields_good es each =
      let one : placed listing (value.Fields es) ≡ and_map value.Fields (all_named (map_values (placed listing) es)) = search (rules, the_lemmas) in
      subst (λ (r : Gives Value). IfOk r G) (sym one) (by (all_named (map_values (placed listing) es)) (named_good es each)) where
        by : (r : Gives Named) → IfOk r (AreGoodFields listing) → IfOk (and_map value.Fields r) G
        by (Ok fs) good = IsGood.fields fs good
        by (Err fault) good = tt

  -- ---- what is read

  abbrev FieldsAt : Value-F Value DirVal FileVal → Type 0
  FieldsAt Value-F.Null = Unit {0}
  FieldsAt (Value-F.Bool b) = Unit {0}
  FieldsAt (Value-F.Whole n) = Unit {0}
  FieldsAt (Value-F.Text s) = Unit {0}
  FieldsAt (Value-F.FileVal f) = Unit {0}
  FieldsAt (Value-F.DirVal d) = Unit {0}
  FieldsAt (Value-F.List vs) = Unit {0}
  FieldsAt (Value-F.Fields es) = EachField es

  record IsRead (v : Value) : Type 0 where
    good : Q v
    fields : FieldsAt (out-Value v)

  seen : (v : Value) (x : Value-F Value DirVal FileVal) → out-Value v ≡ x → FieldsAt x → Q v → IsRead v
  seen v x is fields good = record { good = good; fields = subst FieldsAt (sym is) fields }

  list_placed : (v : Value) → Q v → IfOk (list_form SecondaryFiles (out-Value v)) (λ o. IfSome o ArePlaced)
  list_placed = induction cases where
    placed_in : (vs : List Value) → Q (value.List vs) → ArePlaced vs
    placed_in vs good =
        let one : placed listing (value.List vs) ≡ and_map value.List (all_given (map (placed listing) vs)) = search (rules, the_lemmas) in
        by (all_given (map (placed listing) vs)) (subst (λ (r : Gives Value). IfOk r G) one good) where
          by : (r : Gives (List Value)) → IfOk (and_map value.List r) G → IfOk r (AreGood listing)
          by (Ok ws) h = list_in listing ws h
          by (Err fault) h = tt

    cases : Cases (λ v. Q v → IfOk (list_form SecondaryFiles (out-Value v)) (λ o. IfSome o ArePlaced)) (λ f. Unit {0}) (λ d. Unit {0})
    cases = record {
      null = λ h. search (rules, the_lemmas);
      boolean = λ b h. search (rules, the_lemmas);
      whole = λ n h. search (rules, the_lemmas);
      text = λ s h. search (rules, the_lemmas);
      file = λ f one h. search (rules, the_lemmas);
      dir = λ d one h. search (rules, the_lemmas);
      list = λ vs each h. subst (λ (x : Value-F Value DirVal FileVal). IfOk (list_form SecondaryFiles x) (λ o. IfSome o ArePlaced)) (sym (out_list vs)) (placed_in vs h);
      fields = λ es each h. search (rules, the_lemmas);
      a_file = λ f each. tt;
      a_dir = λ d each. tt;
    }

  listed_good : (o : Option (Reads Value)) → IfSome o (λ r. IfOk r Q) → IfOk (list_read SecondaryFiles o) (λ vs. IfSome vs ArePlaced)
  listed_good None each = tt
  listed_good (Some (Ok v)) each = list_placed v each
  listed_good (Some (Err why)) each = tt

  record Fit (name : Option Name) (vs : List Value) : Type 0 where
    fit : fit_beside name vs ≡ true
    each : ArePlaced vs

  secondary_good : (name : Option Name) (o : Option (List Value)) → IfSome o ArePlaced → IfOk (secondary_read name o) (Fit name)
  secondary_good name None each = record { fit = fit_none name; each = AreGood.no_values }
  secondary_good name (Some vs) each = by (fit_beside name vs) refl where
    by : (b : Bool) → fit_beside name vs ≡ b → IfOk (if b then Ok vs else Err (refusal.BadFile SecondaryFiles)) (Fit name)
    by true is = record { fit = is; each = each }
    by false is = tt

  file_formed : (p : Place × Option Name) (s : Option Name × Option ℕ) (o : Option (List Value)) → IsReadName p.1 → IfSome o ArePlaced → IfOk (file_form p s o) (λ f. Q (value.FileVal f))
  file_formed p s o is each = by (secondary_read p.1 o) (secondary_good p.1 o each) where
    by : (r : Reads (List Value)) → IfOk r (Fit p.1)
        → IfOk (read.and_map (λ secondary. roll-FileVal (record { place = p.0; basename = p.1; checksum = s.0; size = s.1; contents = None; secondary = secondary })) r) (λ f. Q (value.FileVal f))
    by (Ok vs) h = file_good (record { place = p.0; basename = p.1; checksum = s.0; size = s.1; contents = None; secondary = vs }) is h.fit h.each
    by (Err why) h = tt

  file_read_good : (ms : Members) (reads : List (Name × Reads Value)) → IfSome (value_at (codes "secondaryFiles") reads) (λ r. IfOk r Q) → IfOk (file_read ms reads) (λ f. Q (value.FileVal f))
  file_read_good ms reads each = by (placed_read ms) (summed_read ms) (list_read SecondaryFiles (value_at (codes "secondaryFiles") reads)) (placed_good ms) (listed_good (value_at (codes "secondaryFiles") reads) each) where
    by : (p : Reads (Place × Option Name)) (s : Reads (Option Name × Option ℕ)) (l : Reads (Option (List Value))) → IfOk p (λ p. IsReadName p.1) → IfOk l (λ vs. IfSome vs ArePlaced)
        → IfOk (read.and_then p (λ placed. read.and_then s (λ summed. read.and_then l (file_form placed summed)))) (λ f. Q (value.FileVal f))
    by (Ok p) (Ok s) (Ok o) is all = file_formed p s o is all
    by (Ok p) (Ok s) (Err why) is all = tt
    by (Ok p) (Err why) l is all = tt
    by (Err why) s l is all = tt

  dir_read_good : (ms : Members) (reads : List (Name × Reads Value)) → IfOk (dir_read ms reads) (λ d. Q (value.DirVal d))
  dir_read_good ms reads = by (placed_read ms) (list_read Listing (value_at (codes "listing") reads)) (placed_good ms) where
    formed : (p : Place × Option Name) (r : Reads (Option (List Value))) → IsReadName p.1 → IfOk (read.and_map (λ listing. roll-DirVal (record { place = p.0; basename = p.1; listing = listing })) r) (λ d. Q (value.DirVal d))
    formed p (Ok o) is = dir_good (record { place = p.0; basename = p.1; listing = o }) is
    formed p (Err why) is = tt

    by : (p : Reads (Place × Option Name)) (l : Reads (Option (List Value))) → IfOk p (λ p. IsReadName p.1)
        → IfOk (read.and_then p (λ placed. read.and_then l (λ listed. read.and_map (λ listing. roll-DirVal (record { place = placed.0; basename = placed.1; listing = listing })) (listing_read listed)))) (λ d. Q (value.DirVal d))
    by (Ok p) (Ok o) is = formed p (listing_read o) is
    by (Ok p) (Err why) is = tt
    by (Err why) l is = tt

  fields_read_good : (reads : List (Name × Reads Value)) → AllByRecursion (λ (e : Name × Reads Value). IfOk e.1 Q) reads → IfOk (fields_read reads) EachField
  fields_read_good [] each = tt
  fields_read_good (e ∷ es) each = by e.1 (fields_read es) each.0 (fields_read_good es each.1) where
    by : (here : Reads Value) (rest : Reads Named) → IfOk here Q → IfOk rest EachField → IfOk (read.and_then (read.and_map (λ v. (e.0, v)) here) (λ f. read.and_map (λ fs. f ∷ fs) rest)) EachField
    by (Ok v) (Ok fs) one more = (one, more)
    by (Ok v) (Err why) one more = tt
    by (Err why) rest one more = tt

  items_read_good : (rs : List (Reads Value)) → AllByRecursion (λ r. IfOk r Q) rs → IfOk (all_read rs) (AllByRecursion Q)
  items_read_good [] each = tt
  items_read_good (r ∷ rs) each = by r (all_read rs) each.0 (items_read_good rs each.1) where
    by : (here : Reads Value) (rest : Reads (List Value)) → IfOk here Q → IfOk rest (AllByRecursion Q) → IfOk (read.and_then here (λ v. read.and_map (λ vs. v ∷ vs) rest)) (AllByRecursion Q)
    by (Ok v) (Ok vs) one more = (one, more)
    by (Ok v) (Err why) one more = tt
    by (Err why) rest one more = tt

  looked_up : (reads : List (Name × Reads Value)) → AllByRecursion (λ (e : Name × Reads Value). IfOk e.1 Q) reads → (name : Name) → IfSome (value_at name reads) (λ r. IfOk r Q)
  looked_up [] each name = tt
  looked_up (e ∷ es) each name = by (looked_up es each.1 name) (bytes_eq name e.0) where
    by : IfSome (value_at name es) (λ r. IfOk r Q) → (b : Bool) → IfSome (cond b (Some e.1) (value_at name es)) (λ r. IfOk r Q)
    by rest true = each.0
    by rest false = rest

  of_read_file : (r : Reads FileVal) → IfOk r (λ f. Q (value.FileVal f)) → IfOk (read.and_map value.FileVal r) IsRead
  of_read_file (Ok f) good = seen (value.FileVal f) (Value-F.FileVal f) (search (rules, the_lemmas)) tt good
  of_read_file (Err why) good = tt

  of_read_dir : (r : Reads DirVal) → IfOk r (λ d. Q (value.DirVal d)) → IfOk (read.and_map value.DirVal r) IsRead
  of_read_dir (Ok d) good = seen (value.DirVal d) (Value-F.DirVal d) (search (rules, the_lemmas)) tt good
  of_read_dir (Err why) good = tt

  of_read_fields : (r : Reads Named) → IfOk r EachField → IfOk (read.and_map value.Fields r) IsRead
  of_read_fields (Ok es) each = seen (value.Fields es) (Value-F.Fields es) (search (rules, the_lemmas)) each (fields_good es each)
  of_read_fields (Err why) each = tt

  of_read_items : (r : Reads (List Value)) → IfOk r (AllByRecursion Q) → IfOk (read.and_map value.List r) IsRead
  of_read_items (Ok vs) each = seen (value.List vs) (Value-F.List vs) (out_list vs) tt (list_good vs (all_good listing (placed listing) vs each))
  of_read_items (Err why) each = tt

  object_good : (ms : Members) (reads : List (Name × Reads Value)) → AllByRecursion (λ (e : Name × Reads Value). IfOk e.1 Q) reads → IfOk (object_read ms reads) IsRead
  object_good ms reads each = by (bytes_eq (class_in ms) (codes "File")) (bytes_eq (class_in ms) (codes "Directory")) where
    by : (b c : Bool) → IfOk (if b then read.and_map value.FileVal (file_read ms reads) else (if c then read.and_map value.DirVal (dir_read ms reads) else read.and_map value.Fields (fields_read reads))) IsRead
    by true c = of_read_file (file_read ms reads) (file_read_good ms reads (looked_up reads each (codes "secondaryFiles")))
    by false true = of_read_dir (dir_read ms reads) (dir_read_good ms reads)
    by false false = of_read_fields (fields_read reads) (fields_read_good reads each)

  whole_good : (o : Option ℤ) (b : Bool) → IfOk (whole_form o b) IsRead
  whole_good (Some n) b = seen (value.Whole n) (Value-F.Whole n) (search (rules, the_lemmas)) tt (same (value.Whole n) (placed listing (value.Whole n)) (search (rules, the_lemmas)) (IsGood.whole n))
  whole_good None true = tt
  whole_good None false = tt

  weaker : (r : Reads Value) → IfOk r IsRead → IfOk r Q
  weaker (Ok v) is = is.good
  weaker (Err why) is = tt

  mutual
    read_good : (d : Data) → IfOk (value_read d) IsRead
    read_good null = seen value.Null Value-F.Null (search (rules, the_lemmas)) tt (same value.Null (placed listing value.Null) (search (rules, the_lemmas)) IsGood.null)
    read_good (boolean b) = seen (value.Bool b) (Value-F.Bool b) (search (rules, the_lemmas)) tt (same (value.Bool b) (placed listing (value.Bool b)) (search (rules, the_lemmas)) (IsGood.boolean b))
    read_good (number n) = whole_good (as_i64 n) (is_float n)
    read_good (string s) = seen (value.Text s) (Value-F.Text s) (search (rules, the_lemmas)) tt (same (value.Text s) (placed listing (value.Text s)) (search (rules, the_lemmas)) (IsGood.text s))
    read_good (array ds) = of_read_items (all_read (items_read ds)) (items_read_good (items_read ds) (all_items ds))
    read_good (object ms) = object_good ms (members_read ms) (all_members ms)

    all_items : (ds : Items) → AllByRecursion (λ r. IfOk r Q) (items_read ds)
    all_items no_items = tt
    all_items (item d ds) = (weaker (value_read d) (read_good d), all_items ds)

    all_members : (ms : Members) → AllByRecursion (λ (e : Name × Reads Value). IfOk e.1 Q) (members_read ms)
    all_members no_members = tt
    all_members (member k d ms) = (weaker (value_read d) (read_good d), all_members ms)

  -- ---- the object

  of_reading : (d : Data) → IfOk (reading d) IsRead
  of_reading d = by (nat_le (depth d) greatest_depth) where
    by : (b : Bool) → IfOk (if b then value_read d else Err refusal.TooDeep) IsRead
    by true = read_good d
    by false = tt

  of_data : (o : Option Data) → IfOk (data_read o) IsRead
  of_data None = tt
  of_data (Some d) = of_reading d

  of_bytes : (bytes : Name) → IfOk (bytes_read bytes) IsRead
  of_bytes bytes = by (is_utf8 bytes) where
    by : (b : Bool) → IfOk (if b then data_read (json.read bytes) else Err refusal.NotJson) IsRead
    by true = of_data (json.read bytes)
    by false = tt

  at_fields : (x : Value-F Value DirVal FileVal) → FieldsAt x → IfOk (fields_level x) EachField
  at_fields Value-F.Null each = tt
  at_fields (Value-F.Bool b) each = tt
  at_fields (Value-F.Whole n) each = tt
  at_fields (Value-F.Text s) each = tt
  at_fields (Value-F.FileVal f) each = tt
  at_fields (Value-F.DirVal d) each = tt
  at_fields (Value-F.List vs) each = tt
  at_fields (Value-F.Fields es) each = each

  of_value : (r : Reads Value) → IfOk r IsRead → IfOk (fields_in r) EachField
  of_value (Ok v) is = at_fields (out-Value v) is.fields
  of_value (Err why) is = tt

  of_head : (o : Option Name) → IfOk (fields_of o) EachField
  of_head None = tt
  of_head (Some bytes) = of_value (bytes_read bytes) (of_bytes bytes)

  object_read_good : (e : Entry) (heads : Heads) → IfOk (object_of e heads) EachField
  object_read_good e heads = by (nat_lt MOST_OBJECT e.size) where
    by : (b : Bool) → IfOk (if b then Err BadOutputObject else fields_of (value_at (codes "cwl.output.json") heads)) EachField
    by true = tt
    by false = of_head (value_at (codes "cwl.output.json") heads)

  found_field : (es : Named) → EachField es → (name : Name) → IfOk (written listing (value_at name es)) G
  found_field [] each name = IsGood.null
  found_field (e ∷ es) each name = by (found_field es each.1 name) (bytes_eq name e.0) where
    by : IfOk (written listing (value_at name es)) G → (b : Bool) → IfOk (written listing (cond b (Some e.1) (value_at name es))) G
    by rest true = each.0
    by rest false = rest

  -- each value that the object has for an output is good
  pub written_good : (e : Entry) (heads : Heads) (fields : Named) → object_of e heads ≡ Ok fields → (name : Name) → IfOk (written listing (value_at name fields)) G
  written_good e heads fields is name = found_field fields (subst (λ (r : Gives Named). IfOk r EachField) is (object_read_good e heads)) name
