-- What each File and Directory of a value passes, in the value without contents.
use Rattle.std.proofs.Common.{◌≡◌, ℕ, Bool, true, List, [], ◌∷◌, map, Option, Some, None, option_map, refl, sym, ap, ◌∙◌, rules}
use Rattle.std.specs.List.{AllByRecursion}
use Rattle.std.specs.Option.{IfSome, option_map_or}
use Rattle.plain_data.specs.ByName.{map_values}
use Rattle.cwl_value.proofs.Induction.{Cases, induction}
use Rattle.cwl_value.specs.declared.value.Value.{Value, the_lemmas}
use Rattle.cwl_value.specs.declared.value.Value as value
use Rattle.cwl_value.specs.declared.value.Value.TheOpen.{FileVal-F, DirVal-F}
use Rattle.cwl_value.specs.declared.value.FileVal.{FileVal, roll-FileVal, fold-FileVal}
use Rattle.cwl_value.specs.declared.value.DirVal.{DirVal, roll-DirVal, fold-DirVal}
use Rattle.staging.proofs.Greedy.{both, both_first, both_second}
use Rattle.collected_outputs.specs.Checked.{every, found_value, bare, file_bare, dir_bare}
use Rattle.collected_outputs.specs.Throughout.{FileTest, DirTest, passes_file, passes_dir, all_pass}

-- one level of a value, its Files and Directories
module _ (file : FileTest) (dir : DirTest) where
  abbrev pub file_pass : FileVal → Bool
  file_pass = fold-FileVal Bool Bool Bool found_value (passes_dir dir) (passes_file file)

  abbrev pub dir_pass : DirVal → Bool
  dir_pass = fold-DirVal Bool Bool Bool found_value (passes_dir dir) (passes_file file)

  -- a File, with what is known of those beside it
  abbrev pub seen_file : FileVal-F Value DirVal FileVal → FileVal-F Bool Bool Bool
  seen_file f = record { place = f.place; basename = f.basename; checksum = f.checksum; size = f.size; contents = f.contents; secondary = map (all_pass file dir) f.secondary }

  abbrev pub seen_dir : DirVal-F Value DirVal FileVal → DirVal-F Bool Bool Bool
  seen_dir d = record { place = d.place; basename = d.basename; listing = option_map (map (all_pass file dir)) d.listing }

  pub list_passes : (vs : List Value) → all_pass file dir (value.List vs) ≡ every (map (all_pass file dir) vs)
  list_passes vs = search (rules, the_lemmas)

  pub fields_pass : (es : List (List ℕ × Value)) → all_pass file dir (value.Fields es) ≡ every (map (λ e. e.1) (map_values (all_pass file dir) es))
  fields_pass es = search (rules, the_lemmas)

  pub file_value : (f : FileVal) → all_pass file dir (value.FileVal f) ≡ file_pass f
  file_value f = search (rules, the_lemmas)

  pub dir_value : (d : DirVal) → all_pass file dir (value.DirVal d) ≡ dir_pass d
  dir_value d = search (rules, the_lemmas)

  pub file_level : (f : FileVal-F Value DirVal FileVal) → file_pass (roll-FileVal f) ≡ passes_file file (seen_file f)
  file_level f = search (rules, the_lemmas)

  pub dir_level : (d : DirVal-F Value DirVal FileVal) → dir_pass (roll-DirVal d) ≡ passes_dir dir (seen_dir d)
  dir_level d = search (rules, the_lemmas)

pub bare_list : (vs : List Value) → bare (value.List vs) ≡ value.List (map bare vs)
bare_list vs = search (rules, the_lemmas)

pub bare_fields : (es : List (List ℕ × Value)) → bare (value.Fields es) ≡ value.Fields (map_values bare es)
bare_fields es = search (rules, the_lemmas)

pub bare_file_value : (f : FileVal) → bare (value.FileVal f) ≡ value.FileVal (file_bare f)
bare_file_value f = search (rules, the_lemmas)

pub bare_dir_value : (d : DirVal) → bare (value.DirVal d) ≡ value.DirVal (dir_bare d)
bare_dir_value d = search (rules, the_lemmas)

bare_file_level : (f : FileVal-F Value DirVal FileVal) → file_bare (roll-FileVal f) ≡ roll-FileVal (record f { contents = None; secondary = map bare f.secondary })
bare_file_level f = search (rules, the_lemmas)

bare_dir_level : (d : DirVal-F Value DirVal FileVal) → dir_bare (roll-DirVal d) ≡ roll-DirVal (record d { listing = option_map (map bare) d.listing })
bare_dir_level d = search (rules, the_lemmas)

-- tests that a File and a Directory pass without contents, where they passed others with them
module _ (file after : FileTest) (dir dir_after : DirTest)
    (of_file : (f : FileVal-F Bool Bool Bool) (flags : List Bool) → file f ≡ true → after (record f { contents = None; secondary = flags }) ≡ true)
    (of_dir : (d : DirVal-F Bool Bool Bool) (flags : Option (List Bool)) → dir d ≡ true → dir_after (record d { listing = flags }) ≡ true) where
  abbrev P : Value → Type 0
  P v = all_pass file dir v ≡ true → all_pass after dir_after (bare v) ≡ true

  abbrev Q : FileVal → Type 0
  Q f = file_pass file dir f ≡ true → file_pass after dir_after (file_bare f) ≡ true

  abbrev R : DirVal → Type 0
  R d = dir_pass file dir d ≡ true → dir_pass after dir_after (dir_bare d) ≡ true

  items : (vs : List Value) → AllByRecursion P vs → every (map (all_pass file dir) vs) ≡ true → every (map (all_pass after dir_after) (map bare vs)) ≡ true
  items [] each h = refl
  items (v ∷ vs) each h =
      both (all_pass after dir_after (bare v)) (every (map (all_pass after dir_after) (map bare vs)))
      (each.0 (both_first (all_pass file dir v) (every (map (all_pass file dir) vs)) h))
      (items vs each.1 (both_second (all_pass file dir v) (every (map (all_pass file dir) vs)) h))

  abbrev flags : List (List ℕ × Value) → List Bool
  flags es = map (λ (e : List ℕ × Bool). e.1) (map_values (all_pass file dir) es)

  abbrev flags_after : List (List ℕ × Value) → List Bool
  flags_after es = map (λ (e : List ℕ × Bool). e.1) (map_values (all_pass after dir_after) (map_values bare es))

  fields : (es : List (List ℕ × Value)) → AllByRecursion (λ (e : List ℕ × Value). P e.1) es → every (flags es) ≡ true → every (flags_after es) ≡ true
  fields [] each h = refl
  fields (e ∷ es) each h =
      both (all_pass after dir_after (bare e.1)) (every (flags_after es))
      (each.0 (both_first (all_pass file dir e.1) (every (flags es)) h))
      (fields es each.1 (both_second (all_pass file dir e.1) (every (flags es)) h))

  listed : (o : Option (List Value)) → IfSome o (AllByRecursion P) → option_map_or every (option_map (map (all_pass file dir)) o) true ≡ true
      → option_map_or every (option_map (map (all_pass after dir_after)) (option_map (map bare) o)) true ≡ true
  listed None each h = refl
  listed (Some vs) each h = items vs each h

  a_file : (f : FileVal-F Value DirVal FileVal) → AllByRecursion P f.secondary → Q (roll-FileVal f)
  a_file f each h =
      let here = sym (file_level file dir f) ∙ h in
      let bare_f : FileVal-F Value DirVal FileVal = record f { contents = None; secondary = map bare f.secondary } in
      ap (file_pass after dir_after) (bare_file_level f) ∙ file_level after dir_after bare_f
      ∙ both (after (seen_file after dir_after bare_f)) (every (map (all_pass after dir_after) (map bare f.secondary)))
      (of_file (seen_file file dir f) (map (all_pass after dir_after) (map bare f.secondary)) (both_first (file (seen_file file dir f)) (every (map (all_pass file dir) f.secondary)) here))
      (items f.secondary each (both_second (file (seen_file file dir f)) (every (map (all_pass file dir) f.secondary)) here))

  a_dir : (d : DirVal-F Value DirVal FileVal) → IfSome d.listing (AllByRecursion P) → R (roll-DirVal d)
  a_dir d each h =
      let here = sym (dir_level file dir d) ∙ h in
      let inside : Option (List Bool) = option_map (map (all_pass file dir)) d.listing in
      let bare_d : DirVal-F Value DirVal FileVal = record d { listing = option_map (map bare) d.listing } in
      let inside_after : Option (List Bool) = option_map (map (all_pass after dir_after)) (option_map (map bare) d.listing) in
      ap (dir_pass after dir_after) (bare_dir_level d) ∙ dir_level after dir_after bare_d
      ∙ both (dir_after (seen_dir after dir_after bare_d)) (option_map_or every inside_after true)
      (of_dir (seen_dir file dir d) inside_after (both_first (dir (seen_dir file dir d)) (option_map_or every inside true) here))
      (listed d.listing each (both_second (dir (seen_dir file dir d)) (option_map_or every inside true) here))

  cases : Cases P Q R
  cases = record {
    null = λ h. search (rules, the_lemmas);
    boolean = λ b h. search (rules, the_lemmas);
    whole = λ n h. search (rules, the_lemmas);
    text = λ s h. search (rules, the_lemmas);
    file = λ f one h. ap (all_pass after dir_after) (bare_file_value f) ∙ file_value after dir_after (file_bare f) ∙ one (sym (file_value file dir f) ∙ h);
    dir = λ d one h. ap (all_pass after dir_after) (bare_dir_value d) ∙ dir_value after dir_after (dir_bare d) ∙ one (sym (dir_value file dir d) ∙ h);
    list = λ vs each h. ap (all_pass after dir_after) (bare_list vs) ∙ list_passes after dir_after (map bare vs) ∙ items vs each (sym (list_passes file dir vs) ∙ h);
    fields = λ es each h. ap (all_pass after dir_after) (bare_fields es) ∙ fields_pass after dir_after (map_values bare es) ∙ fields es each (sym (fields_pass file dir es) ∙ h);
    a_file = a_file;
    a_dir = a_dir;
  }

  pub without_contents : (v : Value) → all_pass file dir v ≡ true → all_pass after dir_after (bare v) ≡ true
  without_contents = induction cases
