-- Files beside others, and those that `cwl.output.json` names, have the sizes and the checksums that were found.
use Rattle.std.proofs.Common.{◌≡◌, Bool, true, false, ◌&&◌, List, [], ◌∷◌, ◌++◌, map, Option, Some, None, option_map, Ok, Err, IfOk, refl, sym, ap, subst, ◌∙◌, rules}
use Rattle.std.specs.Prelude.{if◌then◌else◌}
use Rattle.std.specs.List.{AllByRecursion}
use Rattle.std.specs.Option.{IfSome, option_to_list}
use Rattle.std.proofs.lemmas.List.{map-append}
use Rattle.plain_data.specs.ByName.{map_values}
use Rattle.cwl_process.specs.declared.tool.SecondaryFile.{SecondaryFile}
use Rattle.cwl_value.proofs.Induction.{Cases, induction}
use Rattle.cwl_value.specs.Secondary.{is_new, are_distinct}
use Rattle.cwl_value.specs.declared.place.Place.{Place}
use Rattle.cwl_value.specs.declared.place.Place.TheVariants.{Nowhere, Url, Path, Made}
use Rattle.cwl_value.specs.declared.value.Value.{Value, out-Value, the_lemmas}
use Rattle.cwl_value.specs.declared.value.Value as value
use Rattle.cwl_value.specs.declared.value.Value.TheOpen.{FileVal-F, DirVal-F}
use Rattle.cwl_value.specs.declared.value.FileVal.{FileVal, out-FileVal, roll-FileVal}
use Rattle.cwl_value.specs.declared.value.DirVal.{DirVal, out-DirVal, roll-DirVal}
use Rattle.file_values.specs.Names.{secondary_name}
use Rattle.staging.proofs.Greedy.{both, both_first, both_second}
use Rattle.collected_outputs.specs.Beside.{added, added_at, file_beside, all_beside, one_beside, with_beside, is_there, stands, beside}
use Rattle.collected_outputs.specs.Gives.{Gives, and_map, and_then, all_given}
use Rattle.collected_outputs.specs.Laws.{all_scanned}
use Rattle.collected_outputs.specs.Listing.{Listing}
use Rattle.collected_outputs.specs.Matched.{Name}
use Rattle.collected_outputs.specs.Object.{Named, placed, file_placed, dir_placed, relative_name, named, file_apart, file_in, file_level as level_of_file, dir_of, dir_in, dir_level as level_of_dir, entries_apart, all_named, written}
use Rattle.collected_outputs.specs.Checked.{every}
use Rattle.collected_outputs.specs.Values.{basename_of, value_under}
use Rattle.collected_outputs.specs.declared.fault.CollectFault.TheVariants.{SecondaryAbsent, BadOutputObject}
use Rattle.collected_outputs.proofs.Throughout.{seen_file, list_passes, fields_pass, file_value, dir_value, file_level, dir_level}
use Rattle.collected_outputs.proofs.Scanned.{T, Ts, F, D, file, dir, parts, dir_parts, of_dir, of_list, of_map, of_null, under, as_list, all_append, all_pass_on, each_passes}

module _ (listing : Listing) where
  -- files beside a File

  with_more : (f : FileVal) (vs : List Value) → F listing f → Ts listing vs → F listing (with_beside f vs)
  with_more f vs h more =
      let test : Bool = file listing (seen_file (file listing) (dir listing) (out-FileVal f)) in
      let here = sym (parts listing f) ∙ h in
      file_level (file listing) (dir listing) (record (out-FileVal f) { secondary = (out-FileVal f).secondary ++ vs })
      ∙ both test (every (map (all_scanned listing) ((out-FileVal f).secondary ++ vs))) (both_first test (every (map (all_scanned listing) (out-FileVal f).secondary)) here)
      (ap every (map-append (all_scanned listing) (out-FileVal f).secondary vs)
      ∙ all_append (map (all_scanned listing) (out-FileVal f).secondary) (map (all_scanned listing) vs) (both_second test (every (map (all_scanned listing) (out-FileVal f).secondary)) here) more)

  one_added : (f : FileVal) (required : Bool) (primary name : Name) → F listing f → IfOk (added listing f required primary name) (F listing)
  one_added f required primary name h = by (is_there listing primary name) (stands name f) required where
    by : (there stands required : Bool)
        → IfOk (if there then Ok (if stands then f else with_beside f (option_to_list (value_under listing (beside primary name)))) else (if required then Err SecondaryAbsent else Ok f)) (F listing)
    by true true required = h
    by true false required = with_more f (option_to_list (value_under listing (beside primary name))) h (as_list listing (value_under listing (beside primary name)) (under listing (beside primary name)))
    by false stands true = tt
    by false stands false = h

  at_place : (f : FileVal) (declared : SecondaryFile) (p : Place) → F listing f → IfOk (added_at listing f declared p) (F listing)
  at_place f declared Nowhere h = h
  at_place f declared (Url primary) h = one_added f declared.required primary (secondary_name declared.pattern (basename_of primary)) h
  at_place f declared (Path path) h = h
  at_place f declared (Made job name) h = h

  then_more : (r : Gives FileVal) (next : FileVal → Gives FileVal) → IfOk r (F listing) → ((f : FileVal) → F listing f → IfOk (next f) (F listing)) → IfOk (and_then r next) (F listing)
  then_more (Ok f) next h on = on f h
  then_more (Err fault) next h on = tt

  file_more : (declared : List SecondaryFile) (f : FileVal) → F listing f → IfOk (file_beside listing declared f) (F listing)
  file_more [] f h = h
  file_more (one ∷ more) f h = then_more (added_at listing f one (out-FileVal f).place) (file_beside listing more) (at_place f one (out-FileVal f).place h) (file_more more)

  same : (v : Value) (r : Gives Value) → r ≡ Ok v → T listing v → IfOk r (T listing)
  same v r is h = subst (λ (r : Gives Value). IfOk r (T listing)) (sym is) h

  one_more : (declared : List SecondaryFile) (v : Value) → T listing v → IfOk (one_beside listing declared v) (T listing)
  one_more declared = induction cases where
    of_a_file : (f : FileVal) → T listing (value.FileVal f) → IfOk (one_beside listing declared (value.FileVal f)) (T listing)
    of_a_file f h =
        let is : one_beside listing declared (value.FileVal f) ≡ and_map value.FileVal (file_beside listing declared f) = search (rules, the_lemmas) in
        subst (λ (r : Gives Value). IfOk r (T listing)) (sym is) (of_map listing (file_beside listing declared f) (file_more declared f (sym (file_value (file listing) (dir listing) f) ∙ h)))

    cases : Cases (λ v. T listing v → IfOk (one_beside listing declared v) (T listing)) (λ f. Unit {0}) (λ d. Unit {0})
    cases = record {
      null = λ h. same value.Null _ (search (rules, the_lemmas)) h;
      boolean = λ b h. same (value.Bool b) _ (search (rules, the_lemmas)) h;
      whole = λ n h. same (value.Whole n) _ (search (rules, the_lemmas)) h;
      text = λ s h. same (value.Text s) _ (search (rules, the_lemmas)) h;
      file = λ f one h. of_a_file f h;
      dir = λ d one h. same (value.DirVal d) _ (search (rules, the_lemmas)) h;
      list = λ vs each h. same (value.List vs) _ (search (rules, the_lemmas)) h;
      fields = λ es each h. same (value.Fields es) _ (search (rules, the_lemmas)) h;
      a_file = λ f each. tt;
      a_dir = λ d each. tt;
    }

  of_items : (r : Gives (List Value)) → IfOk r (Ts listing) → IfOk (and_map value.List r) (T listing)
  of_items (Ok vs) h = of_list listing vs h
  of_items (Err fault) h = tt

  pub all_more : (declared : List SecondaryFile) (v : Value) → T listing v → IfOk (all_beside listing declared v) (T listing)
  all_more declared = induction cases where
    alone : (v : Value) → all_beside listing declared v ≡ one_beside listing declared v → T listing v → IfOk (all_beside listing declared v) (T listing)
    alone v is h = subst (λ (r : Gives Value). IfOk r (T listing)) (sym is) (one_more declared v h)

    of_a_list : (vs : List Value) → T listing (value.List vs) → IfOk (all_beside listing declared (value.List vs)) (T listing)
    of_a_list vs h =
        let is : all_beside listing declared (value.List vs) ≡ and_map value.List (all_given (map (one_beside listing declared) vs)) = search (rules, the_lemmas) in
        subst (λ (r : Gives Value). IfOk r (T listing)) (sym is)
        (of_items (all_given (map (one_beside listing declared) vs)) (all_pass_on listing (one_beside listing declared) vs (each_passes listing (one_beside listing declared) (one_more declared) vs (sym (list_passes (file listing) (dir listing) vs) ∙ h))))

    cases : Cases (λ v. T listing v → IfOk (all_beside listing declared v) (T listing)) (λ f. Unit {0}) (λ d. Unit {0})
    cases = record {
      null = λ h. alone value.Null (search (rules, the_lemmas)) h;
      boolean = λ b h. alone (value.Bool b) (search (rules, the_lemmas)) h;
      whole = λ n h. alone (value.Whole n) (search (rules, the_lemmas)) h;
      text = λ s h. alone (value.Text s) (search (rules, the_lemmas)) h;
      file = λ f one h. alone (value.FileVal f) (search (rules, the_lemmas)) h;
      dir = λ d one h. alone (value.DirVal d) (search (rules, the_lemmas)) h;
      list = λ vs each h. of_a_list vs h;
      fields = λ es each h. alone (value.Fields es) (search (rules, the_lemmas)) h;
      a_file = λ f each. tt;
      a_dir = λ d each. tt;
    }

  -- values of the object

  abbrev P : Value → Type 0
  P v = IfOk (placed listing v) (T listing)

  abbrev Q : FileVal → Type 0
  Q f = IfOk (file_placed listing f) (F listing)

  abbrev R : DirVal → Type 0
  R d = IfOk (dir_placed listing d) (D listing)

  file_of : (v : Value) → T listing v → IfOk (level_of_file (out-Value v)) (F listing)
  file_of = induction cases where
    cases : Cases (λ v. T listing v → IfOk (level_of_file (out-Value v)) (F listing)) (λ f. Unit {0}) (λ d. Unit {0})
    cases = record {
      null = λ h. search (rules, the_lemmas);
      boolean = λ b h. search (rules, the_lemmas);
      whole = λ n h. search (rules, the_lemmas);
      text = λ s h. search (rules, the_lemmas);
      file = λ f one h. (let is : level_of_file (out-Value (value.FileVal f)) ≡ Ok f = search (rules, the_lemmas) in subst (λ (r : Gives FileVal). IfOk r (F listing)) (sym is) (sym (file_value (file listing) (dir listing) f) ∙ h));
      dir = λ d one h. search (rules, the_lemmas);
      list = λ vs each h. search (rules, the_lemmas);
      fields = λ es each h. search (rules, the_lemmas);
      a_file = λ f each. tt;
      a_dir = λ d each. tt;
    }

  dir_from : (v : Value) → T listing v → IfOk (level_of_dir (out-Value v)) (D listing)
  dir_from = induction cases where
    cases : Cases (λ v. T listing v → IfOk (level_of_dir (out-Value v)) (D listing)) (λ f. Unit {0}) (λ d. Unit {0})
    cases = record {
      null = λ h. search (rules, the_lemmas);
      boolean = λ b h. search (rules, the_lemmas);
      whole = λ n h. search (rules, the_lemmas);
      text = λ s h. search (rules, the_lemmas);
      file = λ f one h. search (rules, the_lemmas);
      dir = λ d one h. (let is : level_of_dir (out-Value (value.DirVal d)) ≡ Ok d = search (rules, the_lemmas) in subst (λ (r : Gives DirVal). IfOk r (D listing)) (sym is) (sym (dir_value (file listing) (dir listing) d) ∙ h));
      list = λ vs each h. search (rules, the_lemmas);
      fields = λ es each h. search (rules, the_lemmas);
      a_file = λ f each. tt;
      a_dir = λ d each. tt;
    }

  file_under : (o : Option Value) → IfSome o (T listing) → IfOk (file_in o) (F listing)
  file_under None h = tt
  file_under (Some v) h = file_of v h

  dir_under : (o : Option Value) → IfSome o (T listing) → IfOk (dir_in o) (D listing)
  dir_under None h = tt
  dir_under (Some v) h = dir_from v h

  file_named : (basename : Name) (others : List Value) (f : FileVal) → Ts listing others → F listing f → F listing (roll-FileVal (record (out-FileVal f) { basename = Some basename; secondary = others }))
  file_named basename others f beside h =
      let test : Bool = file listing (seen_file (file listing) (dir listing) (out-FileVal f)) in
      file_level (file listing) (dir listing) (record (out-FileVal f) { basename = Some basename; secondary = others })
      ∙ both test (every (map (all_scanned listing) others)) (both_first test (every (map (all_scanned listing) (out-FileVal f).secondary)) (sym (parts listing f) ∙ h)) beside

  dir_named : (basename : Name) (d : DirVal) → D listing d → D listing (roll-DirVal (record (out-DirVal d) { basename = Some basename }))
  dir_named basename d h = dir_level (file listing) (dir listing) (record (out-DirVal d) { basename = Some basename }) ∙ (sym (dir_parts listing d) ∙ h)

  apart : (name basename : Name) (others : List Value) → Ts listing others → IfOk (file_apart listing name basename others) (F listing)
  apart name basename others beside = by (is_new (Some basename) others && are_distinct others) (file_in (value_under listing name)) (file_under (value_under listing name) (under listing name)) where
    by : (b : Bool) (r : Gives FileVal) → IfOk r (F listing)
        → IfOk (if b then and_map (λ f. roll-FileVal (record (out-FileVal f) { basename = Some basename; secondary = others })) r else Err BadOutputObject) (F listing)
    by true (Ok f) h = file_named basename others f beside h
    by true (Err fault) h = tt
    by false r h = tt

  of_dir_named : (basename : Name) (o : Option Value) → IfSome o (T listing) → IfOk (dir_of basename o) (D listing)
  of_dir_named basename o h = by (dir_in o) (dir_under o h) where
    by : (r : Gives DirVal) → IfOk r (D listing) → IfOk (and_map (λ d. roll-DirVal (record (out-DirVal d) { basename = Some basename })) r) (D listing)
    by (Ok d) k = dir_named basename d k
    by (Err fault) k = tt

  a_file : (f : FileVal-F Value DirVal FileVal) → AllByRecursion P f.secondary → Q (roll-FileVal f)
  a_file f each =
      let is : file_placed listing (roll-FileVal f) ≡ and_then (relative_name f.place) (λ name. and_then (all_given (map (placed listing) f.secondary)) (file_apart listing name (named f.basename name))) = search (rules, the_lemmas) in
      subst (λ (r : Gives FileVal). IfOk r (F listing)) (sym is) (by (relative_name f.place) (all_given (map (placed listing) f.secondary)) (all_pass_on listing (placed listing) f.secondary each)) where
        by : (name : Gives Name) (others : Gives (List Value)) → IfOk others (Ts listing) → IfOk (and_then name (λ n. and_then others (file_apart listing n (named f.basename n)))) (F listing)
        by (Ok name) (Ok others) h = apart name (named f.basename name) others h
        by (Ok name) (Err fault) h = tt
        by (Err fault) others h = tt

  a_dir : (d : DirVal-F Value DirVal FileVal) → IfSome d.listing (AllByRecursion P) → R (roll-DirVal d)
  a_dir d each =
      let is : dir_placed listing (roll-DirVal d) ≡ and_then (relative_name d.place) (λ name. and_then (entries_apart (option_map (map (placed listing)) d.listing)) (λ vs. dir_of (named d.basename name) (value_under listing name))) = search (rules, the_lemmas) in
      subst (λ (r : Gives DirVal). IfOk r (D listing)) (sym is) (by (relative_name d.place) (entries_apart (option_map (map (placed listing)) d.listing))) where
        by : (name : Gives Name) (entries : Gives (List Value)) → IfOk (and_then name (λ n. and_then entries (λ vs. dir_of (named d.basename n) (value_under listing n)))) (D listing)
        by (Ok name) (Ok vs) = of_dir_named (named d.basename name) (value_under listing name) (under listing name)
        by (Ok name) (Err fault) = tt
        by (Err fault) entries = tt

  abbrev flags : Named → List Bool
  flags es = map (λ (e : Name × Bool). e.1) (map_values (all_scanned listing) es)

  of_fields : (es : Named) → AllByRecursion (λ (e : Name × Value). P e.1) es → IfOk (all_named (map_values (placed listing) es)) (λ fs. every (flags fs) ≡ true)
  of_fields [] each = refl
  of_fields (e ∷ es) each = by (placed listing e.1) (all_named (map_values (placed listing) es)) each.0 (of_fields es each.1) where
    by : (here : Gives Value) (rest : Gives Named) → IfOk here (T listing) → IfOk rest (λ fs. every (flags fs) ≡ true)
        → IfOk (and_then (and_map (λ v. (e.0, v)) here) (λ f. and_map (λ fs. f ∷ fs) rest)) (λ fs. every (flags fs) ≡ true)
    by (Ok v) (Ok fs) h k = both (all_scanned listing v) (every (flags fs)) h k
    by (Ok v) (Err fault) h k = tt
    by (Err fault) rest h k = tt

  of_dir_map : (r : Gives DirVal) → IfOk r (D listing) → IfOk (and_map value.DirVal r) (T listing)
  of_dir_map (Ok d) h = of_dir listing d h
  of_dir_map (Err fault) h = tt

  of_named : (r : Gives Named) → IfOk r (λ fs. every (flags fs) ≡ true) → IfOk (and_map value.Fields r) (T listing)
  of_named (Ok fs) h = fields_pass (file listing) (dir listing) fs ∙ h
  of_named (Err fault) h = tt

  cases : Cases P Q R
  cases = record {
    null = same value.Null _ (search (rules, the_lemmas)) (of_null listing);
    boolean = λ b. same (value.Bool b) _ (search (rules, the_lemmas)) (search (rules, the_lemmas));
    whole = λ n. same (value.Whole n) _ (search (rules, the_lemmas)) (search (rules, the_lemmas));
    text = λ s. same (value.Text s) _ (search (rules, the_lemmas)) (search (rules, the_lemmas));
    file = λ f one. (let is : placed listing (value.FileVal f) ≡ and_map value.FileVal (file_placed listing f) = search (rules, the_lemmas) in subst (λ (r : Gives Value). IfOk r (T listing)) (sym is) (of_map listing (file_placed listing f) one));
    dir = λ d one. (let is : placed listing (value.DirVal d) ≡ and_map value.DirVal (dir_placed listing d) = search (rules, the_lemmas) in subst (λ (r : Gives Value). IfOk r (T listing)) (sym is) (of_dir_map (dir_placed listing d) one));
    list = λ vs each. (let is : placed listing (value.List vs) ≡ and_map value.List (all_given (map (placed listing) vs)) = search (rules, the_lemmas) in subst (λ (r : Gives Value). IfOk r (T listing)) (sym is) (of_items (all_given (map (placed listing) vs)) (all_pass_on listing (placed listing) vs each)));
    fields = λ es each. (let is : placed listing (value.Fields es) ≡ and_map value.Fields (all_named (map_values (placed listing) es)) = search (rules, the_lemmas) in subst (λ (r : Gives Value). IfOk r (T listing)) (sym is) (of_named (all_named (map_values (placed listing) es)) (of_fields es each)));
    a_file = a_file;
    a_dir = a_dir;
  }

  pub of_written : (o : Option Value) → IfOk (written listing o) (T listing)
  of_written None = of_null listing
  of_written (Some v) = induction cases v
