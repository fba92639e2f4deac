-- No default of a process that was read from documents holds a File or Directory that a job made.
use Rattle.std.proofs.Common.{◌≡◌, ◌∙◌, ℕ, ℤ, List, [], ◌∷◌, map, Bool, true, false, if◌then◌else◌, bytes_eq, codes, Option, Some, None, Result, Ok, Err, option_map, refl, sym, subst, rules}
use Rattle.std.specs.Prelude.{IfOk, IfSome, nat_le, option_and_then}
use Rattle.std.specs.List.{AllByRecursion, list_any}
use Rattle.std.specs.Option.{option_map_or}
use Rattle.serde_json.specs.Data.{Data, null, boolean, number, string, array, object, Items, no_items, item, Members, no_members, member, depth}
use Rattle.serde_json.specs.Find.{as_i64, get, is_float}
use Rattle.url.specs.Parts.{Parts}
use Rattle.plain_data.specs.ByName.{map_values, value_at}
use Rattle.cwl_value.proofs.Induction.{Cases, induction}
use Rattle.cwl_value.specs.Reading as read
use Rattle.cwl_value.specs.Reading.{Reads, all_read, basename_read, class_in, dir_read, field, fields_read, file_form, file_read, greatest_depth, items_read, list_form, list_read, listing_read, members_read, object_read, place_read, placed_read, reading, secondary_read, summed_read, text_form, value_read, whole_form}
use Rattle.cwl_value.specs.Secondary.{fit_beside, fit_inside}
use Rattle.cwl_value.specs.Texts.{ReadsAs, as_json, not_json}
use Rattle.cwl_value.specs.declared.place.Place.{Place}
use Rattle.cwl_value.specs.declared.place.Place.TheVariants as place
use Rattle.cwl_value.specs.declared.refusal.FileField.{FileField}
use Rattle.cwl_value.specs.declared.refusal.FileField.TheVariants.{Location, Path, SecondaryFiles, Listing}
use Rattle.cwl_value.specs.declared.value.Value.{Value, out-Value, the_lemmas}
use Rattle.cwl_value.specs.declared.value.Value as value
use Rattle.cwl_value.specs.declared.value.Value.TheOpen.{Value-F, FileVal-F, DirVal-F}
use Rattle.cwl_value.specs.declared.value.FileVal.{FileVal, roll-FileVal}
use Rattle.cwl_value.specs.declared.value.DirVal.{DirVal, roll-DirVal}
use Rattle.file_values.specs.Location.{Finds, located, placed}
use Rattle.file_values.specs.Location as location
use Rattle.file_values.specs.Resolved.{all_found, dir_level, dir_resolved, distinct_beside, distinct_inside, differ_beside, fields_found, file_at, file_level, file_resolved, has_long, listing_resolved, named, place_resolved, resolved}
use Rattle.cwl_value.specs.Secondary.{are_distinct}
use Rattle.document_table.specs.Entries.{entries}
use Rattle.document_table.specs.Packed.{root_of}
use Rattle.document_table.specs.declared.form.Kind.{Kind}
use Rattle.document_table.specs.declared.form.Kind.TheVariants as kind
use Rattle.cwl_process.specs.Parameters.{default_at, if_read, tool_input_in, workflow_input_in}
use Rattle.cwl_process.specs.Tools.{entries_at, tool_in}
use Rattle.cwl_process.specs.Workflows.{step_input_in, step_parts_in}
use Rattle.cwl_process.specs.declared.tool.Asked.{Asked}
use Rattle.document_links.specs.Defaults.{each_on, if_found, on_base, step_input_on, tool_input_on, tool_on, workflow_input_on}
use Rattle.document_links.specs.Library.{Documents}
use Rattle.document_links.specs.Library as library
use Rattle.document_links.specs.Homes.{Home, home}
use Rattle.document_links.specs.ProcessOf.{AreStepsOf, IsItsProcess, IsProcessOf, IsRunBy, embedded, item as by_item, named as by_name, no_step, one_step, tool, workflow}
use Rattle.document_links.specs.declared.process.Process.{Process}
use Rattle.document_links.specs.declared.process.Step.{Step}
use Rattle.document_links.specs.declared.process.Workflow.{roll-Workflow}
use Rattle.job_graph.specs.Words.{Name, Fields, JobPlace}
use Rattle.job_graph.specs.Made.{holds_made, is_of}
use Rattle.job_graph.specs.Makers.{AreUnmade, HasUnmadeDefaults, any_default, any_step_default, is_hit}
use Rattle.job_graph.proofs.laws_of_walks.Passed.{Each, EachField, EachUnder, Passes, all_map, if_under}
use Rattle.job_graph.proofs.laws_of_walks.PassedWalks.{tool_defaults, step_defaults, workflow_default, workflow_defaults}
use Rattle.job_graph.proofs.laws_of_walks.Held.{IsFree, IsFreeFile, IsFreeDir, Opened, a_dir, a_file, both_false, each_free, fields_free, level_listing, level_parts, free_passes, holds-DirVal, holds-Fields, holds-FileVal, holds-List, none_made, opens}

-- ---- what reading gives

if_one : {T E : Type 0} (Q : T → Type 0) (b : Bool) (r s : Result T E) → IfOk r Q → IfOk s Q → IfOk (if b then r else s) Q
if_one Q true r s one other = one
if_one Q false r s one other = other

read_then : {S T : Type 0} (R : S → Type 0) (Q : T → Type 0) (r : Reads S) (f : S → Reads T) → IfOk r R → ((x : S) → R x → IfOk (f x) Q) → IfOk (read.and_then r f) Q
read_then R Q (Ok x) f here next = next x here
read_then R Q (Err e) f here next = tt

read_map : {S T : Type 0} (R : S → Type 0) (Q : T → Type 0) (f : S → T) (r : Reads S) → IfOk r R → ((x : S) → R x → Q (f x)) → IfOk (read.and_map f r) Q
read_map R Q f (Ok x) here next = next x here
read_map R Q f (Err e) here next = tt

read_anything : {T : Type 0} (r : Reads T) → IfOk r (λ x. Unit {0})
read_anything (Ok x) = tt
read_anything (Err e) = tt

read_all : {T : Type 0} (Q : T → Type 0) (rs : List (Reads T)) → AllByRecursion (λ r. IfOk r Q) rs → IfOk (all_read rs) (AllByRecursion Q)
read_all Q [] all = tt
read_all Q (r ∷ rs) all =
    read_then Q (AllByRecursion Q) r (λ x. read.and_map (λ xs. x ∷ xs) (all_read rs)) all.0
    (λ x one. read_map (AllByRecursion Q) (AllByRecursion Q) (λ xs. x ∷ xs) (all_read rs) (read_all Q rs all.1) (λ xs rest. (one, rest)))

find_then : {S T : Type 0} (R : S → Type 0) (Q : T → Type 0) (r : Finds S) (f : S → Finds T) → IfOk r R → ((x : S) → R x → IfOk (f x) Q) → IfOk (location.and_then r f) Q
find_then R Q (Ok x) f here next = next x here
find_then R Q (Err e) f here next = tt

find_map : {S T : Type 0} (R : S → Type 0) (Q : T → Type 0) (f : S → T) (r : Finds S) → IfOk r R → ((x : S) → R x → Q (f x)) → IfOk (location.and_map f r) Q
find_map R Q f (Ok x) here next = next x here
find_map R Q f (Err e) here next = tt

find_anything : {T : Type 0} (r : Finds T) → IfOk r (λ x. Unit {0})
find_anything (Ok x) = tt
find_anything (Err e) = tt

find_all : {T : Type 0} (Q : T → Type 0) (rs : List (Finds T)) → AllByRecursion (λ r. IfOk r Q) rs → IfOk (all_found rs) (AllByRecursion Q)
find_all Q [] all = tt
find_all Q (r ∷ rs) all =
    find_then Q (AllByRecursion Q) r (λ x. location.and_map (λ xs. x ∷ xs) (all_found rs)) all.0
    (λ x one. find_map (AllByRecursion Q) (AllByRecursion Q) (λ xs. x ∷ xs) (all_found rs) (find_all Q rs all.1) (λ xs rest. (one, rest)))

module _ (job : JobPlace) where
  abbrev H : Value → Type 0
  H = IsFree job

  abbrev passes : Passes H
  passes = free_passes job

  abbrev IsElsewhere : Place → Type 0
  IsElsewhere place = is_of job place ≡ false

  -- ---- the value of JSON

  a_place : (location path : Option Data) → IfOk (place_read location path) IsElsewhere
  a_place (Some d) path = read_map (λ s. Unit {0}) IsElsewhere place.Url (text_form Location d) (read_anything (text_form Location d)) (λ s _. refl)
  a_place None (Some d) = read_map (λ s. Unit {0}) IsElsewhere place.Path (text_form Path d) (read_anything (text_form Path d)) (λ s _. refl)
  a_place None None = tt

  abbrev Stands : Place × Option Name → Type 0
  Stands placed = IsElsewhere placed.0

  with_name : (ms : Members) → IfOk (placed_read ms) Stands
  with_name ms =
      read_then IsElsewhere Stands (place_read (field (codes "location") ms) (field (codes "path") ms)) _ (a_place (field (codes "location") ms) (field (codes "path") ms))
      (λ place at. read_map (λ o. Unit {0}) Stands (λ basename. (place, basename)) (basename_read (field (codes "basename") ms)) (read_anything (basename_read (field (codes "basename") ms))) (λ o _. at))

  abbrev IfListed : Option (List Value) → Type 0
  IfListed o = IfSome o (Each H)

  list_of_form : (name : FileField) (x : Value-F Value DirVal FileVal) → Opened job x → IfOk (list_form name x) IfListed
  list_of_form name (Value-F.List vs) opened = opened
  list_of_form name _ opened = tt

  a_list : (name : FileField) (o : Option (Reads Value)) → IfSome o (λ r. IfOk r H) → IfOk (list_read name o) IfListed
  a_list name None there = tt
  a_list name (Some r) there = read_then H IfListed r (λ v. list_form name (out-Value v)) there (λ v free. list_of_form name (out-Value v) (opens job v free))

  beside : (name : Option Name) (o : Option (List Value)) → IfListed o → IfOk (secondary_read name o) (Each H)
  beside name None all = tt
  beside name (Some vs) all = if_one (Each H) (fit_beside name vs) (Ok vs) _ all tt

  inside : (o : Option (List Value)) → IfListed o → IfOk (listing_read o) IfListed
  inside None all = tt
  inside (Some vs) all = if_one IfListed (fit_inside vs) (Ok (Some vs)) _ all tt

  abbrev AreRead : List (Name × Reads Value) → Type 0
  AreRead reads = EachUnder (λ (r : Reads Value). IfOk r H) reads

  is_file : (ms : Members) (reads : List (Name × Reads Value)) → AreRead reads → IfOk (file_read ms reads) (IsFreeFile job)
  is_file ms reads all =
      read_then Stands (IsFreeFile job) (placed_read ms) _ (with_name ms) (λ placed at.
      read_then (λ s. Unit {0}) (IsFreeFile job) (summed_read ms) _ (read_anything (summed_read ms)) (λ summed _.
      read_then IfListed (IsFreeFile job) (list_read SecondaryFiles (value_at (codes "secondaryFiles") reads)) (file_form placed summed)
      (a_list SecondaryFiles (value_at (codes "secondaryFiles") reads) (if_under (λ (r : Reads Value). IfOk r H) (codes "secondaryFiles") reads all))
      (λ listed there. read_map (Each H) (IsFreeFile job) _ (secondary_read placed.1 listed) (beside placed.1 listed there)
      (λ secondary each. a_file job (record { place = placed.0; basename = placed.1; checksum = summed.0; size = summed.1; contents = None; secondary = secondary }) at each))))

  is_dir : (ms : Members) (reads : List (Name × Reads Value)) → AreRead reads → IfOk (dir_read ms reads) (IsFreeDir job)
  is_dir ms reads all =
      read_then Stands (IsFreeDir job) (placed_read ms) _ (with_name ms) (λ placed at.
      read_then IfListed (IsFreeDir job) (list_read Listing (value_at (codes "listing") reads)) _
      (a_list Listing (value_at (codes "listing") reads) (if_under (λ (r : Reads Value). IfOk r H) (codes "listing") reads all))
      (λ listed there. read_map IfListed (IsFreeDir job) _ (listing_read listed) (inside listed there)
      (λ listing each. a_dir job (record { place = placed.0; basename = placed.1; listing = listing }) at each)))

  a_field : (e : Name × Reads Value) → IfOk e.1 H → IfOk (read.and_map (λ v. (e.0, v)) e.1) (λ (f : Name × Value). H f.1)
  a_field e one = read_map H (λ (f : Name × Value). H f.1) (λ v. (e.0, v)) e.1 one (λ v free. free)

  are_fields : (reads : List (Name × Reads Value)) → AreRead reads → IfOk (fields_read reads) (EachField H)
  are_fields reads all =
      read_all (λ (f : Name × Value). H f.1) (map (λ e. read.and_map (λ v. (e.0, v)) e.1) reads)
      (all_map (λ (e : Name × Reads Value). read.and_map (λ v. (e.0, v)) e.1) (λ e. IfOk e.1 H) (λ r. IfOk r (λ (f : Name × Value). H f.1)) a_field reads all)

  an_object : (ms : Members) (reads : List (Name × Reads Value)) → AreRead reads → IfOk (object_read ms reads) H
  an_object ms reads all =
      if_one H (bytes_eq (class_in ms) (codes "File")) (read.and_map value.FileVal (file_read ms reads)) _
      (read_map (IsFreeFile job) H value.FileVal (file_read ms reads) (is_file ms reads all) (λ f free. holds-FileVal job f ∙ free))
      (if_one H (bytes_eq (class_in ms) (codes "Directory")) (read.and_map value.DirVal (dir_read ms reads)) (read.and_map value.Fields (fields_read reads))
      (read_map (IsFreeDir job) H value.DirVal (dir_read ms reads) (is_dir ms reads all) (λ d free. holds-DirVal job d ∙ free))
      (read_map (EachField H) H value.Fields (fields_read reads) (are_fields reads all) (λ fields each. passes.fields fields each)))

  a_whole : (o : Option ℤ) (b : Bool) → IfOk (whole_form o b) H
  a_whole (Some z) b = passes.whole z
  a_whole None true = tt
  a_whole None false = tt

  a_bool : (b : Bool) → H (value.Bool b)
  a_bool b = search (rules, the_lemmas)

  mutual
    is_read : (d : Data) → IfOk (value_read d) H
    is_read null = passes.nothing
    is_read (boolean b) = a_bool b
    is_read (number n) = a_whole (as_i64 n) (is_float n)
    is_read (string s) = passes.text s
    is_read (array ds) = read_map (Each H) H value.List (all_read (items_read ds)) (read_all H (items_read ds) (are_read ds)) (λ vs each. passes.list vs each)
    is_read (object ms) = an_object ms (members_read ms) (members_are ms)

    are_read : (ds : Items) → AllByRecursion (λ r. IfOk r H) (items_read ds)
    are_read no_items = tt
    are_read (item d ds) = (is_read d, are_read ds)

    members_are : (ms : Members) → AreRead (members_read ms)
    members_are no_members = tt
    members_are (member k d ms) = (is_read d, members_are ms)

  -- ---- at paths

  module _ (base : Parts) where
    a_path : (place : Place) → IsElsewhere place → IfOk (place_resolved base place) IsElsewhere
    a_path place.Nowhere at = refl
    a_path (place.Url name) at = find_map (λ s. Unit {0}) IsElsewhere place.Path (located base name) (find_anything (located base name)) (λ s _. refl)
    a_path (place.Path path) at = find_map (λ s. Unit {0}) IsElsewhere place.Path (placed base path) (find_anything (placed base path)) (λ s _. refl)
    a_path (place.Made maker name) at = at

    abbrev Resolves : Value → Type 0
    Resolves v = H v → IfOk (resolved base v) H

    found_all : (vs : List Value) → AllByRecursion Resolves vs → Each H vs → AllByRecursion (λ r. IfOk r H) (map (resolved base) vs)
    found_all [] stay all = tt
    found_all (v ∷ vs) stay all = (stay.0 all.0, found_all vs stay.1 all.1)

    found_fields : (es : Fields) → AllByRecursion (λ (e : Name × Value). Resolves e.1) es → EachField H es
        → AllByRecursion (λ r. IfOk r (λ (f : Name × Value). H f.1)) (map (λ e. location.and_map (λ v. (e.0, v)) e.1) (map_values (resolved base) es))
    found_fields [] stay all = tt
    found_fields (e ∷ es) stay all =
        (find_map H (λ (f : Name × Value). H f.1) (λ v. (e.0, v)) (resolved base e.1) (stay.0 all.0) (λ v free. free), found_fields es stay.1 all.1)

    resolved-FileVal : (f : FileVal) → resolved base (value.FileVal f) ≡ location.and_map value.FileVal (file_resolved base f)
    resolved-FileVal f = search (rules, the_lemmas)

    resolved-DirVal : (d : DirVal) → resolved base (value.DirVal d) ≡ location.and_map value.DirVal (dir_resolved base d)
    resolved-DirVal d = search (rules, the_lemmas)

    resolved-List : (vs : List Value) → resolved base (value.List vs) ≡ location.and_map value.List (all_found (map (resolved base) vs))
    resolved-List vs = search (rules, the_lemmas)

    resolved-Fields : (es : Fields) → resolved base (value.Fields es) ≡ location.and_map value.Fields (fields_found (map_values (resolved base) es))
    resolved-Fields es = search (rules, the_lemmas)

    resolved-file : (f : FileVal-F Value DirVal FileVal) → file_resolved base (roll-FileVal f)
        ≡ file_level base (record { place = f.place; basename = f.basename; checksum = f.checksum; size = f.size; contents = f.contents; secondary = map (resolved base) f.secondary })
    resolved-file f = search (rules, the_lemmas)

    resolved-dir : (d : DirVal-F Value DirVal FileVal) → dir_resolved base (roll-DirVal d)
        ≡ dir_level base (record { place = d.place; basename = d.basename; listing = option_map (map (resolved base)) d.listing })
    resolved-dir d = search (rules, the_lemmas)

    found_listing : (o : Option (List Value)) → IfSome o (AllByRecursion Resolves) → IfListed o → IfOk (listing_resolved (option_map (map (resolved base)) o)) IfListed
    found_listing None stay all = tt
    found_listing (Some vs) stay all =
        find_map (Each H) IfListed Some (location.and_then (all_found (map (resolved base) vs)) distinct_inside)
        (find_then (Each H) (Each H) (all_found (map (resolved base) vs)) distinct_inside (find_all H (map (resolved base) vs) (found_all vs stay all))
        (λ ws each. if_one (Each H) (are_distinct ws) (Ok ws) _ each tt))
        (λ ws each. each)

    a_file_found : (f : FileVal-F Value DirVal FileVal) → AllByRecursion Resolves f.secondary → IsFreeFile job (roll-FileVal f) → IfOk (file_resolved base (roll-FileVal f)) (IsFreeFile job)
    a_file_found f stay free =
        let parts : (is_of job f.place ≡ false) × Each H f.secondary = level_parts job f free in
        subst (λ (r : Finds FileVal). IfOk r (IsFreeFile job)) (sym (resolved-file f))
        (find_then IsElsewhere (IsFreeFile job) (place_resolved base f.place) _ (a_path f.place parts.0) (λ place at.
        find_then (λ s. Unit {0}) (IsFreeFile job) (named f.basename place) _ (find_anything (named f.basename place)) (λ name _.
        find_then (Each H) (IsFreeFile job) (all_found (map (resolved base) f.secondary)) (file_at f.checksum f.size f.contents place name)
        (find_all H (map (resolved base) f.secondary) (found_all f.secondary stay parts.1))
        (λ found each. find_map (Each H) (IsFreeFile job) _ (distinct_beside name found) (if_one (Each H) (differ_beside name found) (Ok found) _ each tt)
        (λ secondary all. a_file job (record { place = place; basename = Some name; checksum = f.checksum; size = f.size; contents = f.contents; secondary = secondary }) at all)))))

    a_dir_found : (d : DirVal-F Value DirVal FileVal) → IfSome d.listing (AllByRecursion Resolves) → IsFreeDir job (roll-DirVal d) → IfOk (dir_resolved base (roll-DirVal d)) (IsFreeDir job)
    a_dir_found d stay free =
        let parts : (is_of job d.place ≡ false) × IfListed d.listing = level_listing job d free in
        subst (λ (r : Finds DirVal). IfOk r (IsFreeDir job)) (sym (resolved-dir d))
        (find_then IsElsewhere (IsFreeDir job) (place_resolved base d.place) _ (a_path d.place parts.0) (λ place at.
        find_then (λ s. Unit {0}) (IsFreeDir job) (named d.basename place) _ (find_anything (named d.basename place)) (λ name _.
        find_map IfListed (IsFreeDir job) _ (listing_resolved (option_map (map (resolved base)) d.listing)) (found_listing d.listing stay parts.1)
        (λ listing all. a_dir job (record { place = place; basename = Some name; listing = listing }) at all))))

    null_found : resolved base value.Null ≡ Ok value.Null
    null_found = search (rules, the_lemmas)

    bool_found : (b : Bool) → resolved base (value.Bool b) ≡ Ok (value.Bool b)
    bool_found b = search (rules, the_lemmas)

    whole_found : (n : ℤ) → resolved base (value.Whole n) ≡ Ok (value.Whole n)
    whole_found n = search (rules, the_lemmas)

    text_found : (s : List ℕ) → resolved base (value.Text s) ≡ Ok (value.Text s)
    text_found s = search (rules, the_lemmas)

    abbrev Good : Finds Value → Type 0
    Good r = IfOk r H

    resolving : Cases Resolves (λ f. IsFreeFile job f → IfOk (file_resolved base f) (IsFreeFile job)) (λ d. IsFreeDir job d → IfOk (dir_resolved base d) (IsFreeDir job))
    resolving = record {
      null = λ free. subst Good (sym null_found) free;
      boolean = λ b free. subst Good (sym (bool_found b)) free;
      whole = λ n free. subst Good (sym (whole_found n)) free;
      text = λ s free. subst Good (sym (text_found s)) free;
      file = λ f stays free. subst Good (sym (resolved-FileVal f))
          (find_map (IsFreeFile job) H value.FileVal (file_resolved base f) (stays (sym (holds-FileVal job f) ∙ free)) (λ g other. holds-FileVal job g ∙ other));
      dir = λ d stays free. subst Good (sym (resolved-DirVal d))
          (find_map (IsFreeDir job) H value.DirVal (dir_resolved base d) (stays (sym (holds-DirVal job d) ∙ free)) (λ e other. holds-DirVal job e ∙ other));
      list = λ vs stay free. subst Good (sym (resolved-List vs))
          (find_map (Each H) H value.List (all_found (map (resolved base) vs)) (find_all H (map (resolved base) vs) (found_all vs stay (each_free job vs (sym (holds-List job vs) ∙ free)))) (λ ws each. passes.list ws each));
      fields = λ es stay free. subst Good (sym (resolved-Fields es))
          (find_map (EachField H) H value.Fields (fields_found (map_values (resolved base) es))
          (find_all (λ (f : Name × Value). H f.1) (map (λ e. location.and_map (λ v. (e.0, v)) e.1) (map_values (resolved base) es)) (found_fields es stay (fields_free job es (sym (holds-Fields job es) ∙ free))))
          (λ fs each. passes.fields fs each));
      a_file = a_file_found;
      a_dir = a_dir_found;
    }

    is_resolved : (v : Value) → H v → IfOk (resolved base v) H
    is_resolved v = induction resolving v

    -- ---- defaults

    abbrev Hits : Option Value → Bool
    Hits o = is_hit (holds_made job) o

    if_ok : (r : Finds Value) → IfOk r H → Hits (if_found r) ≡ false
    if_ok (Ok v) free = free
    if_ok (Err fault) free = refl

    if_short : (b : Bool) (o : Option Value) → Hits o ≡ false → Hits (if b then None else o) ≡ false
    if_short true o none = refl
    if_short false o none = none

    from_json : (r : Reads Value) → IfOk r H → Hits (option_and_then (on_base base) (if_read r)) ≡ false
    from_json (Ok v) free = if_short (has_long base v) (if_found (resolved base v)) (if_ok (resolved base v) (is_resolved v free))
    from_json (Err fault) free = refl

    from_field : (o : Option Data) → Hits (option_and_then (on_base base) (option_and_then (λ v. if_read (reading v)) o)) ≡ false
    from_field None = refl
    from_field (Some d) = from_json (reading d) (if_one H (nat_le (depth d) greatest_depth) (value_read d) _ (is_read d) tt)

    a_default : (d : Data) → Hits (option_and_then (on_base base) (default_at d)) ≡ false
    a_default d = from_field (get (codes "default") d)

    module _ {T : Type 0} (on : Parts → T → T) (f : Data → T) (default : T → Option Value) (free : (d : Data) → Hits (default (on base (f d))) ≡ false) where
      of_entries : (es : List (Name × Data)) → list_any (λ i. Hits (default i.1)) (each_on on base (map (λ e. (e.0, f e.1)) es)) ≡ false
      of_entries [] = refl
      of_entries (e ∷ es) = both_false (Hits (default (on base (f e.1)))) (list_any (λ i. Hits (default i.1)) (each_on on base (map (λ e. (e.0, f e.1)) es))) (free e.1) (of_entries es)

      of_field : (form : Kind) (o : Option Data) → list_any (λ i. Hits (default i.1)) (each_on on base (option_map_or (λ v. map (λ e. (e.0, f e.1)) (entries form v)) o [])) ≡ false
      of_field form None = refl
      of_field form (Some v) = of_entries (entries form v)

      at_field : (form : Kind) (name : Name) (d : Data) → list_any (λ i. Hits (default i.1)) (each_on on base (entries_at form f name d)) ≡ false
      at_field form name d = of_field form (get name d)

    of_tool : (around : Asked) (d : Data) → list_any (λ i. Hits i.1.default) (tool_on base (tool_in around d)).inputs ≡ false
    of_tool around d = at_field tool_input_on tool_input_in (λ i. i.default) a_default kind.ToolInput (codes "inputs") d

    of_workflow : (d : Data) → list_any (λ i. Hits i.1.default) (each_on workflow_input_on base (entries_at kind.WorkflowInput workflow_input_in (codes "inputs") d)) ≡ false
    of_workflow d = at_field workflow_input_on workflow_input_in (λ i. i.default) a_default kind.WorkflowInput (codes "inputs") d

    of_step : (id : List ℕ) (d : Data) → list_any (λ i. Hits i.1.default) (each_on step_input_on base (step_parts_in id d).inputs) ≡ false
    of_step id d = at_field step_input_on (step_input_in id) (λ i. i.default) a_default kind.StepInput (codes "in") d

  -- ---- processes

  abbrev test : Value → Bool
  test = holds_made job

  module _ (find : library.Finds) where
    mutual
      is_unmade : (h : Home) (around : Asked) (d : Data) (p : Process) → IsProcessOf find h around d p → any_default test p ≡ false
      is_unmade h around d p (tool b a e is_tool placed) = tool_defaults test (tool_on b.url (tool_in a e)) ∙ of_tool b.url a e
      is_unmade h around d p (workflow b a e steps is_workflow placed are) =
          workflow_default test (roll-Workflow _) ∙ workflow_defaults test _ ∙ both_false _ _ (of_workflow b.url e) (steps_unmade b _ _ _ steps are)

      steps_unmade : (h : Home) (id : List ℕ) (around : Asked) (es : List (Name × Data)) (steps : List (Name × Step)) → AreStepsOf find h id around es steps
          → list_any (λ e. e.1) (map_values (any_step_default test) steps) ≡ false
      steps_unmade h id around es steps (no_step b i a) = refl
      steps_unmade h id around es steps (one_step b i a e run p ds others placed there by are) =
          both_false _ _ (step_defaults test _ ∙ both_false _ _ (of_step b.url i e.1) (run_unmade b _ run p by)) (steps_unmade b i a ds others are)

      run_unmade : (h : Home) (asked : Asked) (run : Data) (p : Process) → IsRunBy find h asked run p → any_default test p ≡ false
      run_unmade h asked run p (embedded b a r q none is) = is_unmade b a r q is
      run_unmade h asked run p (by_item b a r name i q text hash found sound is) = is_unmade b a i.process q is
      run_unmade h asked run p (by_name b a r name url d q text hash joined found is) = is_unmade (home url d) a (root_of d).process q is

pub defaults_unmade : (bytes : List ℕ) (base : Parts) (docs : Documents) (process : Process) → IsItsProcess bytes base docs process → HasUnmadeDefaults process
defaults_unmade bytes base docs process is = λ job. is_unmade job is.2.0 (home base is.0) _ (root_of is.0).process process is.2.2

-- ---- the input object

ok_is : {T E : Type 0} (Q : T → Type 0) (r : Result T E) (x : T) → r ≡ Ok x → IfOk r Q → Q x
ok_is {T} {E} Q r x is holds = subst (λ (s : Result T E). IfOk s Q) is holds

text_read : (job : JobPlace) (bytes : List ℕ) (r : Reads Value) → ReadsAs bytes r → IfOk r (IsFree job)
text_read job bytes r (not_json none) = tt
text_read job bytes r (as_json d utf8 is) = if_one (IsFree job) (nat_le (depth d) greatest_depth) (value_read d) _ (is_read job d) tt

pub inputs_unmade : (bytes : List ℕ) (base : Parts) (read : Value) (given : Fields) → ReadsAs bytes (Ok read) → resolved base read ≡ Ok (value.Fields given) → AreUnmade given
inputs_unmade bytes base read given is at = λ job.
    let whole : holds_made job (value.Fields given) ≡ false = ok_is (IsFree job) (resolved base read) (value.Fields given) at (is_resolved job base read (text_read job bytes (Ok read) is)) in
    none_made job given (fields_free job given (sym (holds-Fields job given) ∙ whole))
