-- The inputs with which a job is started stand nowhere in its own output folder: each File and Directory in them is at a path below the folder for
-- its inputs, and reading contents moves none.
use Rattle.std.specs.Prelude.{◌&&◌}
use Rattle.std.proofs.Common.{◌≡◌, ◌∙◌, ℕ, Bool, true, false, List, [], ◌∷◌, map, Option, Some, None, option_map, Ok, refl, sym, ap, subst, rules}
use Rattle.std.specs.List.{All, AllByRecursion}
use Rattle.std.specs.Map.{values_of}
use Rattle.std.specs.Option.{IfSome, option_map_or}
use Rattle.std.proofs.lemmas.List.Elements.{All-nil, All-cons, All-head, All-tail}
use Rattle.plain_data.specs.ByName.{map_values}
use Rattle.cwl_value.proofs.Induction.{Cases, induction}
use Rattle.cwl_value.specs.declared.place.Place.{Place}
use Rattle.cwl_value.specs.declared.place.Place.TheVariants.{Path}
use Rattle.cwl_value.specs.declared.value.Value.{Value, the_lemmas}
use Rattle.cwl_value.specs.declared.value.Value as value
use Rattle.cwl_value.specs.declared.value.Value.TheOpen.{FileVal-F, DirVal-F}
use Rattle.cwl_value.specs.declared.value.FileVal.{FileVal, roll-FileVal}
use Rattle.cwl_value.specs.declared.value.DirVal.{DirVal, roll-DirVal}
use Rattle.staging.specs.Groups.{FolderOf, path_in, name_of, copied, copied_file, copied_dir, items_moved, fields_moved}
use Rattle.staging.specs.Plan.{IsPlan, folder_path}
use Rattle.staging.specs.inner.Ways.{group_at}
use Rattle.staging.specs.declared.plan.StagePlan.{StagePlan}
use Rattle.staging.proofs.Greedy.{both}
use Rattle.staging.proofs.Moved.{list_moved, fields_moved_level, file_moved, dir_path, dir_moved}
use Rattle.input_files.specs.Contents.{Asked, Heads, asked_by, contents_fault, field_loaded, file_loaded, head_at, loads, text_of, unless_fault, value_loaded, with_contents}
use Rattle.input_files.specs.Given.{NamedInput, with_file, with_files}
use Rattle.input_files.specs.declared.fault.ContentsFault.{ContentsFault}
use Rattle.collected_outputs.specs.Checked.{every}
use Rattle.collected_outputs.specs.Throughout.{FileTest, DirTest, all_places}
use Rattle.collected_outputs.proofs.Throughout.{file_pass, dir_pass, list_passes, fields_pass, file_value, dir_value, file_level, dir_level}
use Rattle.job_reuse.specs.Left.{is_elsewhere}
use Rattle.job_graph.specs.Jobs.{Job}
use Rattle.job_graph.specs.Words.{Name, Fields, JobPlace}
use Rattle.run_rules.specs.declared.setting.Options.{Options}
use Rattle.run_rules.specs.Events.{Event, Work, input_heads_due, start_due}
use Rattle.run_rules.specs.StartsOn.{StartsOn, reads_on, has_launch, has_no_launch, has_no_contents}

-- each File and Directory in the values, at any depth, is at a place that is no name in the job's folder
abbrev pub Elsewhere : Fields → Type 0
Elsewhere fields = All (λ v. all_places is_elsewhere v ≡ true) (values_of fields)

-- ---- what is copied stands at a path, whatever place it had

moved_file_value : (folder_of : FolderOf) (f : FileVal) → (copied (value.FileVal f)).moved folder_of ≡ value.FileVal ((copied_file f).moved folder_of)
moved_file_value folder_of f = search (rules, the_lemmas)

moved_dir_value : (folder_of : FolderOf) (d : DirVal) → (copied (value.DirVal d)).moved folder_of ≡ value.DirVal ((copied_dir d).moved folder_of)
moved_dir_value folder_of d = search (rules, the_lemmas)

module _ (is : Place → Bool) (at_paths : (path : Name) → is (Path path) ≡ true) where
  abbrev on_file : FileTest
  on_file f = is f.place

  abbrev on_dir : DirTest
  on_dir d = is d.place

  abbrev Moved : Value → Type 0
  Moved v = (folder_of : FolderOf) → all_places is ((copied v).moved folder_of) ≡ true

  abbrev MovedFile : FileVal → Type 0
  MovedFile f = (folder_of : FolderOf) → file_pass on_file on_dir ((copied_file f).moved folder_of) ≡ true

  abbrev MovedDir : DirVal → Type 0
  MovedDir d = (folder_of : FolderOf) → dir_pass on_file on_dir ((copied_dir d).moved folder_of) ≡ true

  moved_items : (folder_of : FolderOf) (vs : List Value) → AllByRecursion Moved vs → every (map (all_places is) (items_moved folder_of vs)) ≡ true
  moved_items folder_of [] each = refl
  moved_items folder_of (v ∷ vs) each =
      both (all_places is ((copied v).moved folder_of)) (every (map (all_places is) (items_moved folder_of vs))) (each.0 folder_of) (moved_items folder_of vs each.1)

  abbrev flags : Fields → List Bool
  flags es = map (λ (e : Name × Bool). e.1) (map_values (all_places is) es)

  moved_in_fields : (folder_of : FolderOf) (es : Fields) → AllByRecursion (λ (e : Name × Value). Moved e.1) es → every (flags (fields_moved folder_of es)) ≡ true
  moved_in_fields folder_of [] each = refl
  moved_in_fields folder_of (e ∷ es) each =
      both (all_places is ((copied e.1).moved folder_of)) (every (flags (fields_moved folder_of es))) (each.0 folder_of) (moved_in_fields folder_of es each.1)

  moved_listing : (folder_of : FolderOf) (o : Option (List Value)) → IfSome o (AllByRecursion Moved) →
      option_map_or every (option_map (map (all_places is)) (option_map (items_moved folder_of) o)) true ≡ true
  moved_listing folder_of None each = refl
  moved_listing folder_of (Some vs) each = moved_items folder_of vs each

  moved_one_file : (f : FileVal-F Value DirVal FileVal) → AllByRecursion Moved f.secondary → MovedFile (roll-FileVal f)
  moved_one_file f each folder_of =
      let folder : List ℕ = folder_of (group_at (roll-FileVal f)) in
      let path : List ℕ = path_in folder (name_of f.basename) in
      let there : FileVal-F Value DirVal FileVal = record f { place = Path path; secondary = items_moved (λ _. folder) f.secondary } in
      ap (file_pass on_file on_dir) (file_moved folder_of (roll-FileVal f)) ∙ file_level on_file on_dir there
      ∙ both (is (Path path)) (every (map (all_places is) (items_moved (λ _. folder) f.secondary))) (at_paths path) (moved_items (λ _. folder) f.secondary each)

  moved_one_dir : (d : DirVal-F Value DirVal FileVal) → IfSome d.listing (AllByRecursion Moved) → MovedDir (roll-DirVal d)
  moved_one_dir d each folder_of =
      let path : List ℕ = dir_path folder_of (roll-DirVal d) in
      let there : DirVal-F Value DirVal FileVal = record d { place = Path path; listing = option_map (items_moved (λ _. path)) d.listing } in
      ap (dir_pass on_file on_dir) (dir_moved folder_of (roll-DirVal d)) ∙ dir_level on_file on_dir there
      ∙ both (is (Path path)) (option_map_or every (option_map (map (all_places is)) (option_map (items_moved (λ _. path)) d.listing)) true) (at_paths path)
      (moved_listing (λ _. path) d.listing each)

  moved_cases : Cases Moved MovedFile MovedDir
  moved_cases = record {
    null = λ folder_of. search (rules, the_lemmas);
    boolean = λ b folder_of. search (rules, the_lemmas);
    whole = λ n folder_of. search (rules, the_lemmas);
    text = λ s folder_of. search (rules, the_lemmas);
    file = λ f one folder_of. ap (all_places is) (moved_file_value folder_of f) ∙ file_value on_file on_dir ((copied_file f).moved folder_of) ∙ one folder_of;
    dir = λ d one folder_of. ap (all_places is) (moved_dir_value folder_of d) ∙ dir_value on_file on_dir ((copied_dir d).moved folder_of) ∙ one folder_of;
    list = λ vs each folder_of. ap (all_places is) (list_moved folder_of vs) ∙ list_passes on_file on_dir (items_moved folder_of vs) ∙ moved_items folder_of vs each;
    fields = λ es each folder_of. ap (all_places is) (fields_moved_level folder_of es) ∙ fields_pass on_file on_dir (fields_moved folder_of es) ∙ moved_in_fields folder_of es each;
    a_file = moved_one_file;
    a_dir = moved_one_dir;
  }

  pub moved_at_paths : (v : Value) (folder_of : FolderOf) → all_places is ((copied v).moved folder_of) ≡ true
  moved_at_paths = induction moved_cases

-- ---- contents change no place

module _ (is : Place → Bool) (heads : Heads) where
  abbrev file_test : FileTest
  file_test f = is f.place

  abbrev dir_test : DirTest
  dir_test d = is d.place

  -- with the contents of the File, or of the Files of the list
  record Keeps (v : Value) : Type 0 where
    one : all_places is (with_file (file_loaded heads) v) ≡ all_places is v
    all : all_places is (with_files (file_loaded heads) v) ≡ all_places is v

  kept_items : (vs : List Value) → AllByRecursion Keeps vs → every (map (all_places is) (map (with_file (file_loaded heads)) vs)) ≡ every (map (all_places is) vs)
  kept_items [] each = refl
  kept_items (v ∷ vs) each =
      ap (λ (b : Bool). b && every (map (all_places is) (map (with_file (file_loaded heads)) vs))) each.0.one ∙ ap (λ (b : Bool). all_places is v && b) (kept_items vs each.1)

  file_with_contents : (f : FileVal) → with_file (file_loaded heads) (value.FileVal f) ≡ value.FileVal (file_loaded heads f)
  file_with_contents f = search (rules, the_lemmas)

  files_with_contents : (f : FileVal) → with_files (file_loaded heads) (value.FileVal f) ≡ value.FileVal (file_loaded heads f)
  files_with_contents f = search (rules, the_lemmas)

  list_with_contents : (vs : List Value) → with_files (file_loaded heads) (value.List vs) ≡ value.List (map (with_file (file_loaded heads)) vs)
  list_with_contents vs = search (rules, the_lemmas)

  list_as_it_is : (vs : List Value) → with_file (file_loaded heads) (value.List vs) ≡ value.List vs
  list_as_it_is vs = search (rules, the_lemmas)

  as_it_is : (v : Value) → with_file (file_loaded heads) v ≡ v → with_files (file_loaded heads) v ≡ v → Keeps v
  as_it_is v one all = record { one = ap (all_places is) one; all = ap (all_places is) all }

  abbrev KeepsFile : FileVal → Type 0
  KeepsFile f = file_pass file_test dir_test (file_loaded heads f) ≡ file_pass file_test dir_test f

  kept_file : (f : FileVal) → KeepsFile f → Keeps (value.FileVal f)
  kept_file f same =
      let within : all_places is (value.FileVal (file_loaded heads f)) ≡ all_places is (value.FileVal f) =
      file_value file_test dir_test (file_loaded heads f) ∙ same ∙ sym (file_value file_test dir_test f) in
      record { one = ap (all_places is) (file_with_contents f) ∙ within; all = ap (all_places is) (files_with_contents f) ∙ within }

  kept_one_file : (f : FileVal-F Value DirVal FileVal) → AllByRecursion Keeps f.secondary → KeepsFile (roll-FileVal f)
  kept_one_file f each =
      let loaded : FileVal-F Value DirVal FileVal = record f { contents = text_of (head_at heads f.place) } in
      file_level file_test dir_test loaded ∙ sym (file_level file_test dir_test f)

  kept_list : (vs : List Value) → AllByRecursion Keeps vs → Keeps (value.List vs)
  kept_list vs each = record {
    one = ap (all_places is) (list_as_it_is vs);
    all = ap (all_places is) (list_with_contents vs) ∙ list_passes file_test dir_test (map (with_file (file_loaded heads)) vs) ∙ kept_items vs each ∙ sym (list_passes file_test dir_test vs);
  }

  kept_cases : Cases Keeps KeepsFile (λ d. Unit {0})
  kept_cases = record {
    null = as_it_is value.Null (search (rules, the_lemmas)) (search (rules, the_lemmas));
    boolean = λ b. as_it_is (value.Bool b) (search (rules, the_lemmas)) (search (rules, the_lemmas));
    whole = λ n. as_it_is (value.Whole n) (search (rules, the_lemmas)) (search (rules, the_lemmas));
    text = λ s. as_it_is (value.Text s) (search (rules, the_lemmas)) (search (rules, the_lemmas));
    file = kept_file;
    dir = λ d _. as_it_is (value.DirVal d) (search (rules, the_lemmas)) (search (rules, the_lemmas));
    list = kept_list;
    fields = λ es each. as_it_is (value.Fields es) (search (rules, the_lemmas)) (search (rules, the_lemmas));
    a_file = kept_one_file;
    a_dir = λ d each. tt;
  }

  loaded_places : (asks : Bool) (v : Value) → all_places is (value_loaded asks heads v) ≡ all_places is v
  loaded_places true v = (induction kept_cases v).all
  loaded_places false v = refl

  abbrev AllAt : Fields → Type 0
  AllAt fields = All (λ v. all_places is v ≡ true) (values_of fields)

  abbrev At : Value → Type 0
  At v = all_places is v ≡ true

  pub loaded_at : (asked : Asked) (staged : Fields) → AllAt staged → AllAt (map (field_loaded asked heads) staged)
  loaded_at asked [] all = All-nil At
  loaded_at asked (e ∷ es) all =
      All-cons At (value_loaded (loads asked e.0) heads e.1) (values_of (map (field_loaded asked heads) es))
      (loaded_places (loads asked e.0) e.1 ∙ All-head At e.1 (values_of es) all)
      (loaded_at asked es (All-tail At e.1 (values_of es) all))

without_fault : (found : Option ContentsFault) (fields given : Fields) → unless_fault found fields ≡ Ok given → fields ≡ given
without_fault None fields given is = cc
without_fault (Some fault) fields given is = absurd cc

-- ---- so what a job is started with is elsewhere

fields_elsewhere : (folder_of : FolderOf) (es : Fields) → Elsewhere (fields_moved folder_of es)
fields_elsewhere folder_of [] = All-nil (λ (v : Value). all_places is_elsewhere v ≡ true)
fields_elsewhere folder_of (e ∷ es) =
    All-cons (λ (v : Value). all_places is_elsewhere v ≡ true) ((copied e.1).moved folder_of) (values_of (fields_moved folder_of es))
    (moved_at_paths is_elsewhere (λ path. refl) e.1 folder_of) (fields_elsewhere folder_of es)

-- the value of a plan, whatever the places were of what it copies
pub plan_elsewhere : (holds_others : Bool) (dir : Name) (values : Fields) (plan : StagePlan) → IsPlan holds_others dir values plan → Elsewhere plan.value
plan_elsewhere holds_others dir values plan is =
    subst Elsewhere (sym is.value) (fields_elsewhere (λ group. folder_path holds_others dir (is.number group)) values)

-- and the same with contents
pub contents_elsewhere : (inputs : List NamedInput) (staged : Fields) (read : Heads) (given : Fields) → with_contents inputs staged read ≡ Ok given → Elsewhere staged → Elsewhere given
contents_elsewhere inputs staged read given is all =
    subst Elsewhere (without_fault (contents_fault (asked_by inputs) read staged) (map (field_loaded (asked_by inputs) read) staged) given is)
    (loaded_at is_elsewhere read (asked_by inputs) staged all)

-- the inputs of the work that is due for a job: staged, or with contents too
abbrev pub WorkElsewhere : Work → Type 0
WorkElsewhere (input_heads_due place staged todo read) = Elsewhere staged
WorkElsewhere (start_due place inputs launch) = Elsewhere inputs
WorkElsewhere _ = Unit {0}

pub starts_elsewhere : {options : Options} {place : JobPlace} {job : Job} {number : ℕ} {staged : Fields} {read : Heads} {todo : List Name} {work : Work} {more : List Event} →
    StartsOn options place job number staged read todo work more → Elsewhere staged → WorkElsewhere work
starts_elsewhere (reads_on path rest) all = all
starts_elsewhere {job = job} {staged = staged} {read = read} (has_launch inputs launch is launched) all = contents_elsewhere job.tool.inputs staged read inputs is all
starts_elsewhere (has_no_launch inputs fault is refused) all = tt
starts_elsewhere (has_no_contents fault is) all = tt
