-- The outputs that a run has learned are named: each place in them is a name in their job's folder, and of no job.
use Rattle.std.specs.Prelude.{◌&&◌, ◌||◌, is_some}
use Rattle.std.specs.List.{AllByRecursion}
use Rattle.std.specs.Map.{values_of}
use Rattle.std.specs.Option.{IfSome, option_map_or}
use Rattle.std.proofs.Common.{◌≡◌, ◌∙◌, ℕ, Bool, true, false, List, [], ◌∷◌, ◌++◌, map, Option, Some, None, option_map, Ok, refl, sym, ap, rules}
use Rattle.std.proofs.lemmas.List.Elements.{recursion_from_All}
use Rattle.plain_data.specs.ByName.{map_values}
use Rattle.plan_checker.specs.declared.plan.Mark.{Mark}
use Rattle.cwl_process.specs.declared.tool.Tool.{Tool}
use Rattle.cwl_process.specs.declared.tool.ToolOutput.{ToolOutput}
use Rattle.cwl_value.proofs.Induction.{Cases, induction}
use Rattle.cwl_value.specs.declared.place.Place.{Place}
use Rattle.cwl_value.specs.declared.value.Value.{Value, the_lemmas}
use Rattle.cwl_value.specs.declared.value.Value.TheOpen.{FileVal-F, DirVal-F}
use Rattle.cwl_value.specs.declared.value.FileVal.{FileVal, roll-FileVal}
use Rattle.cwl_value.specs.declared.value.DirVal.{DirVal, roll-DirVal}
use Rattle.staging.proofs.Greedy.{both_first, both_second}
use Rattle.staging.specs.declared.found.Found.{Found}
use Rattle.collected_outputs.specs.Checked.{every, is_found}
use Rattle.collected_outputs.specs.Collected.{IsCollected}
use Rattle.collected_outputs.specs.Contents.{Heads}
use Rattle.collected_outputs.specs.Laws.{is_name, is_scanned}
use Rattle.collected_outputs.specs.Listing.{Listing, listing_of}
use Rattle.collected_outputs.specs.Outputs.{Left}
use Rattle.collected_outputs.specs.Throughout.{FileTest, DirTest, all_pass, all_places}
use Rattle.collected_outputs.proofs.Inside.{each_name}
use Rattle.collected_outputs.proofs.Throughout.{dir_level, dir_pass, dir_value, fields_pass, file_level, file_pass, file_value, list_passes, seen_dir, seen_file}
use Rattle.job_graph.specs.Jobs.{Job}
use Rattle.cwl_value.specs.Fileless.{some_true}
use Rattle.job_graph.specs.Made.{any_made, dir_holds, file_holds, holds_made, is_of}
use Rattle.job_graph.specs.Makers.{AreUnmade}
use Rattle.job_graph.specs.Unfold.{Resolved}
use Rattle.job_graph.specs.Words.{Name, Fields, JobPlace}
use Rattle.job_graph.proofs.laws_of_walks.Held.{a_dir, a_file, both_false, holds-DirVal, holds-Fields, holds-FileVal, holds-List}
use Rattle.job_graph.proofs.laws_of_walks.Passed.{Each, EachField}
use Rattle.run_rules.specs.declared.request.Pair.{Pair}
use Rattle.run_rules.specs.declared.setting.Options.{Options}
use Rattle.run_rules.specs.Scene.{Scene}
use Rattle.run_rules.specs.Events.{Event, file_measured, job_staged, job_started, child_exited, job_succeeded, job_failed, job_failed_for_now, result_delivered, host_failed, collect_failed, row_found, no_row, find_failed, put_failed, row_differs, job_repeated, Work, Progress, Started, resolved, store_failed, files_fetched, archive_differs, drop_failed, touch_failed, discard_failed, host_failed_late}
use Rattle.run_rules.specs.StartsOn.{StartsOn, reads_on as starts_reading, has_launch, has_no_launch, has_no_contents}
use Rattle.run_rules.specs.CollectsOn.{CollectsOn, left_of, reads_on as collects_reading, collects, collects_none}
use Rattle.run_rules.specs.Steps.{Steps, measures_file, stages, reads_input, starts, exits_well, exits_for_now, exits_badly, scans, reads_output, delivers, loses_collect, call_fails, finds_none, finds, finds_wrong, find_fails, puts, put_fails, stores, store_fails, fetches, fetches_other, drops, drop_fails, touches, touch_fails, discards, discard_fails, call_fails_late}
use Rattle.run_rules.specs.Plans.{PlansSoFar}
use Rattle.run_rules.specs.Run.{Goes, begins, asks}
use Rattle.run_rules.specs.Keeps.{Keeps, keeps, keeps_none, differs, told_of}
use Rattle.job_reuse.specs.Sound.{IsSound, all_stand, is_dir_there, is_file_there}
use Rattle.job_rows.specs.declared.row.Row.{Row}

-- ---- a value whose places are of no job holds nothing that a job made

module _ (job : JobPlace) (at_file : FileTest) (at_dir : DirTest) (file_unmade : (f : FileVal-F Bool Bool Bool) → at_file f ≡ true → is_of job f.place ≡ false)
    (dir_unmade : (d : DirVal-F Bool Bool Bool) → at_dir d ≡ true → is_of job d.place ≡ false) where
  abbrev passes : Value → Bool
  passes = all_pass at_file at_dir

  abbrev P : Value → Type 0
  P v = passes v ≡ true → holds_made job v ≡ false

  abbrev Q : FileVal → Type 0
  Q f = file_pass at_file at_dir f ≡ true → file_holds job f ≡ false

  abbrev R : DirVal → Type 0
  R d = dir_pass at_file at_dir d ≡ true → dir_holds job d ≡ false

  items : (vs : List Value) → AllByRecursion P vs → every (map passes vs) ≡ true → Each (λ v. holds_made job v ≡ false) vs
  items [] each named = tt
  items (v ∷ vs) each named = (
    each.0 (both_first (passes v) (every (map passes vs)) named),
    items vs each.1 (both_second (passes v) (every (map passes vs)) named),
  )

  abbrev flags : List (List ℕ × Value) → List Bool
  flags es = map (λ (e : List ℕ × Bool). e.1) (map_values passes es)

  in_fields : (es : List (List ℕ × Value)) → AllByRecursion (λ (e : List ℕ × Value). P e.1) es → every (flags es) ≡ true →
      EachField (λ v. holds_made job v ≡ false) es
  in_fields [] each named = tt
  in_fields (e ∷ es) each named = (
    each.0 (both_first (passes e.1) (every (flags es)) named),
    in_fields es each.1 (both_second (passes e.1) (every (flags es)) named),
  )

  listed : (o : Option (List Value)) → IfSome o (AllByRecursion P) → option_map_or every (option_map (map passes) o) true ≡ true →
      IfSome o (Each (λ v. holds_made job v ≡ false))
  listed None each named = tt
  listed (Some vs) each named = items vs each named

  of_file : (f : FileVal-F Value DirVal FileVal) → AllByRecursion P f.secondary → Q (roll-FileVal f)
  of_file f each named =
      let here : (at_file (seen_file at_file at_dir f) && every (map passes f.secondary)) ≡ true = sym (file_level at_file at_dir f) ∙ named in
      a_file job f (file_unmade (seen_file at_file at_dir f) (both_first (at_file (seen_file at_file at_dir f)) (every (map passes f.secondary)) here))
      (items f.secondary each (both_second (at_file (seen_file at_file at_dir f)) (every (map passes f.secondary)) here))

  of_dir : (d : DirVal-F Value DirVal FileVal) → IfSome d.listing (AllByRecursion P) → R (roll-DirVal d)
  of_dir d each named =
      let inside : Bool = option_map_or every (option_map (map passes) d.listing) true in
      let here : (at_dir (seen_dir at_file at_dir d) && inside) ≡ true = sym (dir_level at_file at_dir d) ∙ named in
      a_dir job d (dir_unmade (seen_dir at_file at_dir d) (both_first (at_dir (seen_dir at_file at_dir d)) inside here))
      (listed d.listing each (both_second (at_dir (seen_dir at_file at_dir d)) inside here))

  none_held : (vs : List Value) → Each (λ v. holds_made job v ≡ false) vs → some_true (map (holds_made job) vs) ≡ false
  none_held [] all = refl
  none_held (v ∷ vs) all = both_false (holds_made job v) (some_true (map (holds_made job) vs)) all.0 (none_held vs all.1)

  none_in_fields : (es : List (List ℕ × Value)) → EachField (λ v. holds_made job v ≡ false) es →
      some_true (map (λ f. f.1) (map_values (holds_made job) es)) ≡ false
  none_in_fields [] all = refl
  none_in_fields (e ∷ es) all =
      both_false (holds_made job e.1) (some_true (map (λ (f : List ℕ × Bool). f.1) (map_values (holds_made job) es))) all.0 (none_in_fields es all.1)

  cases : Cases P Q R
  cases = record {
    null = λ named. search (rules, the_lemmas);
    boolean = λ b named. search (rules, the_lemmas);
    whole = λ n named. search (rules, the_lemmas);
    text = λ s named. search (rules, the_lemmas);
    file = λ f one named. holds-FileVal job f ∙ one (sym (file_value at_file at_dir f) ∙ named);
    dir = λ d one named. holds-DirVal job d ∙ one (sym (dir_value at_file at_dir d) ∙ named);
    list = λ vs each named. holds-List job vs ∙ none_held vs (items vs each (sym (list_passes at_file at_dir vs) ∙ named));
    fields = λ es each named. holds-Fields job es ∙ none_in_fields es (in_fields es each (sym (fields_pass at_file at_dir es) ∙ named));
    a_file = of_file;
    a_dir = of_dir;
  }

  passing_is_unmade : (v : Value) → passes v ≡ true → holds_made job v ≡ false
  passing_is_unmade = induction cases

  none_made : (values : Fields) → AllByRecursion (λ v. passes v ≡ true) (values_of values) → any_made job values ≡ false
  none_made [] all = refl
  none_made (e ∷ es) all =
      ap (λ b. b || any_made job es) (passing_is_unmade e.1 all.0) ∙ none_made es all.1

-- ---- so are the outputs of a job

name_not_of : (job : JobPlace) (place : Place) → is_name place ≡ true → is_of job place ≡ false
name_not_of job Place.Nowhere named = absurd cc
name_not_of job (Place.Url name) named = refl
name_not_of job (Place.Path path) named = absurd cc
name_not_of job (Place.Made maker name) named = absurd cc

collected_unmade : (left : Left) (outputs : List (Name × ToolOutput)) (values : Fields) → IsCollected left outputs (Ok values) → AreUnmade values
collected_unmade left outputs values is = λ job.
    none_made job (λ f. is_name f.place) (λ d. is_name d.place) (λ f named. name_not_of job f.place named) (λ d named. name_not_of job d.place named) values
    (recursion_from_All (λ v. all_places is_name v ≡ true) (values_of values) (each_name left outputs values is))

-- ---- and those of a row

scanned_not_of : (job : JobPlace) (listing : Listing) (size : Option ℕ) (checksum : Option Name) (place : Place) → is_scanned listing size checksum place ≡ true →
    is_of job place ≡ false
scanned_not_of job listing size checksum Place.Nowhere there = absurd cc
scanned_not_of job listing size checksum (Place.Url name) there = refl
scanned_not_of job listing size checksum (Place.Path path) there = absurd cc
scanned_not_of job listing size checksum (Place.Made maker name) there = absurd cc

found_not_of : (job : JobPlace) (listing : Listing) (place : Place) → is_found listing place true ≡ true → is_of job place ≡ false
found_not_of job listing Place.Nowhere there = absurd cc
found_not_of job listing (Place.Url name) there = refl
found_not_of job listing (Place.Path path) there = absurd cc
found_not_of job listing (Place.Made maker name) there = absurd cc

sound_unmade : (tool : Tool) (row : Row) → IsSound tool row → AreUnmade row.outputs
sound_unmade tool row sound = λ job.
    let listing : Listing = listing_of row.files in
    none_made job (is_file_there listing) (is_dir_there listing)
    (λ f there. scanned_not_of job listing f.size f.checksum f.place (both_second (is_some f.basename) (is_scanned listing f.size f.checksum f.place) there))
    (λ d there. found_not_of job listing d.place (both_second (is_some d.basename) (is_found listing d.place true) there)) row.outputs
    (recursion_from_All (λ v. all_stand listing v ≡ true) (values_of row.outputs) sound.there)

-- ---- and of a run

-- the outputs that an event brings
abbrev pub NamedAt : Event → Type 0
NamedAt (job_succeeded place outputs) = AreUnmade outputs
NamedAt (row_found place row) = AreUnmade row.outputs
NamedAt _ = Unit {0}

pub all_named : (es later : List Event) → AllByRecursion NamedAt es → AllByRecursion NamedAt later → AllByRecursion NamedAt (es ++ later)
all_named [] later all more = more
all_named (e ∷ es) later all more = (all.0, all_named es later all.1 more)

starts_named : {options : Options} {place : JobPlace} {job : Job} {number : ℕ} {staged : Fields} {read : Heads} {todo : List Name} {work : Work} {more : List Event} →
    StartsOn options place job number staged read todo work more → AllByRecursion NamedAt more
starts_named (starts_reading path more) = tt
starts_named (has_launch inputs launch with is) = tt
starts_named (has_no_launch inputs fault with is) = (tt, tt)
starts_named (has_no_contents fault is) = (tt, tt)

told_named : (place : JobPlace) (outputs : Fields) (row : Option Row) → AreUnmade outputs → AllByRecursion NamedAt (told_of place outputs row ∷ [])
told_named place outputs None unmade = (unmade, tt)
told_named place outputs (Some row) unmade = (tt, tt)

keeps_named : {keep : Bool} {place : JobPlace} {job : Job} {row : Option Row} {millis : ℕ} {found : List Found} {outputs : Fields} {work : Work} {more : List Event} → AreUnmade outputs →
    Keeps keep place job row millis found outputs work more → AllByRecursion NamedAt more
keeps_named unmade (keeps_none once) = (unmade, tt)
keeps_named {place = place} {row = row} {outputs = outputs} unmade (keeps reusable agrees) = told_named place outputs row unmade
keeps_named unmade (differs other reusable found differ) = (tt, tt)

collects_named : {keep : Bool} {place : JobPlace} {job : Job} {row : Option Row} {started : Started} {millis : ℕ} {found : List Found} {read : Heads} {todo : List Name} {work : Work} {more : List Event} →
    CollectsOn keep place job row started millis found read todo work more → AllByRecursion NamedAt more
collects_named (collects_reading name more) = tt
collects_named {job = job} {started = started} {found = found} {read = read} (collects outputs work more is kept) =
    keeps_named (collected_unmade (left_of started found read) job.tool.outputs outputs is) kept
collects_named (collects_none fault is) = (tt, tt)

module _ (s : Scene) where
  steps_named : {f : Progress} {p : Pair} {work : Work} {new : List Event} → Steps s f p work new → AllByRecursion NamedAt new
  steps_named (measures_file path measure) = (tt, tt)
  steps_named (stages place plan number job work more known on) = (tt, starts_named on)
  steps_named (reads_input place path limit bytes staged todo read job work more due known on) = starts_named on
  steps_named (starts place inputs launch ticket due) = (tt, tt)
  steps_named (exits_well place e job flies known class) = (tt, tt)
  steps_named (exits_for_now place e job flies known class) = (tt, (tt, tt))
  steps_named (exits_badly place e job flies known class) = (tt, (tt, tt))
  steps_named (scans place folder millis found job started wanted work more due known at are on) = collects_named on
  steps_named (reads_output place path limit bytes millis found name todo read job started work more due known at on) = collects_named on
  steps_named (delivers place plan) = (tt, tt)
  steps_named (fetches place its_key number files found row its same) = (tt, tt)
  steps_named (fetches_other place its_key number files found row its other) = (tt, tt)
  steps_named (drops place its_key) = tt
  steps_named (drop_fails place its_key refusal) = (tt, tt)
  steps_named (touches place its_key) = tt
  steps_named (touch_fails place its_key refusal) = (tt, tt)
  steps_named (discards place its_key more due) = tt
  steps_named (discard_fails place its_key more due) = (tt, tt)
  steps_named loses_collect = (tt, tt)
  steps_named (call_fails place request other unsettled) = (tt, tt)
  steps_named (call_fails_late place request end other over) = (tt, tt)
  steps_named (finds_none place its_key) = (tt, tt)
  steps_named (finds place its_key row job known sound) = (sound_unmade job.tool row sound, tt)
  steps_named (finds_wrong place its_key row job known unsound) = (tt, tt)
  steps_named (find_fails place its_key refusal) = (tt, tt)
  steps_named (puts place row gone) = tt
  steps_named (put_fails place row refusal) = (tt, tt)
  steps_named (stores place key folder files row due) = tt
  steps_named (store_fails place key folder files row due) = (tt, tt)

  module _ {Plans : Progress → List Mark → Type 0} where
    pub goes_named : {t : List Pair} {f : Progress} {plans : PlansSoFar} → Goes s Plans t f plans → AllByRecursion NamedAt f.events
    goes_named (begins plans its) = tt
    goes_named (asks t f old p work new plans goes may steps its) = all_named f.events new (goes_named goes) (steps_named steps)

pub named_resolved : (es : List Event) → AllByRecursion NamedAt es → AllByRecursion (λ (r : Resolved). AreUnmade r.outputs) (resolved es)
named_resolved [] all = tt
named_resolved (job_succeeded place outputs ∷ es) all = (all.0, named_resolved es all.1)
named_resolved (file_measured path measure ∷ es) all = named_resolved es all.1
named_resolved (job_staged place number ∷ es) all = named_resolved es all.1
named_resolved (job_started place inputs launch ticket ∷ es) all = named_resolved es all.1
named_resolved (child_exited ticket ∷ es) all = named_resolved es all.1
named_resolved (job_failed place cause ∷ es) all = named_resolved es all.1
named_resolved (job_failed_for_now place ∷ es) all = named_resolved es all.1
named_resolved (result_delivered plan ∷ es) all = named_resolved es all.1
named_resolved (host_failed place fault ∷ es) all = named_resolved es all.1
named_resolved (collect_failed ∷ es) all = named_resolved es all.1
named_resolved (row_found place row ∷ es) all = (all.0, named_resolved es all.1)
named_resolved (no_row place ∷ es) all = named_resolved es all.1
named_resolved (find_failed place refusal ∷ es) all = named_resolved es all.1
named_resolved (put_failed place refusal ∷ es) all = named_resolved es all.1
named_resolved (store_failed place ∷ es) all = named_resolved es all.1
named_resolved (host_failed_late place fault ∷ es) all = named_resolved es all.1
named_resolved (row_differs place outputs ∷ es) all = named_resolved es all.1
named_resolved (job_repeated place ∷ es) all = named_resolved es all.1
named_resolved (files_fetched place number ∷ es) all = named_resolved es all.1
named_resolved (archive_differs place its_key number ∷ es) all = named_resolved es all.1
named_resolved (drop_failed place refusal ∷ es) all = named_resolved es all.1
named_resolved (touch_failed place refusal ∷ es) all = named_resolved es all.1
named_resolved (discard_failed place ∷ es) all = named_resolved es all.1
