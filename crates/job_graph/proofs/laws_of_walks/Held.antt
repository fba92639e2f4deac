-- What a value holds of the Files and Directories that a job made, level by level, and where it holds none.
use Rattle.std.proofs.Common.{◌≡◌, ◌∙◌, ℕ, ℤ, zero, suc, List, [], ◌∷◌, ◌++◌, length, map, Bool, true, false, Option, Some, None, option_map, refl, sym, ap, ap₂, subst, rules}
use Rattle.std.specs.Prelude.{◌||◌, filter, if◌then◌else◌, IfSome}
use Rattle.std.specs.List.{AllByRecursion}
use Rattle.std.specs.Option.{option_map_or}
use Rattle.plain_data.specs.ByName.{map_values, value_at}
use Rattle.cwl_process.specs.declared.tool.SecondaryFile.{SecondaryFile}
use Rattle.cwl_value.proofs.Induction.{Cases, induction}
use Rattle.cwl_value.specs.Reading.{is_name}
use Rattle.cwl_value.specs.declared.place.Place.{Place}
use Rattle.cwl_value.specs.declared.place.Place.TheVariants.{Nowhere, Url, Path, Made}
use Rattle.cwl_value.specs.declared.value.Value.{Value, out-Value, the_lemmas}
use Rattle.cwl_value.specs.declared.value.Value as value
use Rattle.cwl_value.specs.declared.value.Value.TheOpen.{Value-F, FileVal-F, DirVal-F}
use Rattle.cwl_value.specs.declared.value.FileVal.{FileVal, out-FileVal, roll-FileVal, roll-out-FileVal}
use Rattle.cwl_value.specs.declared.value.DirVal.{DirVal, out-DirVal, roll-DirVal, roll-out-DirVal}
use Rattle.input_files.specs.Beside.{all_beside, file_beside, found_at, lacked, value_of, with_one, with_secondary}
use Rattle.input_files.specs.Given.{mapped_at, own_mapped, with_file}
use Rattle.input_files.specs.Listing.{found_value, measured_dir, measured_file, stands_in, values_below, values_in}
use Rattle.input_files.specs.Measured.{Measures, as_measured, dir_as_measured, file_as_measured, found_listing, listing_with}
use Rattle.input_files.specs.Present.{all_true, is_present}
use Rattle.staging.specs.declared.found.Found.{Found}
use Rattle.staging.specs.declared.measure.Measure.{Measure}
use Rattle.staging.specs.declared.measure.Measure.TheVariants as measure
use Rattle.job_graph.specs.Words.{Name, Fields, JobPlace, is_same_place}
use Rattle.cwl_value.specs.Fileless.{some_true}
use Rattle.cwl_value.specs.Placed.{dir_value_moved, file_value_moved, value_moved}
use Rattle.job_graph.specs.Made.{any_made, dir_holds, file_holds, holds_made, is_of, listing_holds, made_place}
use Rattle.job_graph.proofs.laws_of_walks.Part.{neither_one, neither_other}
use Rattle.job_graph.proofs.laws_of_walks.Passed.{Each, EachField, Inside, Passes, all_made, all_map, all_both}

pub both_false : (a b : Bool) → a ≡ false → b ≡ false → (a || b) ≡ false
both_false a b one other = ap₂ (λ (x y : Bool). x || y) one other

module _ (job : JobPlace) where
  -- it holds nothing that the job made
  abbrev pub IsFree : Value → Type 0
  IsFree v = holds_made job v ≡ false

  abbrev pub IsFreeFile : FileVal → Type 0
  IsFreeFile f = file_holds job f ≡ false

  abbrev pub IsFreeDir : DirVal → Type 0
  IsFreeDir d = dir_holds job d ≡ false

  -- ---- level by level

  pub holds-FileVal : (f : FileVal) → holds_made job (value.FileVal f) ≡ file_holds job f
  holds-FileVal f = search (rules, the_lemmas)

  pub holds-DirVal : (d : DirVal) → holds_made job (value.DirVal d) ≡ dir_holds job d
  holds-DirVal d = search (rules, the_lemmas)

  pub holds-List : (vs : List Value) → holds_made job (value.List vs) ≡ some_true (map (holds_made job) vs)
  holds-List vs = search (rules, the_lemmas)

  pub holds-Fields : (es : Fields) → holds_made job (value.Fields es) ≡ some_true (map (λ f. f.1) (map_values (holds_made job) es))
  holds-Fields es = search (rules, the_lemmas)

  holds-file : (f : FileVal-F Value DirVal FileVal) → file_holds job (roll-FileVal f) ≡ (is_of job f.place || some_true (map (holds_made job) f.secondary))
  holds-file f = search (rules, the_lemmas)

  holds-dir : (d : DirVal-F Value DirVal FileVal) → dir_holds job (roll-DirVal d) ≡ (is_of job d.place || listing_holds (option_map (map (holds_made job)) d.listing))
  holds-dir d = search (rules, the_lemmas)

  -- ---- lists, listings and fields

  pub each_free : (vs : List Value) → some_true (map (holds_made job) vs) ≡ false → Each IsFree vs
  each_free [] none = tt
  each_free (v ∷ vs) none =
      (neither_one (holds_made job v) (some_true (map (holds_made job) vs)) none, each_free vs (neither_other (holds_made job v) (some_true (map (holds_made job) vs)) none))

  none_held : (vs : List Value) → Each IsFree vs → some_true (map (holds_made job) vs) ≡ false
  none_held [] all = refl
  none_held (v ∷ vs) all = both_false (holds_made job v) (some_true (map (holds_made job) vs)) all.0 (none_held vs all.1)

  listing_free : (o : Option (List Value)) → listing_holds (option_map (map (holds_made job)) o) ≡ false → IfSome o (Each IsFree)
  listing_free None none = tt
  listing_free (Some vs) none = each_free vs none

  none_listed : (o : Option (List Value)) → IfSome o (Each IsFree) → listing_holds (option_map (map (holds_made job)) o) ≡ false
  none_listed None all = refl
  none_listed (Some vs) all = none_held vs all

  pub fields_free : (es : Fields) → some_true (map (λ f. f.1) (map_values (holds_made job) es)) ≡ false → EachField IsFree es
  fields_free [] none = tt
  fields_free (e ∷ es) none =
      let others : Bool = some_true (map (λ (f : Name × Bool). f.1) (map_values (holds_made job) es)) in
      (neither_one (holds_made job e.1) others none, fields_free es (neither_other (holds_made job e.1) others none))

  none_in_fields : (es : Fields) → EachField IsFree es → some_true (map (λ f. f.1) (map_values (holds_made job) es)) ≡ false
  none_in_fields [] all = refl
  none_in_fields (e ∷ es) all = both_false (holds_made job e.1) (some_true (map (λ (f : Name × Bool). f.1) (map_values (holds_made job) es))) all.0 (none_in_fields es all.1)

  -- none of the fields holds any
  pub each_unmade : (fields : Fields) → any_made job fields ≡ false → EachField IsFree fields
  each_unmade [] none = tt
  each_unmade (e ∷ es) none =
      (neither_one (holds_made job e.1) (any_made job es) none, each_unmade es (neither_other (holds_made job e.1) (any_made job es) none))

  pub none_made : (fields : Fields) → EachField IsFree fields → any_made job fields ≡ false
  none_made [] all = refl
  none_made (e ∷ es) all = both_false (holds_made job e.1) (any_made job es) all.0 (none_made es all.1)

  -- ---- Files and Directories

  pub level_parts : (f : FileVal-F Value DirVal FileVal) → IsFreeFile (roll-FileVal f) → (is_of job f.place ≡ false) × Each IsFree f.secondary
  level_parts f free =
      let parts : (is_of job f.place || some_true (map (holds_made job) f.secondary)) ≡ false = sym (holds-file f) ∙ free in (
        neither_one (is_of job f.place) (some_true (map (holds_made job) f.secondary)) parts,
        each_free f.secondary (neither_other (is_of job f.place) (some_true (map (holds_made job) f.secondary)) parts),
      )

  file_parts : (f : FileVal) → IsFreeFile f → (is_of job (out-FileVal f).place ≡ false) × Each IsFree (out-FileVal f).secondary
  file_parts f free = level_parts (out-FileVal f) (ap (file_holds job) (roll-out-FileVal f) ∙ free)

  pub a_file : (f : FileVal-F Value DirVal FileVal) → is_of job f.place ≡ false → Each IsFree f.secondary → IsFreeFile (roll-FileVal f)
  a_file f place all = holds-file f ∙ both_false (is_of job f.place) (some_true (map (holds_made job) f.secondary)) place (none_held f.secondary all)

  pub level_listing : (d : DirVal-F Value DirVal FileVal) → IsFreeDir (roll-DirVal d) → (is_of job d.place ≡ false) × IfSome d.listing (Each IsFree)
  level_listing d free =
      let listed : Bool = listing_holds (option_map (map (holds_made job)) d.listing) in
      let parts : (is_of job d.place || listed) ≡ false = sym (holds-dir d) ∙ free in
      (neither_one (is_of job d.place) listed parts, listing_free d.listing (neither_other (is_of job d.place) listed parts))

  pub a_dir : (d : DirVal-F Value DirVal FileVal) → is_of job d.place ≡ false → IfSome d.listing (Each IsFree) → IsFreeDir (roll-DirVal d)
  a_dir d place all = holds-dir d ∙ both_false (is_of job d.place) (listing_holds (option_map (map (holds_made job)) d.listing)) place (none_listed d.listing all)

  -- ---- what is at the next level of a value

  abbrev pub Opened : Value-F Value DirVal FileVal → Type 0
  Opened (Value-F.List vs) = Each IsFree vs
  Opened (Value-F.Fields es) = EachField IsFree es
  Opened (Value-F.FileVal f) = IsFreeFile f
  Opened (Value-F.DirVal d) = IsFreeDir d
  Opened _ = Unit {0}

  abbrev Opens : Value → Type 0
  Opens v = IsFree v → Opened (out-Value v)

  out-Null : out-Value value.Null ≡ Value-F.Null
  out-Null = search (rules, the_lemmas)

  out-Bool : (b : Bool) → out-Value (value.Bool b) ≡ Value-F.Bool b
  out-Bool b = search (rules, the_lemmas)

  out-Whole : (n : ℤ) → out-Value (value.Whole n) ≡ Value-F.Whole n
  out-Whole n = search (rules, the_lemmas)

  out-Text : (s : List ℕ) → out-Value (value.Text s) ≡ Value-F.Text s
  out-Text s = search (rules, the_lemmas)

  out-FileVal-form : (f : FileVal) → out-Value (value.FileVal f) ≡ Value-F.FileVal f
  out-FileVal-form f = search (rules, the_lemmas)

  out-DirVal-form : (d : DirVal) → out-Value (value.DirVal d) ≡ Value-F.DirVal d
  out-DirVal-form d = search (rules, the_lemmas)

  out-List : (vs : List Value) → out-Value (value.List vs) ≡ Value-F.List vs
  out-List vs = search (rules, the_lemmas)

  out-Fields : (es : Fields) → out-Value (value.Fields es) ≡ Value-F.Fields es
  out-Fields es = search (rules, the_lemmas)

  opening : Cases Opens (λ f. Unit {0}) (λ d. Unit {0})
  opening = record {
    null = λ free. subst Opened (sym out-Null) tt;
    boolean = λ b free. subst Opened (sym (out-Bool b)) tt;
    whole = λ n free. subst Opened (sym (out-Whole n)) tt;
    text = λ s free. subst Opened (sym (out-Text s)) tt;
    file = λ f _ free. subst Opened (sym (out-FileVal-form f)) (sym (holds-FileVal f) ∙ free);
    dir = λ d _ free. subst Opened (sym (out-DirVal-form d)) (sym (holds-DirVal d) ∙ free);
    list = λ vs _ free. subst Opened (sym (out-List vs)) (each_free vs (sym (holds-List vs) ∙ free));
    fields = λ es _ free. subst Opened (sym (out-Fields es)) (fields_free es (sym (holds-Fields es) ∙ free));
    a_file = λ f _. tt;
    a_dir = λ d _. tt;
  }

  pub opens : (v : Value) → Opens v
  opens v = induction opening v

  inside_of : (x : Value-F Value DirVal FileVal) → Opened x → Inside IsFree x
  inside_of (Value-F.List vs) opened = opened
  inside_of (Value-F.Fields es) opened = opened
  inside_of (Value-F.FileVal f) opened = (file_parts f opened).1
  inside_of (Value-F.DirVal d) opened = (level_listing (out-DirVal d) (ap (dir_holds job) (roll-out-DirVal d) ∙ opened)).1
  inside_of Value-F.Null opened = tt
  inside_of (Value-F.Bool b) opened = tt
  inside_of (Value-F.Whole n) opened = tt
  inside_of (Value-F.Text s) opened = tt

  pub free_passes : Passes IsFree
  free_passes = record {
    nothing = search (rules, the_lemmas);
    whole = λ n. search (rules, the_lemmas);
    text = λ s. search (rules, the_lemmas);
    list = λ vs all. holds-List vs ∙ none_held vs all;
    fields = λ es all. holds-Fields es ∙ none_in_fields es all;
    inside = λ v free. inside_of (out-Value v) (opens v free);
  }

  -- ---- values elsewhere

  module _ (move : Place → Place) (keeps : (place : Place) → is_of job (move place) ≡ is_of job place) where
    abbrev IsKept : Value → Type 0
    IsKept v = holds_made job (value_moved move v) ≡ holds_made job v

    moved-FileVal : (f : FileVal) → holds_made job (value_moved move (value.FileVal f)) ≡ file_holds job (file_value_moved move f)
    moved-FileVal f = search (rules, the_lemmas)

    moved-DirVal : (d : DirVal) → holds_made job (value_moved move (value.DirVal d)) ≡ dir_holds job (dir_value_moved move d)
    moved-DirVal d = search (rules, the_lemmas)

    moved-List : (vs : List Value) → holds_made job (value_moved move (value.List vs)) ≡ some_true (map (holds_made job) (map (value_moved move) vs))
    moved-List vs = search (rules, the_lemmas)

    moved-Fields : (es : Fields) → holds_made job (value_moved move (value.Fields es)) ≡ some_true (map (λ f. f.1) (map_values (holds_made job) (map_values (value_moved move) es)))
    moved-Fields es = search (rules, the_lemmas)

    moved-file : (f : FileVal-F Value DirVal FileVal) → file_holds job (file_value_moved move (roll-FileVal f))
        ≡ (is_of job (move f.place) || some_true (map (holds_made job) (map (value_moved move) f.secondary)))
    moved-file f = search (rules, the_lemmas)

    moved-dir : (d : DirVal-F Value DirVal FileVal) → dir_holds job (dir_value_moved move (roll-DirVal d))
        ≡ (is_of job (move d.place) || listing_holds (option_map (map (holds_made job)) (option_map (map (value_moved move)) d.listing)))
    moved-dir d = search (rules, the_lemmas)

    same_items : (vs : List Value) → AllByRecursion IsKept vs → some_true (map (holds_made job) (map (value_moved move) vs)) ≡ some_true (map (holds_made job) vs)
    same_items [] all = refl
    same_items (v ∷ vs) all = ap₂ (λ (a b : Bool). a || b) all.0 (same_items vs all.1)

    same_listing : (o : Option (List Value)) → IfSome o (AllByRecursion IsKept)
        → listing_holds (option_map (map (holds_made job)) (option_map (map (value_moved move)) o)) ≡ listing_holds (option_map (map (holds_made job)) o)
    same_listing None all = refl
    same_listing (Some vs) all = same_items vs all

    same_fields : (es : Fields) → AllByRecursion (λ (e : Name × Value). IsKept e.1) es
        → some_true (map (λ f. f.1) (map_values (holds_made job) (map_values (value_moved move) es))) ≡ some_true (map (λ f. f.1) (map_values (holds_made job) es))
    same_fields [] all = refl
    same_fields (e ∷ es) all = ap₂ (λ (a b : Bool). a || b) all.0 (same_fields es all.1)

    moving : Cases IsKept (λ f. file_holds job (file_value_moved move f) ≡ file_holds job f) (λ d. dir_holds job (dir_value_moved move d) ≡ dir_holds job d)
    moving = record {
      null = search (rules, the_lemmas);
      boolean = λ b. search (rules, the_lemmas);
      whole = λ n. search (rules, the_lemmas);
      text = λ s. search (rules, the_lemmas);
      file = λ f same. moved-FileVal f ∙ same ∙ sym (holds-FileVal f);
      dir = λ d same. moved-DirVal d ∙ same ∙ sym (holds-DirVal d);
      list = λ vs all. moved-List vs ∙ same_items vs all ∙ sym (holds-List vs);
      fields = λ es all. moved-Fields es ∙ same_fields es all ∙ sym (holds-Fields es);
      a_file = λ f all. moved-file f ∙ ap₂ (λ (a b : Bool). a || b) (keeps f.place) (same_items f.secondary all) ∙ sym (holds-file f);
      a_dir = λ d all. moved-dir d ∙ ap₂ (λ (a b : Bool). a || b) (keeps d.place) (same_listing d.listing all) ∙ sym (holds-dir d);
    }

    same_moved : (v : Value) → IsKept v
    same_moved v = induction moving v

  -- what another job made is not of this one
  of_other : (maker : JobPlace) → is_same_place maker job ≡ false → (place : Place) → is_of job (made_place maker place) ≡ is_of job place
  of_other maker other Nowhere = refl
  of_other maker other (Url name) = other
  of_other maker other (Path path) = refl
  of_other maker other (Made first name) = refl

  pub made_free : (maker : JobPlace) → is_same_place maker job ≡ false → (v : Value) → IsFree v → IsFree (value_moved (made_place maker) v)
  made_free maker other v free = same_moved (made_place maker) (of_other maker other) v ∙ free

  -- ---- what was measured

  a_measured_file : (path name : Name) (size : ℕ) (sum : Name) → IsFree (measured_file path name size sum)
  a_measured_file path name size sum = search (rules, the_lemmas)

  a_measured_dir : (path name : Name) (listing : List Value) → Each IsFree listing → IsFree (measured_dir path name listing)
  a_measured_dir path name listing all =
      holds-DirVal (roll-DirVal (record { place = Path path; basename = Some name; listing = Some listing }))
      ∙ a_dir (record { place = Path path; basename = Some name; listing = Some listing }) refl all

  either_free : (b : Bool) (v w : Value) → IsFree v → IsFree w → IsFree (if b then v else w)
  either_free true v w one other = one
  either_free false v w one other = other

  found_free : (root : Name) (inside : Name → List Value) → ((folder : Name) → Each IsFree (inside folder)) → (found : Found) → IsFree (found_value root inside found)
  found_free root inside all found = either_free found.is_dir _ _ (a_measured_dir _ _ (inside found.name) (all found.name)) (a_measured_file _ _ found.size found.sum)

  so_deep : (root : Name) (listing : List Found) (depth : ℕ) (folder : Name) → Each IsFree (values_in root listing depth folder)
  so_deep root listing zero folder = tt
  so_deep root listing (suc depth) folder =
      all_made (found_value root (values_in root listing depth)) IsFree (found_free root (values_in root listing depth) (so_deep root listing depth)) (filter (stands_in folder) listing)

  pub below_free : (path : Name) (listing : List Found) → Each IsFree (values_below path listing)
  below_free path listing = so_deep path listing (length listing) []

  module _ (measures : Measures) where
    listed_free : (path : Name) (o : Option Measure) → IfSome (listing_with path o) (Each IsFree)
    listed_free path None = tt
    listed_free path (Some (measure.Folder listing)) = below_free path listing
    listed_free path (Some (measure.File size sum)) = tt
    listed_free path (Some measure.Absent) = tt

    listing_found : (place : Place) → IfSome (found_listing measures place) (Each IsFree)
    listing_found Nowhere = tt
    listing_found (Url name) = tt
    listing_found (Path path) = listed_free path (value_at path measures)
    listing_found (Made first name) = tt

    unless_absent : (b : Bool) (place : Place) → IfSome (if b then found_listing measures place else None) (Each IsFree)
    unless_absent true place = listing_found place
    unless_absent false place = tt

    abbrev all_measured : List Value → List Value
    all_measured vs = map (as_measured measures) vs

    abbrev StaysFree : Value → Type 0
    StaysFree v = IsFree v → IsFree (as_measured measures v)

    measured-FileVal : (f : FileVal) → holds_made job (as_measured measures (value.FileVal f)) ≡ file_holds job (file_as_measured measures f)
    measured-FileVal f = search (rules, the_lemmas)

    measured-DirVal : (d : DirVal) → holds_made job (as_measured measures (value.DirVal d)) ≡ dir_holds job (dir_as_measured measures d)
    measured-DirVal d = search (rules, the_lemmas)

    measured-List : (vs : List Value) → holds_made job (as_measured measures (value.List vs)) ≡ some_true (map (holds_made job) (all_measured vs))
    measured-List vs = search (rules, the_lemmas)

    measured-Fields : (es : Fields) → holds_made job (as_measured measures (value.Fields es)) ≡ some_true (map (λ f. f.1) (map_values (holds_made job) (map_values (as_measured measures) es)))
    measured-Fields es = search (rules, the_lemmas)

    measured-file : (f : FileVal-F Value DirVal FileVal) → file_holds job (file_as_measured measures (roll-FileVal f)) ≡ (is_of job f.place || some_true (map (holds_made job) (all_measured f.secondary)))
    measured-file f = search (rules, the_lemmas)

    measured-dir : (d : DirVal-F Value DirVal FileVal) → dir_holds job (dir_as_measured measures (roll-DirVal d))
        ≡ (is_of job d.place || listing_holds (option_map (map (holds_made job))
        (if option_map_or (λ listed. all_true (map is_present listed)) (option_map all_measured d.listing) true then found_listing measures d.place else None)))
    measured-dir d = search (rules, the_lemmas)

    items_stay : (vs : List Value) → AllByRecursion StaysFree vs → Each IsFree vs → Each IsFree (all_measured vs)
    items_stay [] stay all = tt
    items_stay (v ∷ vs) stay all = (stay.0 all.0, items_stay vs stay.1 all.1)

    fields_stay : (es : Fields) → AllByRecursion (λ (e : Name × Value). StaysFree e.1) es → EachField IsFree es → EachField IsFree (map_values (as_measured measures) es)
    fields_stay [] stay all = tt
    fields_stay (e ∷ es) stay all = (stay.0 all.0, fields_stay es stay.1 all.1)

    measuring : Cases StaysFree (λ f. IsFreeFile f → IsFreeFile (file_as_measured measures f)) (λ d. IsFreeDir d → IsFreeDir (dir_as_measured measures d))
    measuring = record {
      null = λ free. search (rules, the_lemmas);
      boolean = λ b free. search (rules, the_lemmas);
      whole = λ n free. search (rules, the_lemmas);
      text = λ s free. search (rules, the_lemmas);
      file = λ f stays free. measured-FileVal f ∙ stays (sym (holds-FileVal f) ∙ free);
      dir = λ d stays free. measured-DirVal d ∙ stays (sym (holds-DirVal d) ∙ free);
      list = λ vs stay free. measured-List vs ∙ none_held (all_measured vs) (items_stay vs stay (each_free vs (sym (holds-List vs) ∙ free)));
      fields = λ es stay free. measured-Fields es ∙ none_in_fields (map_values (as_measured measures) es) (fields_stay es stay (fields_free es (sym (holds-Fields es) ∙ free)));
      a_file = λ f stay free.
          let parts : (is_of job f.place ≡ false) × Each IsFree f.secondary = level_parts f free in
          measured-file f ∙ both_false (is_of job f.place) (some_true (map (holds_made job) (all_measured f.secondary))) parts.0 (none_held (all_measured f.secondary) (items_stay f.secondary stay parts.1));
      a_dir = λ d stay free.
          measured-dir d ∙ both_false (is_of job d.place) _ (level_listing d free).0
          (none_listed _ (unless_absent (option_map_or (λ listed. all_true (map is_present listed)) (option_map all_measured d.listing) true) d.place));
    }

    pub measured_free : (v : Value) → IsFree v → IsFree (as_measured measures v)
    measured_free v = induction measuring v

    -- ---- the files beside those of a value

    what_stands : (name path : Name) (o : Option Measure) → Each IsFree (value_of name path o)
    what_stands name path None = tt
    what_stands name path (Some measure.Absent) = tt
    what_stands name path (Some (measure.File size sum)) = (a_measured_file path name size sum, tt)
    what_stands name path (Some (measure.Folder listing)) = (a_measured_dir path name (values_below path listing) (below_free path listing), tt)

    if_named : (b : Bool) (names : Name × Name) → Each IsFree (if b then value_of names.0 names.1 (value_at names.1 measures) else [])
    if_named true names = what_stands names.0 names.1 (value_at names.1 measures)
    if_named false names = tt

    with_more : (f : FileVal) (vs : List Value) → IsFreeFile f → Each IsFree vs → IsFreeFile (with_secondary f vs)
    with_more f vs free all =
        a_file (record (out-FileVal f) { secondary = (out-FileVal f).secondary ++ vs }) (file_parts f free).0 (all_both IsFree (out-FileVal f).secondary vs (file_parts f free).1 all)

    one_beside : (f : FileVal) (o : Option (Name × Name)) → IsFreeFile f → IsFreeFile (option_map_or (λ names. with_secondary f (found_at measures names)) o f)
    one_beside f None free = free
    one_beside f (Some names) free = with_more f (found_at measures names) free (if_named (is_name names.0) names)

    files_beside : (declared : List SecondaryFile) (f : FileVal) → IsFreeFile f → IsFreeFile (file_beside measures declared f)
    files_beside [] f free = free
    files_beside (one ∷ more) f free = files_beside more (with_one measures f one) (one_beside f (lacked f one) free)

    module _ (declared : List SecondaryFile) where
      abbrev h : FileVal → FileVal
      h = file_beside measures declared

      of_own : (v : Value) (x : Value-F Value DirVal FileVal) → Opened x → IsFree v → IsFree (own_mapped h v x)
      of_own v (Value-F.FileVal f) opened free = holds-FileVal (h f) ∙ files_beside declared f opened
      of_own v _ opened free = free

      own_free : (v : Value) → IsFree v → IsFree (with_file h v)
      own_free v free = of_own v (out-Value v) (opens v free) free

      of_mapped : (v : Value) (x : Value-F Value DirVal FileVal) → Opened x → IsFree v → IsFree (mapped_at h v x)
      of_mapped v (Value-F.List vs) opened free = holds-List (map (with_file h) vs) ∙ none_held (map (with_file h) vs) (all_map (with_file h) IsFree IsFree own_free vs opened)
      of_mapped v _ opened free = own_free v free

      pub beside_free : (v : Value) → IsFree v → IsFree (all_beside measures declared v)
      beside_free v free = of_mapped v (out-Value v) (opens v free) free
