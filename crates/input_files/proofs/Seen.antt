-- What is there is seen of a measured value alone.
use Rattle.std.proofs.Common.{◌≡◌, ℕ, Bool, true, false, true≢false, not, cond, ◌&&◌, ◌||◌, List, [], ◌∷◌, map, Option, Some, None, option_map, is_some, refl, sym, ap, subst, ◌∙◌, rules}
use Rattle.std.specs.List.{AllByRecursion}
use Rattle.std.specs.Option.{IfSome, option_map_or}
use Rattle.plain_data.specs.ByName.{map_values, value_at}
use Rattle.cwl_value.proofs.Induction.{Cases, induction}
use Rattle.cwl_value.specs.declared.place.Place.{Place}
use Rattle.cwl_value.specs.declared.place.Place.TheVariants as place
use Rattle.cwl_value.specs.declared.value.Value.{Value, the_lemmas}
use Rattle.cwl_value.specs.declared.value.Value as value
use Rattle.cwl_value.specs.declared.value.Value.TheOpen.{FileVal-F, DirVal-F}
use Rattle.cwl_value.specs.declared.value.FileVal.{FileVal, out-FileVal, roll-FileVal, fold-FileVal, out-roll-FileVal, roll-out-FileVal}
use Rattle.cwl_value.specs.declared.value.DirVal.{DirVal, roll-DirVal, fold-DirVal}
use Rattle.staging.proofs.Greedy.{both_first, both_second}
use Rattle.staging.specs.declared.measure.Measure.{Measure}
use Rattle.staging.specs.declared.measure.Measure.TheVariants as measure
use Rattle.input_files.specs.Given.{Name, Fields}
use Rattle.input_files.specs.Laws.{unmade_file, unmade_dir, is_unmade, MeasuredSaysWhatIsThere, IsAsFound, FilesAreAsFound}
use Rattle.input_files.specs.Measured.{Measures, measure_at, is_file, is_folder, is_there, is_file_there, is_dir_there, sum_found, listing_with, found_listing, as_measured, file_as_measured, dir_as_measured}
use Rattle.input_files.specs.Present.{all_true, value_there, is_made, is_present, is_file_present, is_dir_present}

no_first : (a b : Bool) → (not a && b) ≡ true → a ≡ false
no_first true b h = absurd (true≢false (sym h))
no_first false b h = refl

module _ (measures : Measures) where
  abbrev file_unmade : FileVal → Bool
  file_unmade = fold-FileVal Bool Bool Bool value_there unmade_dir unmade_file

  abbrev dir_unmade : DirVal → Bool
  dir_unmade = fold-DirVal Bool Bool Bool value_there unmade_dir unmade_file

  abbrev P : Value → Type 0
  P v = is_unmade v ≡ true → is_present (as_measured measures v) ≡ is_there measures v

  abbrev Q : FileVal → Type 0
  Q f = file_unmade f ≡ true → is_file_present (file_as_measured measures f) ≡ is_file_there measures f

  abbrev R : DirVal → Type 0
  R d = dir_unmade d ≡ true → is_dir_present (dir_as_measured measures d) ≡ is_dir_there measures d

  items : (vs : List Value) → AllByRecursion P vs → all_true (map is_unmade vs) ≡ true → all_true (map is_present (map (as_measured measures) vs)) ≡ all_true (map (is_there measures) vs)
  items [] each h = refl
  items (v ∷ vs) each h =
      ap (λ b. b && all_true (map is_present (map (as_measured measures) vs))) (each.0 (both_first (is_unmade v) (all_true (map is_unmade vs)) h))
      ∙ ap (λ b. is_there measures v && b) (items vs each.1 (both_second (is_unmade v) (all_true (map is_unmade vs)) h))

  abbrev flags : (Value → Bool) → Fields → List Bool
  flags test es = map (λ (e : List ℕ × Bool). e.1) (map_values test es)

  fields : (es : Fields) → AllByRecursion (λ (e : List ℕ × Value). P e.1) es → all_true (flags is_unmade es) ≡ true
      → all_true (flags is_present (map_values (as_measured measures) es)) ≡ all_true (flags (is_there measures) es)
  fields [] each h = refl
  fields (e ∷ es) each h =
      ap (λ b. b && all_true (flags is_present (map_values (as_measured measures) es))) (each.0 (both_first (is_unmade e.1) (all_true (flags is_unmade es)) h))
      ∙ ap (λ b. is_there measures e.1 && b) (fields es each.1 (both_second (is_unmade e.1) (all_true (flags is_unmade es)) h))

  -- whether all that a Directory lists passes
  abbrev listed : (Value → Bool) → Option (List Value) → Bool
  listed test l = option_map_or all_true (option_map (map test) l) true

  abbrev listed_now : Option (List Value) → Bool
  listed_now l = option_map_or (λ (vs : List Value). all_true (map is_present vs)) (option_map (map (as_measured measures)) l) true

  inside : (l : Option (List Value)) → IfSome l (AllByRecursion P) → listed is_unmade l ≡ true → listed_now l ≡ listed (is_there measures) l
  inside None each h = refl
  inside (Some vs) each h = items vs each h

  sum_is : (m : Option Measure) → is_some (sum_found m).0 ≡ is_file m
  sum_is None = refl
  sum_is (Some measure.Absent) = refl
  sum_is (Some (measure.File size sum)) = refl
  sum_is (Some (measure.Folder listing)) = refl

  listing_is : (path : Name) (m : Option Measure) → is_some (listing_with path m) ≡ is_folder m
  listing_is path None = refl
  listing_is path (Some measure.Absent) = refl
  listing_is path (Some (measure.File size sum)) = refl
  listing_is path (Some (measure.Folder listing)) = refl

  folder_is : (p : Place) → is_some (found_listing measures p) ≡ is_folder (measure_at measures p)
  folder_is place.Nowhere = refl
  folder_is (place.Url location) = refl
  folder_is (place.Path path) = listing_is path (value_at path measures)
  folder_is (place.Made job name) = refl

  some_if : (b : Bool) (l : Option (List Value)) (folder : Bool) → is_some l ≡ folder → is_some (cond b l None) ≡ (folder && b)
  some_if true l true is = is
  some_if true l false is = is
  some_if false l true is = refl
  some_if false l false is = refl

  file_measured : (f : FileVal-F Value DirVal FileVal) → file_as_measured measures (roll-FileVal f)
      ≡ roll-FileVal (record f { checksum = (sum_found (measure_at measures f.place)).0; size = (sum_found (measure_at measures f.place)).1; secondary = map (as_measured measures) f.secondary })
  file_measured f = search (rules, the_lemmas)

  file_present : (f : FileVal-F Value DirVal FileVal) → is_file_present (roll-FileVal f) ≡ ((is_made f.place || is_some f.checksum) && all_true (map is_present f.secondary))
  file_present f = search (rules, the_lemmas)

  file_there : (f : FileVal-F Value DirVal FileVal) → is_file_there measures (roll-FileVal f) ≡ (is_file (measure_at measures f.place) && all_true (map (is_there measures) f.secondary))
  file_there f = search (rules, the_lemmas)

  file_free : (f : FileVal-F Value DirVal FileVal) → file_unmade (roll-FileVal f) ≡ (not (is_made f.place) && all_true (map is_unmade f.secondary))
  file_free f = search (rules, the_lemmas)

  a_file : (f : FileVal-F Value DirVal FileVal) → AllByRecursion P f.secondary → Q (roll-FileVal f)
  a_file f each h =
      let free = sym (file_free f) ∙ h in
      let beside : List Value = map (as_measured measures) f.secondary in
      ap is_file_present (file_measured f) ∙ file_present _
      ∙ ap (λ b. (b || is_some (sum_found (measure_at measures f.place)).0) && all_true (map is_present beside)) (no_first (is_made f.place) (all_true (map is_unmade f.secondary)) free)
      ∙ ap (λ b. b && all_true (map is_present beside)) (sum_is (measure_at measures f.place))
      ∙ ap (λ b. is_file (measure_at measures f.place) && b) (items f.secondary each (both_second (not (is_made f.place)) (all_true (map is_unmade f.secondary)) free))
      ∙ sym (file_there f)

  dir_measured : (d : DirVal-F Value DirVal FileVal) → dir_as_measured measures (roll-DirVal d)
      ≡ roll-DirVal (record d { listing = cond (listed_now d.listing) (found_listing measures d.place) None })
  dir_measured d = search (rules, the_lemmas)

  dir_present : (d : DirVal-F Value DirVal FileVal) → is_dir_present (roll-DirVal d) ≡ (is_made d.place || is_some (option_map (map is_present) d.listing))
  dir_present d = search (rules, the_lemmas)

  some_mapped : (l : Option (List Value)) → is_some (option_map (map is_present) l) ≡ is_some l
  some_mapped None = refl
  some_mapped (Some vs) = refl

  dir_there : (d : DirVal-F Value DirVal FileVal) → is_dir_there measures (roll-DirVal d) ≡ (is_folder (measure_at measures d.place) && listed (is_there measures) d.listing)
  dir_there d = search (rules, the_lemmas)

  dir_free : (d : DirVal-F Value DirVal FileVal) → dir_unmade (roll-DirVal d) ≡ (not (is_made d.place) && listed is_unmade d.listing)
  dir_free d = search (rules, the_lemmas)

  a_dir : (d : DirVal-F Value DirVal FileVal) → IfSome d.listing (AllByRecursion P) → R (roll-DirVal d)
  a_dir d each h =
      let free = sym (dir_free d) ∙ h in
      let found : Option (List Value) = cond (listed_now d.listing) (found_listing measures d.place) None in
      ap is_dir_present (dir_measured d) ∙ dir_present _
      ∙ ap (λ b. is_made d.place || b) (some_mapped found)
      ∙ ap (λ b. b || is_some found) (no_first (is_made d.place) (listed is_unmade d.listing) free)
      ∙ some_if (listed_now d.listing) (found_listing measures d.place) (is_folder (measure_at measures d.place)) (folder_is d.place)
      ∙ ap (λ b. is_folder (measure_at measures d.place) && b) (inside d.listing each (both_second (not (is_made d.place)) (listed is_unmade d.listing) free))
      ∙ sym (dir_there d)

  of_list : (vs : List Value) → AllByRecursion P vs → P (value.List vs)
  of_list vs each h =
      let measured : as_measured measures (value.List vs) ≡ value.List (map (as_measured measures) vs) = search (rules, the_lemmas) in
      let present : is_present (value.List (map (as_measured measures) vs)) ≡ all_true (map is_present (map (as_measured measures) vs)) = search (rules, the_lemmas) in
      let there : is_there measures (value.List vs) ≡ all_true (map (is_there measures) vs) = search (rules, the_lemmas) in
      let free : is_unmade (value.List vs) ≡ all_true (map is_unmade vs) = search (rules, the_lemmas) in
      ap is_present measured ∙ present ∙ items vs each (sym free ∙ h) ∙ sym there

  of_fields : (es : Fields) → AllByRecursion (λ (e : List ℕ × Value). P e.1) es → P (value.Fields es)
  of_fields es each h =
      let measured : as_measured measures (value.Fields es) ≡ value.Fields (map_values (as_measured measures) es) = search (rules, the_lemmas) in
      let present : is_present (value.Fields (map_values (as_measured measures) es)) ≡ all_true (flags is_present (map_values (as_measured measures) es)) = search (rules, the_lemmas) in
      let there : is_there measures (value.Fields es) ≡ all_true (flags (is_there measures) es) = search (rules, the_lemmas) in
      let free : is_unmade (value.Fields es) ≡ all_true (flags is_unmade es) = search (rules, the_lemmas) in
      ap is_present measured ∙ present ∙ fields es each (sym free ∙ h) ∙ sym there

  measured_file : (f : FileVal) → as_measured measures (value.FileVal f) ≡ value.FileVal (file_as_measured measures f)
  measured_file f = search (rules, the_lemmas)

  measured_dir : (d : DirVal) → as_measured measures (value.DirVal d) ≡ value.DirVal (dir_as_measured measures d)
  measured_dir d = search (rules, the_lemmas)

  of_file : (f : FileVal) → Q f → P (value.FileVal f)
  of_file f is h =
      let present : is_present (value.FileVal (file_as_measured measures f)) ≡ is_file_present (file_as_measured measures f) = search (rules, the_lemmas) in
      let there : is_there measures (value.FileVal f) ≡ is_file_there measures f = search (rules, the_lemmas) in
      let free : is_unmade (value.FileVal f) ≡ file_unmade f = search (rules, the_lemmas) in
      ap is_present (measured_file f) ∙ present ∙ is (sym free ∙ h) ∙ sym there

  of_dir : (d : DirVal) → R d → P (value.DirVal d)
  of_dir d is h =
      let present : is_present (value.DirVal (dir_as_measured measures d)) ≡ is_dir_present (dir_as_measured measures d) = search (rules, the_lemmas) in
      let there : is_there measures (value.DirVal d) ≡ is_dir_there measures d = search (rules, the_lemmas) in
      let free : is_unmade (value.DirVal d) ≡ dir_unmade d = search (rules, the_lemmas) in
      ap is_present (measured_dir d) ∙ present ∙ is (sym free ∙ h) ∙ sym there

  cases : Cases P Q R
  cases = record {
    null = λ h. search (rules, the_lemmas);
    boolean = λ b h. search (rules, the_lemmas);
    whole = λ n h. search (rules, the_lemmas);
    text = λ s h. search (rules, the_lemmas);
    file = of_file;
    dir = of_dir;
    list = of_list;
    fields = of_fields;
    a_file = a_file;
    a_dir = a_dir;
  }

pub there_seen : MeasuredSaysWhatIsThere
there_seen measures = induction (cases measures)

-- A File whose path has a file.

module _ (measures : Measures) (path sum : Name) (size : ℕ) where
  abbrev AsFound : FileVal → Type 0
  AsFound f = (out-FileVal f).place ≡ place.Path path → value_at path measures ≡ Some (measure.File size sum) → IsAsFound measures size sum f (file_as_measured measures f)

  a_found : (f : FileVal-F Value DirVal FileVal) → AsFound (roll-FileVal f)
  a_found f at is =
      let now : FileVal-F Value DirVal FileVal = record f { checksum = (sum_found (measure_at measures f.place)).0; size = (sum_found (measure_at measures f.place)).1; secondary = map (as_measured measures) f.secondary } in
      let there : out-FileVal (roll-FileVal f) ≡ f = out-roll-FileVal f in
      let after : out-FileVal (file_as_measured measures (roll-FileVal f)) ≡ now = ap out-FileVal (file_measured measures f) ∙ out-roll-FileVal now in
      let found : measure_at measures f.place ≡ Some (measure.File size sum) = ap (measure_at measures) (sym (ap (λ (g : FileVal-F Value DirVal FileVal). g.place) there) ∙ at) ∙ is in
      record {
        place = ap (λ (g : FileVal-F Value DirVal FileVal). g.place) after ∙ sym (ap (λ (g : FileVal-F Value DirVal FileVal). g.place) there);
        basename = ap (λ (g : FileVal-F Value DirVal FileVal). g.basename) after ∙ sym (ap (λ (g : FileVal-F Value DirVal FileVal). g.basename) there);
        contents = ap (λ (g : FileVal-F Value DirVal FileVal). g.contents) after ∙ sym (ap (λ (g : FileVal-F Value DirVal FileVal). g.contents) there);
        size = ap (λ (g : FileVal-F Value DirVal FileVal). g.size) after ∙ ap (λ (m : Option Measure). (sum_found m).1) found;
        checksum = ap (λ (g : FileVal-F Value DirVal FileVal). g.checksum) after ∙ ap (λ (m : Option Measure). (sum_found m).0) found;
        secondary = ap (λ (g : FileVal-F Value DirVal FileVal). g.secondary) after ∙ ap (map (as_measured measures)) (sym (ap (λ (g : FileVal-F Value DirVal FileVal). g.secondary) there));
      }

pub files_found : FilesAreAsFound
files_found measures f path sum size at is = (file_as_measured measures f, measured_file measures f, subst (AsFound measures path sum size) (roll-out-FileVal f) (a_found measures path sum size (out-FileVal f)) at is)
