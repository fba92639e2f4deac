-- Values without Files and Directories.
use Rattle.std.proofs.Common.{◌≡◌, ℕ, Bool, true, false, true≢false, List, [], ◌∷◌, ◌++◌, map, refl, sym, ap, ◌∙◌, rules}
use Rattle.std.proofs.lemmas.Bool.{or_parts}
use Rattle.std.specs.List.{AllByRecursion}
use Rattle.plain_data.specs.ByName.{map_values}
use Rattle.cwl_value.specs.Fileless.{holds_files, some_true}
use Rattle.cwl_value.proofs.Induction.{Cases, induction}
use Rattle.cwl_value.proofs.WithoutFiles.{held_dir, held_fields, held_file, held_list}
use Rattle.cwl_value.specs.declared.value.Value.{Value, out-Value, the_lemmas}
use Rattle.cwl_value.specs.declared.value.Value as value
use Rattle.cwl_value.specs.declared.value.FileVal.{FileVal}
use Rattle.cwl_value.proofs.Unmoved.{Descends, fileless_stays}
use Rattle.input_files.specs.Given.{Fields, files_in, files_among, own_file, with_file, with_files}
use Rattle.input_files.specs.Beside.{file_beside}
use Rattle.input_files.specs.Laws.{UntouchedWithoutFiles}
use Rattle.input_files.specs.Measured.{Measures, is_there, as_measured}
use Rattle.input_files.specs.Present.{all_true}
use Rattle.input_files.specs.Paths.{Paths, joined, paths_of}

measured_descends : (measures : Measures) → Descends (as_measured measures)
measured_descends measures = record {
  null = search (rules, the_lemmas);
  boolean = λ b. search (rules, the_lemmas);
  whole = λ n. search (rules, the_lemmas);
  text = λ s. search (rules, the_lemmas);
  list = λ vs. search (rules, the_lemmas);
  fields = λ es. search (rules, the_lemmas);
}

module _ (measures : Measures) (h : FileVal → FileVal) where
  pub record Bare (v : Value) : Type 0 where
    pub there : is_there measures v ≡ true
    pub unmeasured : paths_of v ≡ []
    pub no_file : own_file (out-Value v) ≡ []
    pub as_is : with_file h v ≡ v
    pub no_files : files_in v ≡ []
    pub all_as_is : with_files h v ≡ v

  abbrev P : Value → Type 0
  P v = holds_files v ≡ false → Bare v

  record AreBare (vs : List Value) : Type 0 where
    pub there : all_true (map (is_there measures) vs) ≡ true
    pub unmeasured : joined (map paths_of vs) ≡ []
    pub no_files : files_among vs ≡ []
    pub as_is : map (with_file h) vs ≡ vs

  all : (vs : List Value) → AllByRecursion P vs → some_true (map holds_files vs) ≡ false → AreBare vs
  all [] each none = record { there = refl; unmeasured = refl; no_files = refl; as_is = refl }
  all (v ∷ vs) each none =
      let here = each.0 (or_parts (holds_files v) (some_true (map holds_files vs)) none).0 in
      let rest = all vs each.1 (or_parts (holds_files v) (some_true (map holds_files vs)) none).1 in
      record {
        there = rw here.there rest.there;
        unmeasured = ap (λ (l : Paths). l ++ joined (map paths_of vs)) here.unmeasured ∙ rest.unmeasured;
        no_files = ap (λ (l : List FileVal). l ++ files_among vs) here.no_file ∙ rest.no_files;
        as_is = ap (λ (w : Value). w ∷ map (with_file h) vs) here.as_is ∙ ap (λ (l : List Value). v ∷ l) rest.as_is;
      }

  there_list : (vs : List Value) → is_there measures (value.List vs) ≡ all_true (map (is_there measures) vs)
  there_list vs = search (rules, the_lemmas)

  paths_list : (vs : List Value) → paths_of (value.List vs) ≡ joined (map paths_of vs)
  paths_list vs = search (rules, the_lemmas)

  files_list : (vs : List Value) → files_in (value.List vs) ≡ files_among vs
  files_list vs = search (rules, the_lemmas)

  mapped_list : (vs : List Value) → with_files h (value.List vs) ≡ value.List (map (with_file h) vs)
  mapped_list vs = search (rules, the_lemmas)

  list_case : (vs : List Value) → AllByRecursion P vs → P (value.List vs)
  list_case vs each none =
      let them = all vs each (sym (held_list vs) ∙ none) in
      record {
        there = there_list vs ∙ them.there;
        unmeasured = paths_list vs ∙ them.unmeasured;
        no_file = search (rules, the_lemmas);
        as_is = search (rules, the_lemmas);
        no_files = files_list vs ∙ them.no_files;
        all_as_is = mapped_list vs ∙ ap value.List them.as_is;
      }

  record AreBareFields (es : Fields) : Type 0 where
    pub there : all_true (map (λ e. e.1) (map_values (is_there measures) es)) ≡ true
    pub unmeasured : joined (map (λ e. e.1) (map_values paths_of es)) ≡ []

  all_fields : (es : Fields) → AllByRecursion (λ (e : List ℕ × Value). P e.1) es → some_true (map (λ e. e.1) (map_values holds_files es)) ≡ false → AreBareFields es
  all_fields [] each none = record { there = refl; unmeasured = refl }
  all_fields (e ∷ es) each none =
      let others : Bool = some_true (map (λ (e : List ℕ × Bool). e.1) (map_values holds_files es)) in
      let here = each.0 (or_parts (holds_files e.1) others none).0 in
      let rest = all_fields es each.1 (or_parts (holds_files e.1) others none).1 in
      record {
        there = rw here.there rest.there;
        unmeasured = ap (λ (l : Paths). l ++ joined (map (λ (e : List ℕ × Paths). e.1) (map_values paths_of es))) here.unmeasured ∙ rest.unmeasured;
      }

  there_fields : (es : Fields) → is_there measures (value.Fields es) ≡ all_true (map (λ e. e.1) (map_values (is_there measures) es))
  there_fields es = search (rules, the_lemmas)

  paths_fields : (es : Fields) → paths_of (value.Fields es) ≡ joined (map (λ e. e.1) (map_values paths_of es))
  paths_fields es = search (rules, the_lemmas)

  fields_case : (es : Fields) → AllByRecursion (λ (e : List ℕ × Value). P e.1) es → P (value.Fields es)
  fields_case es each none =
      let them = all_fields es each (sym (held_fields es) ∙ none) in
      record {
        there = there_fields es ∙ them.there;
        unmeasured = paths_fields es ∙ them.unmeasured;
        no_file = search (rules, the_lemmas);
        as_is = search (rules, the_lemmas);
        no_files = search (rules, the_lemmas);
        all_as_is = search (rules, the_lemmas);
      }

  cases : Cases P (λ f. Unit {0}) (λ d. Unit {0})
  cases = record {
    null = λ _. record { there = search (rules, the_lemmas); unmeasured = search (rules, the_lemmas); no_file = search (rules, the_lemmas); as_is = search (rules, the_lemmas); no_files = search (rules, the_lemmas); all_as_is = search (rules, the_lemmas) };
    boolean = λ b _. record { there = search (rules, the_lemmas); unmeasured = search (rules, the_lemmas); no_file = search (rules, the_lemmas); as_is = search (rules, the_lemmas); no_files = search (rules, the_lemmas); all_as_is = search (rules, the_lemmas) };
    whole = λ n _. record { there = search (rules, the_lemmas); unmeasured = search (rules, the_lemmas); no_file = search (rules, the_lemmas); as_is = search (rules, the_lemmas); no_files = search (rules, the_lemmas); all_as_is = search (rules, the_lemmas) };
    text = λ s _. record { there = search (rules, the_lemmas); unmeasured = search (rules, the_lemmas); no_file = search (rules, the_lemmas); as_is = search (rules, the_lemmas); no_files = search (rules, the_lemmas); all_as_is = search (rules, the_lemmas) };
    file = λ f _ none. absurd (true≢false (sym (held_file f) ∙ none));
    dir = λ d _ none. absurd (true≢false (sym (held_dir d) ∙ none));
    list = list_case;
    fields = fields_case;
    a_file = λ f _. tt;
    a_dir = λ d _. tt;
  }

  pub bare : (v : Value) → holds_files v ≡ false → Bare v
  bare = induction cases

pub untouched : UntouchedWithoutFiles
untouched measures declared v none =
    let is = bare measures (file_beside measures declared) v none in
    record { there = is.there; has_all = rw is.no_files refl; stays = rw (fileless_stays (as_measured measures) (measured_descends measures) v none) is.all_as_is; unmeasured = is.unmeasured }
