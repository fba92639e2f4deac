-- Values without Files and Directories are the same on every base, so nothing is wrong with them as defaults.
use Rattle.std.proofs.Common.{◌≡◌, ℕ, Bool, true, false, true≢false, List, [], ◌∷◌, map, Option, Some, None, Ok, refl, sym, ap, ◌∙◌, codes, rules}
use Rattle.std.specs.Prelude.{if◌then◌else◌, option_and_then}
use Rattle.std.specs.List.{AllByRecursion}
use Rattle.std.specs.Option.{option_map_or}
use Rattle.std.proofs.lemmas.Bool.{or_parts}
use Rattle.plain_data.specs.ByName.{map_values}
use Rattle.serde_json.specs.Data.{Data}
use Rattle.serde_json.specs.Find.{get}
use Rattle.cwl_value.specs.Fileless.{holds_files, some_true, stands_fileless}
use Rattle.cwl_value.specs.Reading.{reading}
use Rattle.cwl_value.specs.declared.value.DirVal.{DirVal}
use Rattle.cwl_value.specs.declared.value.FileVal.{FileVal}
use Rattle.cwl_value.specs.declared.value.Value.{Value, the_lemmas}
use Rattle.cwl_value.specs.declared.value.Value as value
use Rattle.cwl_value.proofs.WithoutFiles.{fileless_read, held_dir, held_fields, held_file, held_list, neither}
use Rattle.cwl_value.proofs.Induction.{Cases, induction}
use Rattle.file_values.specs.Location.{and_map}
use Rattle.file_values.specs.Resolved.{all_found, fields_found, has_long, resolved}
use Rattle.document_table.specs.Entries.{entries}
use Rattle.document_table.specs.declared.form.Kind.{Kind}
use Rattle.cwl_process.specs.FilelessDefaults.{has_fileless_default, have_fileless_defaults}
use Rattle.cwl_process.specs.FirstFaults.{first_in}
use Rattle.cwl_process.specs.Parameters.{if_read}
use Rattle.cwl_process.proofs.FilelessDefaults.{none_first}
use Rattle.url.specs.Parts.{Parts}
use Rattle.document_links.specs.Defaults.{default_fault, if_found, on_base, unplaced}

-- ---- values

module _ (base : Parts) where
  record Stays (v : Value) : Type 0 where
    pub long : has_long base v ≡ false
    pub same : resolved base v ≡ Ok v

  abbrev P : Value → Type 0
  P v = holds_files v ≡ false → Stays v

  record AllStay (vs : List Value) : Type 0 where
    pub long : some_true (map (has_long base) vs) ≡ false
    pub same : all_found (map (resolved base) vs) ≡ Ok vs

  all : (vs : List Value) → AllByRecursion P vs → some_true (map holds_files vs) ≡ false → AllStay vs
  all [] each none = record { long = refl; same = refl }
  all (v ∷ vs) each none =
      let parts = or_parts (holds_files v) (some_true (map holds_files vs)) none in
      let here = each.0 parts.0 in
      let rest = all vs each.1 parts.1 in
      record { long = neither (has_long base v) (some_true (map (has_long base) vs)) here.long rest.long; same = rw (here.same, rest.same) refl }

  record FieldsStay (es : List (List ℕ × Value)) : Type 0 where
    pub long : some_true (map (λ e. e.1) (map_values (has_long base) es)) ≡ false
    pub same : fields_found (map_values (resolved base) es) ≡ Ok es

  all_fields : (es : List (List ℕ × Value)) → AllByRecursion (λ (e : List ℕ × Value). P e.1) es → some_true (map (λ e. e.1) (map_values holds_files es)) ≡ false → FieldsStay es
  all_fields [] each none = record { long = refl; same = refl }
  all_fields (e ∷ es) each none =
      let parts = or_parts (holds_files e.1) (some_true (map (λ (e : List ℕ × Bool). e.1) (map_values holds_files es))) none in
      let here = each.0 parts.0 in
      let rest = all_fields es each.1 parts.1 in
      record {
        long = neither (has_long base e.1) (some_true (map (λ (e : List ℕ × Bool). e.1) (map_values (has_long base) es))) here.long rest.long;
        same = rw (here.same, rest.same) refl;
      }

  long_list : (vs : List Value) → has_long base (value.List vs) ≡ some_true (map (has_long base) vs)
  long_list vs = search (rules, the_lemmas)

  resolved_list : (vs : List Value) → resolved base (value.List vs) ≡ and_map value.List (all_found (map (resolved base) vs))
  resolved_list vs = search (rules, the_lemmas)

  list_case : (vs : List Value) → AllByRecursion P vs → P (value.List vs)
  list_case vs each none =
      let them = all vs each (sym (held_list vs) ∙ none) in
      record { long = long_list vs ∙ them.long; same = resolved_list vs ∙ ap (and_map value.List) them.same }

  long_fields : (es : List (List ℕ × Value)) → has_long base (value.Fields es) ≡ some_true (map (λ e. e.1) (map_values (has_long base) es))
  long_fields es = search (rules, the_lemmas)

  resolved_fields : (es : List (List ℕ × Value)) → resolved base (value.Fields es) ≡ and_map value.Fields (fields_found (map_values (resolved base) es))
  resolved_fields es = search (rules, the_lemmas)

  fields_case : (es : List (List ℕ × Value)) → AllByRecursion (λ (e : List ℕ × Value). P e.1) es → P (value.Fields es)
  fields_case es each none =
      let them = all_fields es each (sym (held_fields es) ∙ none) in
      record { long = long_fields es ∙ them.long; same = resolved_fields es ∙ ap (and_map value.Fields) them.same }

  cases : Cases P (λ f. Unit {0}) (λ d. Unit {0})
  cases = record {
    null = λ _. record { long = search (rules, the_lemmas); same = search (rules, the_lemmas) };
    boolean = λ b _. record { long = search (rules, the_lemmas); same = search (rules, the_lemmas) };
    whole = λ n _. record { long = search (rules, the_lemmas); same = search (rules, the_lemmas) };
    text = λ s _. record { long = search (rules, the_lemmas); same = search (rules, the_lemmas) };
    file = λ f _ none. absurd (true≢false (sym (held_file f) ∙ none));
    dir = λ d _ none. absurd (true≢false (sym (held_dir d) ∙ none));
    list = list_case;
    fields = fields_case;
    a_file = λ f _. tt;
    a_dir = λ d _. tt;
  }

  stays : (v : Value) → P v
  stays = induction cases

pub value_stays : (base : Parts) (v : Value) → holds_files v ≡ false → on_base base v ≡ Some v
value_stays base v none =
    let is = stays base v none in
    ap (λ long. if long then None else if_found (resolved base v)) is.long ∙ ap if_found is.same

-- ---- what is wrong

found_right : (base : Parts) (o : Option Data) → option_map_or stands_fileless o true ≡ true
    → option_map_or (λ v. unplaced (on_base base v)) (option_and_then (λ v. if_read (reading v)) o) None ≡ None
found_right base None is = refl
found_right base (Some d) is =
    let found = fileless_read d is in
    ap (λ r. option_map_or (λ v. unplaced (on_base base v)) (if_read r) None) found.1 ∙ ap unplaced (value_stays base found.0 found.2)

default_right : (base : Parts) (d : Data) → has_fileless_default d ≡ true → default_fault base d ≡ None
default_right base d is = found_right base (get (codes "default") d) is

pub no_default_fault : (base : Parts) (kind : Kind) (d : Data) → have_fileless_defaults d ≡ true → first_in (default_fault base) (entries kind d) ≡ None
no_default_fault base = none_first (default_fault base) (default_right base)
