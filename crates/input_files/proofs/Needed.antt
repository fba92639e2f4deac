-- A path is measured exactly where it is needed, and once.
use Rattle.std.proofs.Common.{◌≡◌, ◌⊎◌, inl, inr, ℕ, ◌<◌, Bool, true, false, true≢false, ◌||◌, List, [], ◌∷◌, ◌++◌, length, get_or, map, Option, Some, None, refl, sym, ap, subst, ◌∙◌, rules, cond, arith}
use Rattle.std.specs.Prelude.{◌≢◌, bytes_eq, fold}
use Rattle.std.specs.Cmp.Lexicographic.{nat_list_eq_equiv}
use Rattle.std.specs.List.{AllByRecursion, AllPairs, Contains, flat_map, list_any}
use Rattle.std.specs.Option.{IfSome, option_map_or}
use Rattle.std.proofs.lemmas.List.Elements.{Contains-append_left, Contains-append_right, Contains-append_cases, Contains-get_or, Contains-push, Contains-push_cases}
use Rattle.std.proofs.lemmas.List.Folds.{list_any-append}
use Rattle.std.proofs.lemmas.List.Quantifiers.{all_pairs_push}
use Rattle.std.proofs.lemmas.Map.Views.{Contains-from_any, list_any-from_Contains}
use Rattle.std.proofs.lemmas.Slice.Eq.{bytes_eq-Decides}
use Rattle.plain_data.specs.ByName.{map_values}
use Rattle.cwl_process.specs.declared.tool.SecondaryFile.{SecondaryFile}
use Rattle.cwl_value.proofs.Induction.{Cases, induction}
use Rattle.cwl_value.specs.declared.place.Place.{Place}
use Rattle.cwl_value.specs.declared.place.Place.TheVariants as place
use Rattle.cwl_value.specs.declared.value.Value.{Value, the_lemmas}
use Rattle.cwl_value.specs.declared.value.Value as value
use Rattle.cwl_value.specs.declared.value.Value.TheOpen.{FileVal-F, DirVal-F}
use Rattle.cwl_value.specs.declared.value.FileVal.{FileVal, roll-FileVal, fold-FileVal}
use Rattle.cwl_value.specs.declared.value.DirVal.{DirVal, roll-DirVal, fold-DirVal}
use Rattle.staging.proofs.Numbered.{contains_cons}
use Rattle.staging.proofs.Together.{nothing_in}
use Rattle.input_files.specs.Beside.{looked_for}
use Rattle.input_files.specs.Given.{Name, Fields, NamedInput, value_under}
use Rattle.cwl_value.specs.Fileless.{some_true}
use Rattle.input_files.specs.Laws.{is_at, holds_at, dir_holds_path, file_holds_path, holds_path, Needs, PathsAreThoseNeeded}
use Rattle.input_files.specs.Paths.{Paths, own_path, joined, paths_of, paths_of_file, paths_of_dir, paths_of_fields, default_adds, input_adds, with_new, each_once}

-- lists

module _ {X : Type 0} where
  first_in : (x : X) (xs : List X) → Contains (x ∷ xs) x
  first_in x xs = Contains-append_left (x ∷ []) xs x (Contains-push [] x)

  later_in : (x : X) (xs : List X) (y : X) → Contains xs y → Contains (x ∷ xs) y
  later_in x xs y h = Contains-append_right (x ∷ []) xs y h

  record From (f : X → Paths) (xs : List X) (path : Name) : Type 0 where
    from : X
    one : Contains xs from
    there : Contains (f from) path

  from_some : (f : X → Paths) (xs : List X) (path : Name) → Contains (flat_map f xs) path → From f xs path
  from_some f [] path h = absurd (nothing_in path h)
  from_some f (x ∷ xs) path h = by (Contains-append_cases (f x) (flat_map f xs) path h) (from_some f xs path) where
    by : Contains (f x) path ⊎ Contains (flat_map f xs) path → (Contains (flat_map f xs) path → From f xs path) → From f (x ∷ xs) path
    by (inl here) on = record { from = x; one = first_in x xs; there = here }
    by (inr later) on = let found = on later in record { from = found.from; one = later_in x xs found.from found.one; there = found.there }

  some_from : (f : X → Paths) (xs : List X) (x : X) (path : Name) → Contains xs x → Contains (f x) path → Contains (flat_map f xs) path
  some_from f [] x path one there = absurd (nothing_in x one)
  some_from f (y ∷ ys) x path one there = by (contains_cons y ys x one) (λ later. some_from f ys x path later there) where
    by : (y ≡ x) ⊎ Contains ys x → (Contains ys x → Contains (flat_map f ys) path) → Contains (flat_map f (y ∷ ys)) path
    by (inl same) on = Contains-append_left (f y) (flat_map f ys) path (subst (λ (z : X). Contains (f z) path) (sym same) there)
    by (inr later) on = Contains-append_right (f y) (flat_map f ys) path (on later)

-- names each once

new_in : (kept : Paths) (name other : Name) → Contains (with_new kept name) other → Contains kept other ⊎ (name ≡ other)
new_in kept name other h = by (list_any (bytes_eq name) kept) refl h where
  by : (b : Bool) → list_any (bytes_eq name) kept ≡ b → Contains (cond b kept (kept ++ name ∷ [])) other → Contains kept other ⊎ (name ≡ other)
  by true is h = inl h
  by false is h = Contains-push_cases kept name other h

in_new : (kept : Paths) (name other : Name) → Contains kept other ⊎ (name ≡ other) → Contains (with_new kept name) other
in_new kept name other h = by (list_any (bytes_eq name) kept) refl h where
  by : (b : Bool) → list_any (bytes_eq name) kept ≡ b → Contains kept other ⊎ (name ≡ other) → Contains (cond b kept (kept ++ name ∷ [])) other
  by true is (inl before) = before
  by true is (inr same) = subst (Contains kept) same (Contains-from_any (λ x y. (bytes_eq-Decides x y).0) name kept is)
  by false is (inl before) = Contains-append_left kept (name ∷ []) other before
  by false is (inr same) = subst (Contains (kept ++ name ∷ [])) same (Contains-push kept name)

once_in : (names kept : Paths) (name : Name) → Contains (fold with_new kept names) name → Contains kept name ⊎ Contains names name
once_in [] kept name h = inl h
once_in (other ∷ names) kept name h = by (once_in names (with_new kept other) name h) where
  first : Contains kept name ⊎ (other ≡ name) → Contains kept name ⊎ Contains (other ∷ names) name
  first (inl before) = inl before
  first (inr same) = inr (subst (Contains (other ∷ names)) same (first_in other names))

  by : Contains (with_new kept other) name ⊎ Contains names name → Contains kept name ⊎ Contains (other ∷ names) name
  by (inl here) = first (new_in kept other name here)
  by (inr later) = inr (later_in other names name later)

in_once : (names kept : Paths) (name : Name) → Contains kept name ⊎ Contains names name → Contains (fold with_new kept names) name
in_once [] kept name (inl before) = before
in_once [] kept name (inr none) = absurd (nothing_in name none)
in_once (other ∷ names) kept name (inl before) = in_once names (with_new kept other) name (inl (in_new kept other name (inl before)))
in_once (other ∷ names) kept name (inr there) = in_once names (with_new kept other) name (by (contains_cons other names name there)) where
  by : (other ≡ name) ⊎ Contains names name → Contains (with_new kept other) name ⊎ Contains names name
  by (inl same) = inl (in_new kept other name (inr same))
  by (inr later) = inr later

abbrev Differ : Paths → Type 0
Differ names = AllPairs (λ a b. a ≢ b) names

new_differ : (kept : Paths) (name : Name) → Differ kept → Differ (with_new kept name)
new_differ kept name before = by (list_any (bytes_eq name) kept) refl where
  apart : list_any (bytes_eq name) kept ≡ false → (k : ℕ) (d : Name) → k < length kept → get_or kept k d ≢ name
  apart is k d within same =
      true≢false (sym (list_any-from_Contains nat_list_eq_equiv name kept (subst (Contains kept) same (Contains-get_or kept k d within))) ∙ is)

  by : (b : Bool) → list_any (bytes_eq name) kept ≡ b → Differ (cond b kept (kept ++ name ∷ []))
  by true is = before
  by false is = all_pairs_push (λ a b. a ≢ b) kept name before (apart is)

once_differ : (names kept : Paths) → Differ kept → Differ (fold with_new kept names)
once_differ [] kept before = before
once_differ (name ∷ names) kept before = once_differ names (with_new kept name) (new_differ kept name before)

-- the paths of a value

or_false : (b : Bool) → (b || false) ≡ b
or_false true = refl
or_false false = refl

module _ (path : Name) where
  abbrev stands : Paths → Bool
  stands paths = list_any (bytes_eq path) paths

  abbrev P : Value → Type 0
  P v = stands (paths_of v) ≡ holds_path path v

  abbrev file_holds : FileVal → Bool
  file_holds = fold-FileVal Bool Bool Bool holds_at (dir_holds_path path) (file_holds_path path)

  abbrev dir_holds : DirVal → Bool
  dir_holds = fold-DirVal Bool Bool Bool holds_at (dir_holds_path path) (file_holds_path path)

  abbrev Q : FileVal → Type 0
  Q f = stands (paths_of_file f) ≡ file_holds f

  abbrev R : DirVal → Type 0
  R d = stands (paths_of_dir d) ≡ dir_holds d

  own : (p : Place) → stands (own_path p) ≡ is_at path p
  own place.Nowhere = refl
  own (place.Url location) = refl
  own (place.Path other) = or_false (bytes_eq path other)
  own (place.Made job name) = refl

  items : (vs : List Value) → AllByRecursion P vs → stands (joined (map paths_of vs)) ≡ some_true (map (holds_path path) vs)
  items [] each = refl
  items (v ∷ vs) each =
      list_any-append (bytes_eq path) (paths_of v) (joined (map paths_of vs)) ∙ ap (λ b. b || stands (joined (map paths_of vs))) each.0
      ∙ ap (λ b. holds_path path v || b) (items vs each.1)

  fields : (es : Fields) → AllByRecursion (λ (e : List ℕ × Value). P e.1) es
      → stands (joined (map (λ e. e.1) (map_values paths_of es))) ≡ some_true (map (λ e. e.1) (map_values (holds_path path) es))
  fields [] each = refl
  fields (e ∷ es) each =
      list_any-append (bytes_eq path) (paths_of e.1) (joined (map (λ (e : List ℕ × Paths). e.1) (map_values paths_of es)))
      ∙ ap (λ b. b || stands (joined (map (λ (e : List ℕ × Paths). e.1) (map_values paths_of es)))) each.0
      ∙ ap (λ b. holds_path path e.1 || b) (fields es each.1)

  abbrev inside : Option (List Value) → Paths
  inside None = []
  inside (Some vs) = joined (map paths_of vs)

  abbrev held : Option (List Value) → Bool
  held None = false
  held (Some vs) = some_true (map (holds_path path) vs)

  listed : (o : Option (List Value)) → IfSome o (AllByRecursion P) → stands (inside o) ≡ held o
  listed None each = refl
  listed (Some vs) each = items vs each

  file_paths_level : (f : FileVal-F Value DirVal FileVal) → paths_of_file (roll-FileVal f) ≡ own_path f.place ++ joined (map paths_of f.secondary)
  file_paths_level f = search (rules, the_lemmas)

  file_holds_level : (f : FileVal-F Value DirVal FileVal) → file_holds (roll-FileVal f) ≡ (is_at path f.place || some_true (map (holds_path path) f.secondary))
  file_holds_level f = search (rules, the_lemmas)

  dir_paths_level : (p : Place) (basename : Option Name) (l : Option (List Value))
      → paths_of_dir (roll-DirVal (record { place = p; basename = basename; listing = l })) ≡ own_path p ++ inside l
  dir_paths_level p basename None = search (rules, the_lemmas)
  dir_paths_level p basename (Some vs) = search (rules, the_lemmas)

  dir_holds_level : (p : Place) (basename : Option Name) (l : Option (List Value))
      → dir_holds (roll-DirVal (record { place = p; basename = basename; listing = l })) ≡ (is_at path p || held l)
  dir_holds_level p basename None = search (rules, the_lemmas)
  dir_holds_level p basename (Some vs) = search (rules, the_lemmas)

  both : (p : Place) (rest : Paths) (b : Bool) → stands rest ≡ b → stands (own_path p ++ rest) ≡ (is_at path p || b)
  both p rest b is = list_any-append (bytes_eq path) (own_path p) rest ∙ ap (λ c. c || stands rest) (own p) ∙ ap (λ c. is_at path p || c) is

  a_file : (f : FileVal-F Value DirVal FileVal) → AllByRecursion P f.secondary → Q (roll-FileVal f)
  a_file f each =
      ap stands (file_paths_level f) ∙ both f.place (joined (map paths_of f.secondary)) (some_true (map (holds_path path) f.secondary)) (items f.secondary each)
      ∙ sym (file_holds_level f)

  a_dir : (d : DirVal-F Value DirVal FileVal) → IfSome d.listing (AllByRecursion P) → R (roll-DirVal d)
  a_dir d each =
      ap stands (dir_paths_level d.place d.basename d.listing) ∙ both d.place (inside d.listing) (held d.listing) (listed d.listing each)
      ∙ sym (dir_holds_level d.place d.basename d.listing)

  of_list : (vs : List Value) → AllByRecursion P vs → P (value.List vs)
  of_list vs each =
      let paths : paths_of (value.List vs) ≡ joined (map paths_of vs) = search (rules, the_lemmas) in
      let holds : holds_path path (value.List vs) ≡ some_true (map (holds_path path) vs) = search (rules, the_lemmas) in
      ap stands paths ∙ items vs each ∙ sym holds

  of_fields : (es : Fields) → AllByRecursion (λ (e : List ℕ × Value). P e.1) es → P (value.Fields es)
  of_fields es each =
      let paths : paths_of (value.Fields es) ≡ joined (map (λ e. e.1) (map_values paths_of es)) = search (rules, the_lemmas) in
      let holds : holds_path path (value.Fields es) ≡ some_true (map (λ e. e.1) (map_values (holds_path path) es)) = search (rules, the_lemmas) in
      ap stands paths ∙ fields es each ∙ sym holds

  of_file : (f : FileVal) → Q f → P (value.FileVal f)
  of_file f is =
      let paths : paths_of (value.FileVal f) ≡ paths_of_file f = search (rules, the_lemmas) in
      let holds : holds_path path (value.FileVal f) ≡ file_holds f = search (rules, the_lemmas) in
      ap stands paths ∙ is ∙ sym holds

  of_dir : (d : DirVal) → R d → P (value.DirVal d)
  of_dir d is =
      let paths : paths_of (value.DirVal d) ≡ paths_of_dir d = search (rules, the_lemmas) in
      let holds : holds_path path (value.DirVal d) ≡ dir_holds d = search (rules, the_lemmas) in
      ap stands paths ∙ is ∙ sym holds

  cases : Cases P Q R
  cases = record {
    null = search (rules, the_lemmas);
    boolean = λ b. search (rules, the_lemmas);
    whole = λ n. search (rules, the_lemmas);
    text = λ s. search (rules, the_lemmas);
    file = of_file;
    dir = of_dir;
    list = of_list;
    fields = of_fields;
    a_file = a_file;
    a_dir = a_dir;
  }

  holds_in : (v : Value) → Contains (paths_of v) path → holds_path path v ≡ true
  holds_in v h = sym (induction cases v) ∙ list_any-from_Contains nat_list_eq_equiv path (paths_of v) h

  in_holds : (v : Value) → holds_path path v ≡ true → Contains (paths_of v) path
  in_holds v h = Contains-from_any (λ x y. (bytes_eq-Decides x y).0) path (paths_of v) (induction cases v ∙ h)

-- the paths of all inputs

by_field : (given : Fields) → paths_of_fields given ≡ flat_map (λ (e : Name × Value). paths_of e.1) given
by_field [] = refl
by_field (e ∷ es) = ap (λ l. paths_of e.1 ++ l) (by_field es)

module _ (inputs : List NamedInput) (given : Fields) (path : Name) where
  abbrev adds : List SecondaryFile → Option Value → Paths
  adds declared default = option_map_or (default_adds declared) default []

  of_default : (input : NamedInput) (default : Option Value) → Contains inputs input → input.1.default ≡ default
      → Contains (adds input.1.secondary_files default) path → Needs inputs given path
  of_default input None one is h = absurd (nothing_in path h)
  of_default input (Some v) one is h = by (Contains-append_cases (paths_of v) (looked_for input.1.secondary_files v) path h) where
    by : Contains (paths_of v) path ⊎ Contains (looked_for input.1.secondary_files v) path → Needs inputs given path
    by (inl in_value) = Needs.of_default input v one is (holds_in path v in_value)
    by (inr beside) = Needs.beside_default input v one is beside

  of_input : (input : NamedInput) → Contains inputs input → Contains (input_adds given input) path → Needs inputs given path
  of_input input one h = by (Contains-append_cases (looked_for input.1.secondary_files (value_under input.0 given)) (adds input.1.secondary_files input.1.default) path h) where
    by : Contains (looked_for input.1.secondary_files (value_under input.0 given)) path ⊎ Contains (adds input.1.secondary_files input.1.default) path → Needs inputs given path
    by (inl beside) = Needs.beside_given input one beside
    by (inr default) = of_default input input.1.default one refl default

  needed : Contains (paths_of_fields given ++ flat_map (input_adds given) inputs) path → Needs inputs given path
  needed h = by (Contains-append_cases (paths_of_fields given) (flat_map (input_adds given) inputs) path h) where
    by : Contains (paths_of_fields given) path ⊎ Contains (flat_map (input_adds given) inputs) path → Needs inputs given path
    by (inl in_given) =
        let found = from_some (λ (e : Name × Value). paths_of e.1) given path (subst (λ (l : Paths). Contains l path) (by_field given) in_given) in
        Needs.of_given found.from found.one (holds_in path found.from.1 found.there)
    by (inr in_inputs) = let found = from_some (input_adds given) inputs path in_inputs in of_input found.from found.one found.there

  in_given : Contains (paths_of_fields given) path → Contains (paths_of_fields given ++ flat_map (input_adds given) inputs) path
  in_given h = Contains-append_left (paths_of_fields given) (flat_map (input_adds given) inputs) path h

  in_input : (input : NamedInput) → Contains inputs input → Contains (input_adds given input) path → Contains (paths_of_fields given ++ flat_map (input_adds given) inputs) path
  in_input input one h = Contains-append_right (paths_of_fields given) (flat_map (input_adds given) inputs) path (some_from (input_adds given) inputs input path one h)

  in_default : (input : NamedInput) (v : Value) → input.1.default ≡ Some v → Contains (default_adds input.1.secondary_files v) path → Contains (input_adds given input) path
  in_default input v is h =
      Contains-append_right (looked_for input.1.secondary_files (value_under input.0 given)) (adds input.1.secondary_files input.1.default) path
      (subst (λ (d : Option Value). Contains (adds input.1.secondary_files d) path) (sym is) h)

  there : Needs inputs given path → Contains (paths_of_fields given ++ flat_map (input_adds given) inputs) path
  there (Needs.of_given field one h) =
      in_given (subst (λ (l : Paths). Contains l path) (sym (by_field given)) (some_from (λ (e : Name × Value). paths_of e.1) given field path one (in_holds path field.1 h)))
  there (Needs.of_default input v one is h) =
      in_input input one (in_default input v is (Contains-append_left (paths_of v) (looked_for input.1.secondary_files v) path (in_holds path v h)))
  there (Needs.beside_given input one h) =
      in_input input one (Contains-append_left (looked_for input.1.secondary_files (value_under input.0 given)) (adds input.1.secondary_files input.1.default) path h)
  there (Needs.beside_default input v one is h) =
      in_input input one (in_default input v is (Contains-append_right (paths_of v) (looked_for input.1.secondary_files v) path h))

  once_needed : Contains (each_once (paths_of_fields given ++ flat_map (input_adds given) inputs)) path → Needs inputs given path
  once_needed h = by (once_in (paths_of_fields given ++ flat_map (input_adds given) inputs) [] path h) where
    by : Contains [] path ⊎ Contains (paths_of_fields given ++ flat_map (input_adds given) inputs) path → Needs inputs given path
    by (inl none) = absurd (nothing_in path none)
    by (inr some) = needed some

pub those_needed : PathsAreThoseNeeded
those_needed inputs given = record {
  members = λ path. (
    once_needed inputs given path,
    (λ needs. in_once (paths_of_fields given ++ flat_map (input_adds given) inputs) [] path (inr (there inputs given path needs))),
  );
  once = once_differ (paths_of_fields given ++ flat_map (input_adds given) inputs) [] (λ i j d low high. absurd (omega arith));
}
