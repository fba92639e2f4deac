-- What looks at Files and Directories alone leaves a value without them as it is.
use Rattle.std.proofs.Common.{◌≡◌, ℕ, ℤ, Bool, false, true≢false, List, [], ◌∷◌, map, refl, sym, ap, ◌∙◌, rules}
use Rattle.std.proofs.lemmas.Bool.{or_parts}
use Rattle.std.specs.List.{AllByRecursion}
use Rattle.plain_data.specs.ByName.{map_values}
use Rattle.cwl_value.specs.Fileless.{holds_files, some_true}
use Rattle.cwl_value.specs.Placed.{value_moved}
use Rattle.cwl_value.proofs.Induction.{Cases, induction}
use Rattle.cwl_value.proofs.WithoutFiles.{held_dir, held_fields, held_file, held_list}
use Rattle.cwl_value.specs.declared.place.Place.{Place}
use Rattle.cwl_value.specs.declared.value.Value.{Value, the_lemmas}
use Rattle.cwl_value.specs.declared.value.Value as value

-- what a change of values does but for Files and Directories
pub record Descends (change : Value → Value) : Type 0 where
  pub null : change value.Null ≡ value.Null
  pub boolean : (b : Bool) → change (value.Bool b) ≡ value.Bool b
  pub whole : (n : ℤ) → change (value.Whole n) ≡ value.Whole n
  pub text : (s : List ℕ) → change (value.Text s) ≡ value.Text s
  pub list : (vs : List Value) → change (value.List vs) ≡ value.List (map change vs)
  pub fields : (es : List (List ℕ × Value)) → change (value.Fields es) ≡ value.Fields (map_values change es)

module _ (change : Value → Value) (descends : Descends change) where
  abbrev Stays : Value → Type 0
  Stays v = holds_files v ≡ false → change v ≡ v

  items_stay : (vs : List Value) → AllByRecursion Stays vs → some_true (map holds_files vs) ≡ false → map change vs ≡ vs
  items_stay [] each none = refl
  items_stay (v ∷ vs) each none =
      let parts = or_parts (holds_files v) (some_true (map holds_files vs)) none in
      ap (λ (w : Value). w ∷ map change vs) (each.0 parts.0) ∙ ap (λ (l : List Value). v ∷ l) (items_stay vs each.1 parts.1)

  fields_stay : (es : List (List ℕ × Value)) → AllByRecursion (λ (e : List ℕ × Value). Stays e.1) es → some_true (map (λ e. e.1) (map_values holds_files es)) ≡ false → map_values change es ≡ es
  fields_stay [] each none = refl
  fields_stay (e ∷ es) each none =
      let parts = or_parts (holds_files e.1) (some_true (map (λ (x : List ℕ × Bool). x.1) (map_values holds_files es))) none in
      ap (λ (w : Value). (e.0, w) ∷ map_values change es) (each.0 parts.0) ∙ ap (λ (l : List (List ℕ × Value)). e ∷ l) (fields_stay es each.1 parts.1)

  pub fileless_stays : (v : Value) → holds_files v ≡ false → change v ≡ v
  fileless_stays = induction cases where
    cases : Cases Stays (λ f. Unit {0}) (λ d. Unit {0})
    cases = record {
      null = λ _. descends.null;
      boolean = λ b _. descends.boolean b;
      whole = λ n _. descends.whole n;
      text = λ s _. descends.text s;
      file = λ f _ none. absurd (true≢false (sym (held_file f) ∙ none));
      dir = λ d _ none. absurd (true≢false (sym (held_dir d) ∙ none));
      list = λ vs each none. descends.list vs ∙ ap value.List (items_stay vs each (sym (held_list vs) ∙ none));
      fields = λ es each none. descends.fields es ∙ ap value.Fields (fields_stay es each (sym (held_fields es) ∙ none));
      a_file = λ f _. tt;
      a_dir = λ d _. tt;
    }

moves : (move : Place → Place) → Descends (value_moved move)
moves move = record {
  null = search (rules, the_lemmas);
  boolean = λ b. search (rules, the_lemmas);
  whole = λ n. search (rules, the_lemmas);
  text = λ s. search (rules, the_lemmas);
  list = λ vs. search (rules, the_lemmas);
  fields = λ es. search (rules, the_lemmas);
}

pub fileless_placed : (move : Place → Place) (v : Value) → holds_files v ≡ false → value_moved move v ≡ v
fileless_placed move = fileless_stays (value_moved move) (moves move)
