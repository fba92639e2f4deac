-- The words of a value, level by level.
use Rattle.std.proofs.Common.{◌≡◌, ℕ, ℤ, Bool, true, false, List, [], ◌∷◌, Some, None, map, option_map, refl, sym, ap, ◌∙◌, ◌++◌, if◌then◌else◌}
use Rattle.std.specs.Option.{option_to_list}
use Rattle.cwl_value.specs.declared.value.Value.{Value, roll-Value, out-roll-Value}
use Rattle.cwl_value.specs.declared.value.Value as value
use Rattle.cwl_value.specs.declared.value.Value.TheFolds.{map-Value, para-roll-Value}
use Rattle.cwl_value.specs.declared.value.Value.TheOpen.{Value-F}
use Rattle.cwl_value.specs.declared.value.Value.TheVariants.{rolls-Null, rolls-Bool, rolls-Whole, rolls-Text, rolls-FileVal, rolls-DirVal, rolls-List, rolls-Fields}
use Rattle.cwl_value.specs.declared.value.FileVal.{FileVal}
use Rattle.cwl_value.specs.declared.value.DirVal.{DirVal}
use Rattle.cwl_types.specs.declared.types.MemberType.{MemberType}
use Rattle.command_line.specs.Added.{Adds, Style, adds, appended, array_of, gathered, item_style, item_types, list_adds, prefixed, separated, text_at, text_of, value_adds, words_of_items}
use Rattle.command_line.specs.inner.Lists.{each_words, joined_words}

abbrev with_adds : Value-F Value DirVal FileVal → Value-F (Value × Adds) (DirVal × Unit {0}) (FileVal × Unit {0})
with_adds = map-Value Value DirVal FileVal (Value × Adds) (DirVal × Unit {0}) (FileVal × Unit {0}) (λ v. (v, adds v)) (λ d. (d, tt)) (λ f. (f, tt))

rolled : (x : Value-F Value DirVal FileVal) → adds (roll-Value x) ≡ value_adds (with_adds x)
rolled x = para-roll-Value Adds (Unit {0}) (Unit {0}) value_adds (λ dir. tt) (λ file. tt) x

map_id : {X : Type 0} (vs : List X) (f : X → Adds) → map (λ (i : X × Adds). i.0) (map (λ v. (v, f v)) vs) ≡ vs
map_id [] f = refl
map_id (v ∷ vs) f = ap (λ us. v ∷ us) (map_id vs f)

gathered_beside : {X : Type 0} (vs : List X) (f : X → Adds) (types : List MemberType) (style : Style) → gathered (λ (i : X × Adds). i.1 types style) (map (λ v. (v, f v)) vs) ≡ gathered (λ v. f v types style) vs
gathered_beside [] f types style = refl
gathered_beside (v ∷ vs) f types style = ap (λ rest. appended (f v types style) rest) (gathered_beside vs f types style)

module _ (types : List MemberType) (style : Style) where
  pub adds-Null : adds value.Null types style ≡ Some []
  adds-Null = ap (λ (v : Value). adds v types style) (sym rolls-Null) ∙ ap (λ (f : Adds). f types style) (rolled Value-F.Null)

  by_flag : (b : Bool) → value_adds (Value-F.Bool b) types style ≡ Some (if b then option_to_list style.prefix else [])
  by_flag true = refl
  by_flag false = refl

  pub adds-Bool : (b : Bool) → adds (value.Bool b) types style ≡ Some (if b then option_to_list style.prefix else [])
  adds-Bool b = ap (λ (v : Value). adds v types style) (sym (rolls-Bool b)) ∙ ap (λ (f : Adds). f types style) (rolled (Value-F.Bool b)) ∙ by_flag b

  pub adds-Fields : (es : List (List ℕ × Value)) → adds (value.Fields es) types style ≡ Some (option_to_list style.prefix)
  adds-Fields es = ap (λ (v : Value). adds v types style) (sym (rolls-Fields es)) ∙ ap (λ (f : Adds). f types style) (rolled (Value-F.Fields es))

  pub adds-Whole : (n : ℤ) → adds (value.Whole n) types style ≡ option_map (prefixed style) (text_of (value.Whole n))
  adds-Whole n = ap (λ (v : Value). adds v types style) (sym (rolls-Whole n)) ∙ ap (λ (f : Adds). f types style) (rolled (Value-F.Whole n)) ∙ sym (ap (λ (v : Value). option_map (prefixed style) (text_of v)) (sym (rolls-Whole n)) ∙ ap (λ (x : Value-F Value DirVal FileVal). option_map (prefixed style) (text_at x)) (out-roll-Value (Value-F.Whole n)))

  pub adds-Text : (t : List ℕ) → adds (value.Text t) types style ≡ option_map (prefixed style) (text_of (value.Text t))
  adds-Text t = ap (λ (v : Value). adds v types style) (sym (rolls-Text t)) ∙ ap (λ (f : Adds). f types style) (rolled (Value-F.Text t)) ∙ sym (ap (λ (v : Value). option_map (prefixed style) (text_of v)) (sym (rolls-Text t)) ∙ ap (λ (x : Value-F Value DirVal FileVal). option_map (prefixed style) (text_at x)) (out-roll-Value (Value-F.Text t)))

  pub adds-FileVal : (f : FileVal) → adds (value.FileVal f) types style ≡ option_map (prefixed style) (text_of (value.FileVal f))
  adds-FileVal f = ap (λ (v : Value). adds v types style) (sym (rolls-FileVal f)) ∙ ap (λ (g : Adds). g types style) (rolled (Value-F.FileVal f)) ∙ sym (ap (λ (v : Value). option_map (prefixed style) (text_of v)) (sym (rolls-FileVal f)) ∙ ap (λ (x : Value-F Value DirVal FileVal). option_map (prefixed style) (text_at x)) (out-roll-Value (Value-F.FileVal f)))

  pub adds-DirVal : (d : DirVal) → adds (value.DirVal d) types style ≡ option_map (prefixed style) (text_of (value.DirVal d))
  adds-DirVal d = ap (λ (v : Value). adds v types style) (sym (rolls-DirVal d)) ∙ ap (λ (g : Adds). g types style) (rolled (Value-F.DirVal d)) ∙ sym (ap (λ (v : Value). option_map (prefixed style) (text_of v)) (sym (rolls-DirVal d)) ∙ ap (λ (x : Value-F Value DirVal FileVal). option_map (prefixed style) (text_at x)) (out-roll-Value (Value-F.DirVal d)))

  adds-List : (vs : List Value) → adds (value.List vs) types style ≡ list_adds (map (λ v. (v, adds v)) vs) types style
  adds-List vs = ap (λ (v : Value). adds v types style) (sym (rolls-List vs)) ∙ ap (λ (f : Adds). f types style) (rolled (Value-F.List vs))

  joined_adds : (separator : List ℕ) (vs : List Value) → style.separator ≡ Some separator → list_adds (map (λ v. (v, adds v)) vs) types style ≡ joined_words style separator vs
  joined_adds separator [] is = refl
  joined_adds separator (v ∷ vs) is =
      ap (λ s. words_of_items s ((v, adds v) ∷ map (λ w. (w, adds w)) vs) types style) is
      ∙ ap (λ us. option_map (prefixed style) (separated separator us)) (map_id (v ∷ vs) adds)

  each_adds : (vs : List Value) → style.separator ≡ None → list_adds (map (λ v. (v, adds v)) vs) types style ≡ each_words style (array_of types (value.List vs)) vs
  each_adds [] is = refl
  each_adds (v ∷ vs) is =
      ap (λ s. words_of_items s ((v, adds v) ∷ map (λ w. (w, adds w)) vs) types style) is
      ∙ ap (λ us. let array = array_of types (value.List us) in option_map (λ words. option_to_list style.prefix ++ words) (gathered (λ (i : Value × Adds). i.1 (item_types array) (item_style array)) ((v, adds v) ∷ map (λ w. (w, adds w)) vs))) (map_id (v ∷ vs) adds)
      ∙ (let array = array_of types (value.List (v ∷ vs)) in ap (λ words. option_map (λ ws. option_to_list style.prefix ++ ws) words) (gathered_beside (v ∷ vs) adds (item_types array) (item_style array)))

  pub adds-List-joined : (vs : List Value) (separator : List ℕ) → style.separator ≡ Some separator → adds (value.List vs) types style ≡ joined_words style separator vs
  adds-List-joined vs separator is = adds-List vs ∙ joined_adds separator vs is

  pub adds-List-each : (vs : List Value) → style.separator ≡ None → adds (value.List vs) types style ≡ each_words style (array_of types (value.List vs)) vs
  adds-List-each vs is = adds-List vs ∙ each_adds vs is
