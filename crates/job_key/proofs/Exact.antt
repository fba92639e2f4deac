-- The JSON of inputs and variables has no float, so its text is determined.
use Rattle.std.proofs.Common.{◌≡◌, ℕ, Bool, true, false, true≢false, ◌||◌, List, [], ◌∷◌, Option, Some, None, Ordering, Less, Equal, Greater, refl, map}
use Rattle.std.specs.List.{fold}
use Rattle.std.specs.Prelude.{unwrap_or, option_map}
use Rattle.std.specs.Ordering.{match_ordering}
use Rattle.plain_data.specs.ByName.{value_at}
use Rattle.serde_json.specs.Data.{Data, null, Members, no_members, member, put}
use Rattle.serde_json.specs.View.{items_of}
use Rattle.serde_json.specs.Written.{has_float, members_have_float, items_have_float}
use Rattle.cwl_value.specs.Erased.{erased}
use Rattle.cwl_value.specs.Json.{json_of}
use Rattle.cwl_value.specs.declared.value.Value.{Value}
use Rattle.cwl_value.proofs.NoFloat.{json_of-exact}
use Rattle.cwl_process.specs.declared.tool.ToolInput.{ToolInput}
use Rattle.job_key.specs.Key.{Fields, input_json, inputs_json, variable_json, variables_json}

or_false : (a b : Bool) → a ≡ false → b ≡ false → (a || b) ≡ false
or_false a b p q = rw (p, q) refl

parts : (a b : Bool) → (a || b) ≡ false → (a ≡ false) × (b ≡ false)
parts false b h = (refl, h)
parts true b h = absurd (true≢false h)

chosen : (o : Ordering) (a b c : Members) → members_have_float a ≡ false → members_have_float b ≡ false → members_have_float c ≡ false → members_have_float (match_ordering o a b c) ≡ false
chosen Less a b c p q r = p
chosen Equal a b c p q r = q
chosen Greater a b c p q r = r

put-exact : (k : List ℕ) (d : Data) (ms : Members) → has_float d ≡ false → members_have_float ms ≡ false → members_have_float (put k d ms) ≡ false
put-exact k d no_members p q = or_false (has_float d) false p refl
put-exact k d (member l e ms) p q =
    let both = parts (has_float e) (members_have_float ms) q in
    chosen _ (member k d (member l e ms)) (member l d ms) (member l e (put k d ms))
    (or_false (has_float d) _ p q) (or_false (has_float d) _ p both.1) (or_false (has_float e) _ both.0 (put-exact k d ms p both.1))

value-exact : (o : Option Value) → has_float (unwrap_or (option_map (λ v. json_of (erased v)) o) null) ≡ false
value-exact None = refl
value-exact (Some v) = json_of-exact (erased v)

abbrev put_in : Members → List ℕ × Data → Members
put_in ms m = put m.0 m.1 ms

inputs-from : (given : Fields) (inputs : List (List ℕ × ToolInput)) (ms : Members) → members_have_float ms ≡ false
    → members_have_float (fold put_in ms (map (λ (i : List ℕ × ToolInput). (i.0, input_json given i.0)) inputs)) ≡ false
inputs-from given [] ms h = h
inputs-from given (i ∷ inputs) ms h = inputs-from given inputs (put i.0 (input_json given i.0) ms) (put-exact i.0 (input_json given i.0) ms (value-exact (value_at i.0 given)) h)

pub exact : (inputs : List (List ℕ × ToolInput)) (given : Fields) → has_float (inputs_json inputs given) ≡ false
exact inputs given = inputs-from given inputs no_members refl

variable_items-exact : (variables : List (List ℕ × List ℕ)) → items_have_float (items_of (map variable_json variables)) ≡ false
variable_items-exact [] = refl
variable_items-exact (v ∷ variables) = variable_items-exact variables

pub variables_exact : (variables : List (List ℕ × List ℕ)) → has_float (variables_json variables) ≡ false
variables_exact variables = variable_items-exact variables
