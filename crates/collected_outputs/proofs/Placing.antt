-- Values of the output object that are placed one after another.
use Rattle.std.proofs.Common.{◌≡◌, ℕ, List, [], ◌∷◌, ◌++◌, Bool, true, false, map, refl, ap, ◌==◌}
use Rattle.std.proofs.lemmas.Bool.{eqb-true}
use Rattle.std.proofs.lemmas.Simd.{map-map}
use Rattle.plain_data.specs.ByName.{map_values}
use Rattle.cwl_value.specs.declared.value.Value.{Value}
use Rattle.collected_outputs.specs.Gives.{Gives, and_map, all_given}
use Rattle.collected_outputs.specs.Listing.{Listing}
use Rattle.collected_outputs.specs.Matched.{Name}
use Rattle.collected_outputs.specs.Object.{placed, all_named, without_last_slash}

-- a field, with its value placed
abbrev pub field_placed : Listing → Name × Value → Gives (Name × Value)
field_placed listing e = and_map (λ v. (e.0, v)) (placed listing e.1)

pub all_fields : (listing : Listing) (es : List (Name × Value)) → all_named (map_values (placed listing) es) ≡ all_given (map (field_placed listing) es)
all_fields listing es = ap all_given (map-map (λ (e : Name × Gives Value). and_map (λ v. (e.0, v)) e.1) (λ (e : Name × Value). (e.0, placed listing e.1)) es)

-- a slash at the end
pub slash_dropped : (text : List ℕ) → without_last_slash (text ++ 47 ∷ []) ≡ text
slash_dropped [] = refl
slash_dropped (c ∷ []) = refl
slash_dropped (c ∷ d ∷ text) = ap (λ l. c ∷ l) (slash_dropped (d ∷ text))

pub no_slash_kept : (text : List ℕ) → ((front : List ℕ) → text ≡ front ++ 47 ∷ [] → ⊥) → without_last_slash text ≡ text
no_slash_kept [] none = refl
no_slash_kept (c ∷ []) none = by_test (c == 47) refl where
  by_test : (b : Bool) → (c == 47) ≡ b → without_last_slash (c ∷ []) ≡ c ∷ []
  by_test true is = absurd (none [] (ap (λ n. n ∷ []) (eqb-true c 47 is)))
  by_test false is = rw is refl
no_slash_kept (c ∷ d ∷ text) none = ap (λ l. c ∷ l) (no_slash_kept (d ∷ text) (λ front is. none (c ∷ front) (ap (λ l. c ∷ l) is)))
