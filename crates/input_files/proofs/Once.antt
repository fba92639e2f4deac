-- Names of entries whose values change, and names each once.
use Rattle.std.proofs.Common.{◌≡◌, ℕ, ◌+◌, ◌<◌, Bool, true, false, cond, ◌||◌, [], ◌∷◌, ◌++◌, length, get_or, take, append-nil, refl, sym, ap, subst, ◌∙◌}
use Rattle.std.specs.Prelude.{bytes_eq, map}
use Rattle.std.specs.List.{list_any}
use Rattle.std.specs.List.Sorted.{IsStrictlySortedBy}
use Rattle.std.specs.Cmp.Lexicographic.{nat_list_eq_equiv, slice_cmp}
use Rattle.std.specs.Ordering.{is_eq, nat_cmp}
use Rattle.std.proofs.lemmas.Map.Text.{is_eq-slice_cmp}
use Rattle.std.proofs.lemmas.List.{take_more}
use Rattle.std.proofs.lemmas.List.Folds.{list_any-append}
use Rattle.std.proofs.lemmas.List.Sums.{fold-append}
use Rattle.std.proofs.lemmas.Slice.Eq.{bytes_eq-Decides}
use Rattle.plain_data.specs.ByName.{IsByName, name_cmp, names}
use Rattle.input_files.specs.Given.{Name, Fields}
use Rattle.input_files.specs.Contents.{Asked, Heads, field_loaded}
use Rattle.input_files.specs.Paths.{Paths, with_new, each_once}

pub names_kept : (asked : Asked) (heads : Heads) (fields : Fields) → names (map (field_loaded asked heads) fields) ≡ names fields
names_kept asked heads [] = refl
names_kept asked heads (field ∷ more) = ap (λ l. field.0 ∷ l) (names_kept asked heads more)

-- what is loaded field by field is by name as before
pub loaded_by_name : (asked : Asked) (heads : Heads) (fields done rest loaded : Fields) → fields ≡ done ++ rest → rest ≡ [] → loaded ≡ map (field_loaded asked heads) done → IsByName fields → IsByName loaded
loaded_by_name asked heads fields done rest loaded whole end is order =
    let all : fields ≡ done = whole ∙ ap (λ l. done ++ l) end ∙ append-nil done in
    let same : names loaded ≡ names fields = ap names is ∙ names_kept asked heads done ∙ ap names (sym all) in
    subst (λ (ns : Paths). IsStrictlySortedBy name_cmp ns) (sym same) order

pub one_more : (ns : Paths) (i : ℕ) (name : Name) → i < length ns → name ≡ get_or ns i name → each_once (take (i + 1) ns) ≡ with_new (each_once (take i ns)) name
one_more ns i name within is =
    ap each_once (take_more ns i name within ∙ ap (λ y. take i ns ++ y ∷ []) (sym is)) ∙ fold-append with_new [] (take i ns) (name ∷ [])

-- the names that were seen, and one more
pub seen_more : (once : Paths) (name other : Name) (old new : Bool) → old ≡ list_any (bytes_eq other) once → new ≡ cond (is_eq (slice_cmp nat_cmp name other)) true old → new ≡ list_any (bytes_eq other) (with_new once name)
seen_more once name other old new was more =
    more
    ∙ ap (λ test. cond test true old) (is_eq-slice_cmp name other ∙ nat_list_eq_equiv.symm name other)
    ∙ ap (λ o. cond (bytes_eq other name) true o) was
    ∙ by_test (list_any (bytes_eq name) once) refl where
      joined : (test o : Bool) → cond test true o ≡ (o || (test || false))
      joined true true = refl
      joined true false = refl
      joined false true = refl
      joined false false = refl

      stays : (test : Bool) → bytes_eq other name ≡ test → list_any (bytes_eq name) once ≡ true → cond test true (list_any (bytes_eq other) once) ≡ list_any (bytes_eq other) once
      stays false same there = refl
      stays true same there = sym (ap (λ (n : Name). list_any (bytes_eq n) once) ((bytes_eq-Decides other name).0 same) ∙ there)

      by_test : (there : Bool) → list_any (bytes_eq name) once ≡ there → cond (bytes_eq other name) true (list_any (bytes_eq other) once) ≡ list_any (bytes_eq other) (with_new once name)
      by_test true there = rw there (stays (bytes_eq other name) refl there)
      by_test false there = rw there (joined (bytes_eq other name) (list_any (bytes_eq other) once) ∙ sym (list_any-append (bytes_eq other) once (name ∷ [])))
