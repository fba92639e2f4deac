-- A text is among the texts of the rows where a row has it.
use Rattle.std.proofs.Common.{◌≡◌, ℕ, List, [], ◌∷◌, ◌++◌, map, Bool, true, false, ◌||◌, Some, refl, sym, ap, ◌∙◌, bytes_eq, codes}
use Rattle.std.specs.Prelude.{is_some, if◌then◌else◌}
use Rattle.std.specs.Cmp.Lexicographic.{nat_list_eq_equiv}
use Rattle.std.specs.List.{list_any}
use Rattle.std.proofs.lemmas.List.Folds.{list_any-append}
use Rattle.document_table.specs.Texts.{is_type_text, types_ending}
use Rattle.cwl_types.specs.Named.{Named, named_at, named_rows, named_type}

found_at : (text : List ℕ) (row : Named) (rows : List Named) (test : Bool) → list_any (bytes_eq text) (map (λ (r : Named). r.text) rows) ≡ is_some (named_at text rows)
    → (test || list_any (bytes_eq text) (map (λ (r : Named). r.text) rows)) ≡ is_some (if test then Some row else named_at text rows)
found_at text row rows true later = refl
found_at text row rows false later = later

found : (text : List ℕ) (rows : List Named) → list_any (bytes_eq text) (map (λ (r : Named). r.text) rows) ≡ is_some (named_at text rows)
found text [] = refl
found text (row ∷ rows) =
    ap (λ test. test || list_any (bytes_eq text) (map (λ (r : Named). r.text) rows)) (nat_list_eq_equiv.symm text row.text)
    ∙ found_at text row rows (bytes_eq row.text text) (found text rows)

-- the texts of the four endings, one after another
joined : (text : List ℕ) (a b c d : List (List ℕ)) → (list_any (bytes_eq text) a || list_any (bytes_eq text) b || list_any (bytes_eq text) c || list_any (bytes_eq text) d) ≡ list_any (bytes_eq text) (a ++ b ++ c ++ d)
joined text a b c d =
    sym (list_any-append (bytes_eq text) (a ++ b ++ c) d
    ∙ ap (λ t. t || list_any (bytes_eq text) d) (list_any-append (bytes_eq text) (a ++ b) c ∙ ap (λ t. t || list_any (bytes_eq text) c) (list_any-append (bytes_eq text) a b)))

pub named : (text : List ℕ) → is_type_text text ≡ is_some (named_type text)
named text =
    joined text (types_ending (codes "")) (types_ending (codes "[]")) (types_ending (codes "?")) (types_ending (codes "[]?"))
    ∙ found text named_rows
