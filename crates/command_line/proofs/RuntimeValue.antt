-- The fields of `runtime` are in the order of their names.
use Rattle.std.proofs.Common.{◌≡◌, ℕ, List, [], ◌∷◌, ◌++◌, refl, codes, subst, sym, ◌∙◌, ap}
use Rattle.std.specs.List.Sorted.{IsStrictlySortedBy}
use Rattle.plain_data.specs.ByName.{IsByName}
use Rattle.cwl_value.specs.declared.value.Value.{Value}

by_name : (a b c : Value) → IsByName ((codes "cores", a) ∷ (codes "outdir", b) ∷ (codes "tmpdir", c) ∷ [])
unfolding IsStrictlySortedBy
by_name a b c = ((refl, (refl, tt)), ((refl, tt), (tt, tt)))

-- one field put after the other
pub fields_by_name : (a b c : Value) (p q r : List ℕ) (none one two all : List (List ℕ × Value)) → p ≡ codes "cores" → q ≡ codes "outdir" → r ≡ codes "tmpdir"
    → none ≡ [] → one ≡ none ++ (p, a) ∷ [] → two ≡ one ++ (q, b) ∷ [] → all ≡ two ++ (r, c) ∷ [] → IsByName all
fields_by_name a b c p q r none one two all is_p is_q is_r start first second third =
    subst (λ (xs : List (List ℕ × Value)). IsByName xs)
    (sym (third
    ∙ ap (λ n. two ++ (n, c) ∷ []) is_r
    ∙ ap (λ es. es ++ (codes "tmpdir", c) ∷ []) (second
    ∙ ap (λ n. one ++ (n, b) ∷ []) is_q
    ∙ ap (λ es. es ++ (codes "outdir", b) ∷ []) (first ∙ ap (λ n. none ++ (n, a) ∷ []) is_p ∙ ap (λ es. es ++ (codes "cores", a) ∷ []) start))))
    (by_name a b c)
