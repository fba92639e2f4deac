-- Slots that all have a value.
use Rattle.std.proofs.Common.{◌≡◌, suc, List, [], ◌∷◌, ◌++◌, length, Option, Some, None, refl, sym, ap, ◌∙◌, arith, append_assoc}
use Rattle.std.specs.Prelude.{All, IsSome}
use Rattle.std.specs.List.{AllByRecursion}
use Rattle.std.proofs.lemmas.Bool.{false≢true}
use Rattle.std.proofs.lemmas.List.{append-nil}
use Rattle.std.proofs.lemmas.List.Elements.{filter_map-append, recursion_from_All}
use Rattle.cwl_value.specs.declared.value.Value.{Value}
use Rattle.scatter_shape.specs.Gathered.{values_in}

pub whole_more : (whole done left rest : List (Option Value)) (slot : Option Value) → whole ≡ done ++ left → left ≡ slot ∷ rest → whole ≡ (done ++ slot ∷ []) ++ rest
whole_more whole done left rest slot split is = split ∙ ap (λ xs. done ++ xs) is ∙ sym (append_assoc done (slot ∷ []) rest)

pub values_more : (done : List (Option Value)) (slot : Option Value) (v : Value) (values more : List Value) → slot ≡ Some v → values ≡ values_in done
    → more ≡ values ++ v ∷ [] → more ≡ values_in (done ++ slot ∷ [])
values_more done slot v values more is so_far pushed =
    pushed ∙ ap (λ xs. xs ++ v ∷ []) so_far ∙ sym (filter_map-append (λ x. x) done (Some v ∷ [])) ∙ ap (λ x. values_in (done ++ x ∷ [])) (sym is)

count_by_recursion : (slots : List (Option Value)) → AllByRecursion IsSome slots → length (values_in slots) ≡ length slots
count_by_recursion [] h = refl
count_by_recursion (None ∷ slots) h = absurd (false≢true h.0)
count_by_recursion (Some v ∷ slots) h = ap suc (count_by_recursion slots h.1)

pub length-values_in : (slots : List (Option Value)) → All IsSome slots → length (values_in slots) ≡ length slots
length-values_in slots h = count_by_recursion slots (recursion_from_All IsSome slots h)

pub values_all : (whole done left : List (Option Value)) (values : List Value) → whole ≡ done ++ left → length left ≡ 0 → values ≡ values_in done → values ≡ values_in whole
values_all whole done [] values split none so_far = so_far ∙ ap values_in (sym (split ∙ append-nil done))
values_all whole done (x ∷ left) values split none so_far = absurd (omega arith)
