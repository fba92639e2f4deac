-- One more job that is touched, and what one more costs.
use Rattle.std.specs.Prelude.{◌<◌, ◌≤◌, Contains, slice_get, take}
use Rattle.std.proofs.Common.{◌≡◌, ◌∙◌, ◌⊎◌, inl, inr, ◌+◌, ℕ, zero, suc, Bool, true, false, cond, List, [], ◌∷◌, ◌++◌, length, set, Some, None, refl, sym, ap, subst, arith}
use Rattle.std.proofs.lemmas.Bool.{cases_lt}
use Rattle.std.proofs.lemmas.List.{length_push, take_more_set}
use Rattle.std.proofs.lemmas.List.Elements.{Contains-append_left, Contains-push}
use Rattle.job_graph.specs.declared.costs.Costs.{Costs}
use Rattle.run_core.specs.inner.Touched.{AreCostsFrom, Touches}

pub added_touches : (numbers : List ℕ) (count number : ℕ) (all : Bool) → length numbers ≡ 8 → count < 8 →
    Touches number (cond all None (Some (take count numbers))) (cond all None (Some (take (count + 1) (set numbers count number))))
added_touches numbers count number true many room = record { it = tt; others = λ n was. tt }
added_touches numbers count number false many room =
    let more : take (count + 1) (set numbers count number) ≡ take count numbers ++ number ∷ [] = take_more_set numbers count number (omega (arith, many, room)) in
    record {
      it = subst (λ (ns : List ℕ). Contains ns number) (sym more) (Contains-push (take count numbers) number);
      others = λ n was. subst (λ (ns : List ℕ). Contains ns n) (sym more) (Contains-append_left (take count numbers) (number ∷ []) n was);
    }

pub get_before : (costs more : List Costs) (n : ℕ) → n < length costs → slice_get (costs ++ more) n ≡ slice_get costs n
get_before [] more n within = absurd (omega (arith, within))
get_before (c ∷ costs) more zero within = refl
get_before (c ∷ costs) more (suc n) within = get_before costs more n (omega (arith, within))

pub get_last : (costs : List Costs) (c : Costs) (n : ℕ) → length costs ≡ n → slice_get (costs ++ c ∷ []) n ≡ Some c
get_last [] c zero many = refl
get_last [] c (suc n) many = absurd (omega (arith, many))
get_last (x ∷ costs) c zero many = absurd (omega (arith, many))
get_last (x ∷ costs) c (suc n) many = get_last costs c n (omega (arith, many))

pub more_costs : (costs : ℕ → Costs) (from below : ℕ) (found new : List Costs) (one : Costs) → AreCostsFrom costs from below found → one ≡ costs below → new ≡ found ++ one ∷ [] →
    AreCostsFrom costs from (below + 1) new
more_costs costs from below found new one are is pushed =
    subst (λ (list : List Costs). AreCostsFrom costs from (below + 1) list) (sym pushed)
    (record { as_many = omega (arith, length_push found one, are.as_many); each = λ k within. by k within (cases_lt k (length found)) })
  where
    by : (k : ℕ) → from + k < below + 1 → (k < length found) ⊎ (length found ≤ k) → slice_get (found ++ one ∷ []) k ≡ Some (costs (from + k))
    by k within (inl before) = get_before found (one ∷ []) k before ∙ are.each k (omega (arith, before, are.as_many))
    by k within (inr past) =
        let last : length found ≡ k = omega (arith, within, past, are.as_many) in
        let at : below ≡ from + k = omega (arith, last, are.as_many) in
        get_last found one k last ∙ ap Some is ∙ ap (λ (n : ℕ). Some (costs n)) at
