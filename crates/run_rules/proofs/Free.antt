-- No cheapest plan computes what can be loaded at no cost: loading it instead would cost less.
use Rattle.std.proofs.Common.{◌≡◌, ◌≢◌, ◌∙◌, ℕ, ◌<◌, ◌≤◌, IsSome, List, Option, Some, get_or, length, set, unwrap_or, refl, sym, ap, subst, arith, ⊎_elim}
use Rattle.std.proofs.lemmas.Bool.{cases_eq}
use Rattle.std.proofs.lemmas.List.{get_or-set_other, get_or-set_same, length-set}
use Rattle.plan_checker.specs.declared.vertex.Vertex.{Vertex}
use Rattle.plan_checker.specs.declared.plan.Mark.{Mark}
use Rattle.plan_checker.specs.declared.plan.Mark.TheVariants.{Load, Compute, Prune}
use Rattle.plan_checker.specs.Graph.{vertex}
use Rattle.plan_checker.specs.Plan.{IsAllowed, IsValid, cost_of, mark}
use Rattle.plan_checker.specs.Least.{IsCheapest}
use Rattle.plan_checker.proofs.SumsBelow.{sum_below_tight}

module _ (graph : List Vertex) (marks : List Mark) (cheapest : IsCheapest graph marks) (i : ℕ) (within : i < length graph) (free : (vertex graph i).load ≡ Some 0)
    (computed : mark marks i ≡ Compute) where
  -- the plan that loads it
  abbrev other : List Mark
  other = set marks i Load

  there : i < length marks
  there = omega (arith, within, cheapest.valid.one_each)

  at_it : mark other i ≡ Load
  at_it = get_or-set_same marks i Load Prune there

  elsewhere : (j : ℕ) → j ≢ i → mark other j ≡ mark marks j
  elsewhere j apart = get_or-set_other marks i j Load Prune apart

  loads : (m : Mark) → m ≡ Load → m ≢ Prune
  loads m is pruned = let never : Load ≡ Prune = sym is ∙ pruned in cc

  kept_still : (p : ℕ) → mark marks p ≢ Prune → mark other p ≢ Prune
  kept_still p kept =
      ⊎_elim (λ same. loads (mark other p) (ap (λ k. mark other k) same ∙ at_it))
      (λ apart. λ pruned. kept (sym (elsewhere p apart) ∙ pruned)) (cases_eq p i)

  allowed_still : (v : Vertex) (m : Mark) → IsAllowed marks v m → IsAllowed other v m
  allowed_still v Load its = its
  allowed_still v Compute its = λ k d below. kept_still (get_or v.parents k d) (its k d below)
  allowed_still v Prune its = its

  its_load : IsAllowed other (vertex graph i) Load
  its_load = subst (λ (load : Option ℕ). IsSome load) (sym free) refl

  allowed : (j : ℕ) → j < length graph → IsAllowed other (vertex graph j) (mark other j)
  allowed j below =
      ⊎_elim
      (λ same. subst (λ k. IsAllowed other (vertex graph k) (mark other k)) (sym same) (subst (λ (m : Mark). IsAllowed other (vertex graph i) m) (sym at_it) its_load))
      (λ apart. subst (λ (m : Mark). IsAllowed other (vertex graph j) m) (sym (elsewhere j apart))
      (allowed_still (vertex graph j) (mark marks j) (cheapest.valid.allowed j below))) (cases_eq j i)

  its_valid : IsValid graph other
  its_valid = record { one_each = length-set marks i Load ∙ cheapest.valid.one_each; allowed = allowed }

  abbrev spends : List Mark → ℕ → ℕ
  spends plan j = cost_of (vertex graph j) (mark plan j)

  nothing_there : spends other i ≡ 0
  nothing_there = ap (λ (m : Mark). cost_of (vertex graph i) m) at_it ∙ ap (λ (load : Option ℕ). unwrap_or load 0) free

  its_compute : spends marks i ≡ (vertex graph i).compute
  its_compute = ap (λ (m : Mark). cost_of (vertex graph i) m) computed

  no_more : (j : ℕ) → j < length graph → spends other j ≤ spends marks j
  no_more j below =
      ⊎_elim (λ same. let none : spends other j ≡ 0 = ap (λ k. spends other k) same ∙ nothing_there in omega (arith, none))
      (λ apart. let equal : spends other j ≡ spends marks j = ap (λ (m : Mark). cost_of (vertex graph j) m) (elsewhere j apart) in omega (arith, equal)) (cases_eq j i)

  pub costs_nothing : (vertex graph i).compute ≡ 0
  costs_nothing =
      sym its_compute
      ∙ sym (sum_below_tight (length graph) (spends other) (spends marks) no_more (cheapest.cheapest other its_valid) i within)
      ∙ nothing_there

-- so it is not computed, where that costs 1 at least
pub free_is_not_computed : (graph : List Vertex) (marks : List Mark) → IsCheapest graph marks → (i : ℕ) → i < length graph → (vertex graph i).load ≡ Some 0 →
    1 ≤ (vertex graph i).compute → mark marks i ≢ Compute
free_is_not_computed graph marks cheapest i within free costs computed =
    let none : (vertex graph i).compute ≡ 0 = costs_nothing graph marks cheapest i within free computed in
    absurd (omega (arith, costs, none))
