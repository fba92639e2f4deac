-- What it costs to load is one number: the base and the bytes over the rate, rounded up, the whole held to the highest cost.
use Rattle.std.specs.Prelude.{◌↔◌, ◌≤◌, min}
use Rattle.std.proofs.Common.{◌≡◌, ◌∙◌, ℕ, suc, ◌+◌, ◌*◌, ap, arith, ⊎_elim}
use Rattle.std.proofs.Math.Nat.{mul-le-mul_right, suc-mul}
use Rattle.std.proofs.lemmas.Bool.{cases_lt}
use Rattle.std.proofs.lemmas.Grind.{div_ceil_times}
use Rattle.plan_checker.specs.declared.graph.TheConstants.{MOST_COST}
use Rattle.job_graph.specs.LoadCosts.{IsLoadCost, IsRoundedUp}
use Rattle.run_rules.specs.Costs.{cost_to_load, over}

module _ (bytes rate : ℕ) (some : 1 ≤ rate) where
  -- less is not enough
  no_less : (n : ℕ) → bytes ≤ n * rate → suc n ≤ over bytes rate → ⊥
  no_less n enough below =
      let bounds = div_ceil_times bytes rate (omega (arith, some)) in
      let more : suc n * rate ≤ over bytes rate * rate = mul-le-mul_right rate below in
      let one : suc n * rate ≡ n * rate + rate = suc-mul n rate in
      absurd (omega (arith, enough, more, one, bounds.1))

  rounded : IsRoundedUp bytes rate (over bytes rate)
  rounded = record {
    enough = (div_ceil_times bytes rate (omega (arith, some))).0;
    least = λ n enough. ⊎_elim (λ below. absurd (no_less n enough (omega (arith, below)))) (λ past. past) (cases_lt n (over bytes rate));
  }

  one_quotient : (quotient : ℕ) → IsRoundedUp bytes rate quotient → quotient ≡ over bytes rate
  one_quotient quotient its = omega (arith, its.least (over bytes rate) rounded.enough, rounded.least quotient its.enough)

  pub is_load_cost : (base cost : ℕ) → IsLoadCost base rate bytes cost ↔ (cost ≡ cost_to_load base rate bytes)
  is_load_cost base cost = (
    λ its. its.held ∙ ap (λ quotient. min (base + quotient) MOST_COST) (one_quotient its.quotient its.rounded),
    λ is. record { quotient = over bytes rate; rounded = rounded; held = is },
  )
