-- Quotients that are rounded up.
use Rattle.std.proofs.Common.{◌≡◌, ℕ, ◌+◌, ◌*◌, ◌<◌, min, sym, subst, arith}
use Rattle.std.specs.Int.{div_ceil}
use Rattle.std.proofs.lemmas.Grind.{div_ceil_times}
use Rattle.std.proofs.Math.Nat.{lt_of_mul-lt-mul_right}
use Rattle.plan_checker.specs.declared.graph.TheConstants.{MOST_COST}
use Rattle.job_graph.specs.LoadCosts.{IsLoadCost, IsRoundedUp}

pub is_rounded_up : (bytes rate : ℕ) → 0 < rate → IsRoundedUp bytes rate (div_ceil bytes rate)
is_rounded_up bytes rate some = record {
  enough = (div_ceil_times bytes rate some).0;
  least = λ n enough.
      let below : div_ceil bytes rate * rate < (n + 1) * rate = omega (arith, (div_ceil_times bytes rate some).1, enough) in
      omega (arith, lt_of_mul-lt-mul_right rate below);
}

pub is_load_cost : (base rate bytes quotient cost : ℕ) → 0 < rate → quotient ≡ div_ceil bytes rate → cost ≡ min (base + quotient) MOST_COST → IsLoadCost base rate bytes cost
is_load_cost base rate bytes quotient cost some is held =
    record { quotient = quotient; rounded = subst (IsRoundedUp bytes rate) (sym is) (is_rounded_up bytes rate some); held = held }
