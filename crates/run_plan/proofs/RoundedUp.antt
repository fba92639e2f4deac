-- What is rounded up is the quotient and one more where something is left.
use Rattle.std.proofs.Common.{◌≡◌, ℕ, ◌+◌, ◌*◌, ◌<◌, arith}
use Rattle.std.specs.Int.{div_ceil}
use Rattle.std.proofs.lemmas.Grind.{div_ceil_times}
use Rattle.std.proofs.Math.Nat.{lt_of_mul-lt-mul_right}
use Rattle.job_graph.specs.LoadCosts.{IsRoundedUp}

pub rounded_is : (bytes rate quotient : ℕ) → 0 < rate → IsRoundedUp bytes rate quotient → quotient ≡ div_ceil bytes rate
rounded_is bytes rate quotient some rounded =
    let times = div_ceil_times bytes rate some in
    let below : div_ceil bytes rate * rate < (quotient + 1) * rate = omega (arith, times.1, rounded.enough) in
    omega (arith, rounded.least (div_ceil bytes rate) times.0, lt_of_mul-lt-mul_right rate below)
