use Rattle.std.proofs.Common.{◌≡◌, ◌+◌, ℕ, ap, arith, cond, get_or, refl, take, Bool}
use Rattle.std.specs.Prelude.{◌==◌}
use Rattle.std.proofs.lemmas.Bool.{eq-eqb}
use Rattle.std.proofs.lemmas.List.Sums.{sum_by_more, sum_by_more_le}
use Rattle.job_graph.specs.inner.Counts.{times}
use Rattle.job_graph.proofs.Lowering.{lowers_then}
use Rattle.job_graph.proofs.counts.lower_each.Goals as goal

abbrev flag : Bool → ℕ
flag b = cond b 1 0

pub lower_one-requires : goal.lower_one-requires
lower_one-requires c =
    let n : ℕ = get_or c.args.numbers.now c.loop-number.number-index 0 in
    let this : flag (n == n) ≡ 1 = ap flag (eq-eqb n n refl) in
    omega (arith, c.loop-number.invariant.counts n, c.requires n, this, sum_by_more_le (λ (k : ℕ). flag (k == n)) c.args.numbers.now c.loop-number.number-index 0 c.loop-number-test.true)

pub loop-number-preserved : goal.loop-number-preserved
loop-number-preserved c =
    lowers_then (λ m. times m (take c.loop-number.number-index c.args.numbers.now)) (λ m. flag (get_or c.args.numbers.now c.loop-number.number-index 0 == m)) (λ m. times m (take (c.loop-number.number-index + 1) c.args.numbers.now))
    c.args.waits.now c.loop-number.waits c.lower_one.new.waits
    (λ m. sum_by_more (λ (k : ℕ). flag (k == m)) c.args.numbers.now c.loop-number.number-index 0 c.loop-number-test.true) c.loop-number.invariant c.in_ok-lower_one.ensures
