use Rattle.std.specs.Prelude.{slice_range}
use Rattle.std.proofs.Common.{◌≡◌, ◌∙◌, ◌+◌, ◌-◌, ◌<◌, ◌≤◌, ℕ, Bool, false, List, ap, arith, drop, get_or, sym, ⊎_elim}
use Rattle.std.proofs.lemmas.Bool.{cases_lt}
use Rattle.std.proofs.lemmas.List.{get_or-drop, get_or-take}
use Rattle.run_plan.specs.inner.Kept.{AreSameBetween}
use Rattle.run_plan.proofs.flags.past_same.Goals as goal

read : (flags : List Bool) (from to k : ℕ) → k < to - from → get_or (slice_range flags from to) k false ≡ get_or flags (from + k) false
read flags from to k within = get_or-take (to - from) (drop from flags) k false within ∙ get_or-drop from flags k false

-- one more block
block_more : (some others : List Bool) (from number end : ℕ) → AreSameBetween from number some others → slice_range some number end ≡ slice_range others number end →
    AreSameBetween from end some others
block_more some others from number end before same i past within =
    ⊎_elim
    (λ (below : i < number). before i past below)
    (λ (there : number ≤ i).
    let k : ℕ = i - number in
    let at : number + k ≡ i = omega (arith, there) in
    let few : k < end - number = omega (arith, there, within) in
    ap (λ (n : ℕ). get_or some n false) (sym at) ∙ sym (read some number end k few) ∙ ap (λ (flags : List Bool). get_or flags k false) same ∙ read others number end k few
    ∙ ap (λ (n : ℕ). get_or others n false) at)
    (cases_lt i number)

pub loop-number-preserved : goal.loop-number-preserved
loop-number-preserved c = record {
  from = omega (arith, c.loop-number.invariant.from);
  within = omega (arith, c.loop-number-test.true);
  same = block_more c.args.before.now c.args.needed.now c.args.from c.loop-number.number (c.loop-number.number + 64) c.loop-number.invariant.same (c.are_same.ensures.0 c.if-not-are_same.false);
}
