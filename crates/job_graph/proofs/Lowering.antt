-- Counts that are lowered, one after another.
use Rattle.std.proofs.Common.{◌≡◌, ◌∙◌, inr, ⊎_elim, ℕ, zero, suc, ◌+◌, ◌<◌, get_or, length, true, refl, arith}
use Rattle.job_graph.specs.declared.counts.Waits.{Waits}
use Rattle.job_graph.specs.inner.Counts.{Lowers}
use Rattle.job_graph.specs.inner.Elements.{stands_in}

pub lowers_then : (f g both : ℕ → ℕ) (old mid new : Waits) → ((m : ℕ) → both m ≡ f m + g m) → Lowers f old mid → Lowers g mid new → Lowers both old new
lowers_then f g both old mid new sum one other = record {
  counts = λ m. omega (arith, sum m, one.counts m, other.counts m);
  long = other.long ∙ one.long;
  stays = λ m stands. other.stays m (one.stays m stands);
  ready = λ m some none. by m some none (get_or mid.counts.items m 0) refl;
  within = λ m stands. ⊎_elim (λ before. one.within m before) (λ below. let less : m < length old.counts.items = omega (arith, below, one.long) in inr less) (other.within m stands);
  fewer = omega (arith, one.fewer, other.fewer);
}
  where
    by : (m : ℕ) → 0 < get_or old.counts.items m 0 → get_or new.counts.items m 0 ≡ 0 → (k : ℕ) → get_or mid.counts.items m 0 ≡ k → stands_in m new.pending ≡ true
    by m some none zero is = other.stays m (one.ready m some is)
    by m some none (suc k) is = let left : 0 < get_or mid.counts.items m 0 = omega (arith, is) in other.ready m left none
