use Rattle.std.proofs.Common.{◌≡◌, ℕ, ◌<◌, length, get_or}
use Rattle.plan_words.specs.Readers.{readers_below}
use Rattle.plan_words.proofs.readers.readers_of.Given as goal

abbrev pub invariant-loop-number : goal.invariant-loop-number
invariant-loop-number l = record {
  one_each : length l.counts.items ≡ length l.fn.graph;
  counted : (p : ℕ) → p < length l.fn.graph → get_or l.counts.items p 0 ≡ readers_below l.number l.fn.graph l.fn.plan.marks l.fn.mark p;
}
