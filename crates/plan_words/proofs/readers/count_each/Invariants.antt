use Rattle.std.proofs.Common.{◌≡◌, ℕ, ◌+◌, ◌<◌, length, get_or, take}
use Rattle.plan_words.specs.Readers.{times_read}
use Rattle.plan_words.proofs.readers.count_each.Given as goal

abbrev pub invariant-loop-job : goal.invariant-loop-job
invariant-loop-job l = record {
  one_each : length l.counts.items ≡ length l.fn.counts.items;
  counted : (j : ℕ) → j < length l.fn.counts.items → get_or l.counts.items j 0 ≡ get_or l.fn.counts.items j 0 + times_read j (take l.job-index l.jobs);
}
