use Rattle.std.proofs.Common.{take}
use Rattle.job_graph.specs.inner.Counts.{Lowers, is_new, waits_for}
use Rattle.job_graph.proofs.counts.lower.Given as goal

abbrev pub invariant-loop-output : goal.invariant-loop-output
invariant-loop-output l = Lowers (λ m. waits_for (is_new l.before l.after) m (take l.output-index l.outputs)) l.fn.waits l.waits
