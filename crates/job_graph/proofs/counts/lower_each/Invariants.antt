use Rattle.std.proofs.Common.{take}
use Rattle.job_graph.specs.inner.Counts.{Lowers, times}
use Rattle.job_graph.proofs.counts.lower_each.Given as goal

abbrev pub invariant-loop-number : goal.invariant-loop-number
invariant-loop-number l = Lowers (λ m. times m (take l.number-index l.numbers)) l.fn.waits l.waits
