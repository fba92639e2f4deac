use Rattle.std.proofs.Common.{take}
use Rattle.std.specs.Prelude.{count_by}
use Rattle.job_graph.specs.inner.Counts.{Awaits, is_output}
use Rattle.job_graph.proofs.readers.await_sources.Given as goal

abbrev pub invariant-loop-source : goal.invariant-loop-source
invariant-loop-source l = Awaits l.number (λ id test. count_by (is_output id test) (take l.source-index l.sources)) l.fn.awaited l.awaited
