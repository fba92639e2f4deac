use Rattle.std.proofs.Common.{take}
use Rattle.document_links.specs.declared.process.Step.{out-Step}
use Rattle.job_graph.specs.inner.Counts.{Awaits, is_output, sources_by}
use Rattle.job_graph.proofs.readers.await_step.Given as goal

abbrev pub invariant-loop-input : goal.invariant-loop-input
invariant-loop-input l = Awaits l.number (λ id test. sources_by (is_output id test) (take l.input-index (out-Step l.step).inputs)) l.fn.awaited l.awaited
