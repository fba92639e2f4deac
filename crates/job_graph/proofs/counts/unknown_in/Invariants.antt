use Rattle.std.proofs.Common.{◌≡◌, take}
use Rattle.document_links.specs.declared.process.Step.{out-Step}
use Rattle.job_graph.specs.inner.Counts.{is_unknown, sources_by}
use Rattle.job_graph.proofs.counts.unknown_in.Given as goal

abbrev pub invariant-loop-input : goal.invariant-loop-input
invariant-loop-input l = l.count ≡ sources_by (is_unknown l.env) (take l.input-index (out-Step l.step).inputs)
