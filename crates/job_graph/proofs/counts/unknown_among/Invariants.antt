use Rattle.std.proofs.Common.{◌≡◌, take}
use Rattle.std.specs.Prelude.{count_by}
use Rattle.job_graph.specs.inner.Counts.{is_unknown}
use Rattle.job_graph.proofs.counts.unknown_among.Given as goal

abbrev pub invariant-loop-source : goal.invariant-loop-source
invariant-loop-source l = l.count ≡ count_by (is_unknown l.env) (take l.source-index l.sources)
