use Rattle.std.proofs.Common.{◌≡◌, take}
use Rattle.job_graph.specs.inner.Counts.{each_by, is_unknown}
use Rattle.job_graph.proofs.counts.count_unknown.Given as goal

abbrev pub invariant-loop-step : goal.invariant-loop-step
invariant-loop-step l = l.counts.items ≡ each_by (is_unknown l.env) (take l.step-index l.steps)
