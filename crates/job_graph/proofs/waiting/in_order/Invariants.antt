use Rattle.std.proofs.Common.{◌≡◌, ◌++◌, map}
use Rattle.std.specs.List.{flat_map}
use Rattle.job_graph.specs.inner.Views.{met_of}
use Rattle.job_graph.proofs.waiting.in_order.Given as goal

abbrev pub invariant-loop-more : goal.invariant-loop-more
invariant-loop-more l = map met_of l.all ++ flat_map (λ e. map met_of e.1) l.more-iterator ≡ flat_map (λ e. map met_of e.1) l.fn.met.entries
