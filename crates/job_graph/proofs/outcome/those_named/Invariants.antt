use Rattle.std.proofs.Common.{◌≡◌, ◌++◌}
use Rattle.std.specs.Vec.Iter.{into_iter_items}
use Rattle.job_graph.specs.Jobs.{those_named}
use Rattle.job_graph.proofs.outcome.those_named.Given as goal

abbrev pub invariant-loop-name : goal.invariant-loop-name
invariant-loop-name l = l.named.items ++ those_named (into_iter_items l.name-iterator) ≡ those_named l.fn.outs
