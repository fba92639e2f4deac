use Rattle.std.proofs.Common.{◌≡◌, ◌++◌}
use Rattle.std.specs.Vec.Iter.{into_iter_items}
use Rattle.job_graph.proofs.gather.push_met.Given as goal

abbrev pub invariant-loop-one : goal.invariant-loop-one
invariant-loop-one l = l.met ++ into_iter_items l.one-iterator ≡ l.fn.met ++ l.fn.more
