use Rattle.std.proofs.Common.{◌≡◌, ◌++◌, Ok, map}
use Rattle.std.specs.Vec.Iter.{into_iter_items}
use Rattle.job_graph.specs.inner.Growth.{Grows}
use Rattle.job_graph.specs.inner.Views.{met_of}
use Rattle.job_graph.proofs.growing.grow.Given as goal

abbrev pub invariant-loop-one : goal.invariant-loop-one
invariant-loop-one l = record {
  whole : l.fn.met ≡ l.yielded ++ into_iter_items l.one-iterator;
  grows : Grows l.fn.known l.fn.entries (map met_of l.yielded) l.known (Ok l.entries);
}
