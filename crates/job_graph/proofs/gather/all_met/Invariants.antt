use Rattle.std.proofs.Common.{◌≡◌, ◌++◌, map}
use Rattle.std.specs.List.{flat_map}
use Rattle.std.specs.Vec.Iter.{into_iter_items}
use Rattle.job_graph.specs.inner.Views.{met_of, walk_of}
use Rattle.job_graph.proofs.gather.all_met.Given as goal

abbrev pub invariant-loop-walk : goal.invariant-loop-walk
invariant-loop-walk l = record {
  whole : l.fn.walks.items ≡ l.yielded ++ into_iter_items l.walk-iterator;
  so_far : map met_of l.met ≡ flat_map (λ w. w.met) (map walk_of l.yielded);
}
