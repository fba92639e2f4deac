use Rattle.std.proofs.Common.{◌≡◌, ◌++◌}
use Rattle.std.specs.Vec.Iter.{into_iter_items}
use Rattle.scatter_shape.specs.Gathered.{values_in}
use Rattle.scatter_shape.proofs.gathering.values_of.Given as goal

abbrev pub invariant-loop-slot : goal.invariant-loop-slot
invariant-loop-slot l = record {
  whole : l.fn.slots.items ≡ l.yielded ++ into_iter_items l.slot-iterator;
  so_far : l.values.items ≡ values_in l.yielded;
}
