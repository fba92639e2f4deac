use Rattle.std.proofs.Common.{◌≡◌, ◌++◌}
use Rattle.std.specs.List.{flat_map}
use Rattle.std.specs.Vec.Iter.{into_iter_items}
use Rattle.link_values.specs.Merged.{items_or_one}
use Rattle.link_values.proofs.merging.flattened.Given as goal

abbrev pub invariant-loop-value : goal.invariant-loop-value
invariant-loop-value l = record {
  whole : l.fn.values.items ≡ l.yielded ++ into_iter_items l.value-iterator;
  so_far : l.items.items ≡ flat_map items_or_one l.yielded;
}
