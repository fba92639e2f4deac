use Rattle.std.proofs.Common.{◌≡◌, ◌++◌}
use Rattle.std.specs.Vec.Iter.{into_iter_items}
use Rattle.link_values.proofs.merging.push_all.Given as goal

abbrev pub invariant-loop-item : goal.invariant-loop-item
invariant-loop-item l = record {
  whole : l.fn.more.items ≡ l.yielded ++ into_iter_items l.item-iterator;
  so_far : l.items.items ≡ l.fn.items.items ++ l.yielded;
}
