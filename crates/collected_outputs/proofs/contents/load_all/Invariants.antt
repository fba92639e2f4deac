use Rattle.std.proofs.Common.{◌≡◌, ◌++◌, Ok}
use Rattle.std.specs.Vec.Iter.{into_iter_items}
use Rattle.collected_outputs.specs.Contents.{all_loaded}
use Rattle.collected_outputs.proofs.contents.load_all.Given as goal

abbrev pub invariant-loop-value : goal.invariant-loop-value
invariant-loop-value l = record {
  whole : l.fn.values ≡ l.yielded ++ into_iter_items l.value-iterator;
  so_far : all_loaded l.heads l.yielded ≡ Ok l.loaded;
}
