use Rattle.std.proofs.Common.{◌≡◌, ◌++◌, map}
use Rattle.std.specs.Vec.Iter.{into_iter_items}
use Rattle.input_files.specs.Contents.{field_loaded}
use Rattle.input_files.proofs.contents.all_loaded.Given as goal

abbrev pub invariant-loop-name : goal.invariant-loop-name
invariant-loop-name l = record {
  whole : l.fn.staged ≡ l.yielded ++ into_iter_items l.name-iterator;
  so_far : l.named.items ≡ map (field_loaded l.asked l.heads) l.yielded;
}
