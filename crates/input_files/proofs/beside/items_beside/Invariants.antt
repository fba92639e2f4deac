use Rattle.std.proofs.Common.{◌≡◌, ◌++◌, map}
use Rattle.std.specs.Vec.Iter.{into_iter_items}
use Rattle.input_files.specs.Given.{with_file}
use Rattle.input_files.specs.Beside.{file_beside}
use Rattle.input_files.proofs.beside.items_beside.Given as goal

abbrev pub invariant-loop-value : goal.invariant-loop-value
invariant-loop-value l = record {
  whole : l.fn.values ≡ l.yielded ++ into_iter_items l.value-iterator;
  so_far : l.found ≡ map (with_file (file_beside l.measures l.declared)) l.yielded;
}
