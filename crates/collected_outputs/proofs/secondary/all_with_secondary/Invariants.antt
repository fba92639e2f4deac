use Rattle.std.proofs.Common.{◌≡◌, ◌++◌, Ok, map}
use Rattle.std.specs.Vec.Iter.{into_iter_items}
use Rattle.collected_outputs.specs.Gives.{all_given}
use Rattle.collected_outputs.specs.Beside.{one_beside}
use Rattle.collected_outputs.proofs.secondary.all_with_secondary.Given as goal

abbrev pub invariant-loop-value : goal.invariant-loop-value
invariant-loop-value l = record {
  whole : l.fn.values ≡ l.yielded ++ into_iter_items l.value-iterator;
  so_far : all_given (map (one_beside l.listing l.declared) l.yielded) ≡ Ok l.found;
}
