use Rattle.std.proofs.Common.{◌≡◌, map, take, Some}
use Rattle.scatter_shape.specs.Lengths.{list_length}
use Rattle.scatter_shape.proofs.lengths.lengths_of.Given as goal

abbrev pub invariant-loop-value : goal.invariant-loop-value
invariant-loop-value l = map Some l.lengths ≡ map list_length (take l.value-index l.values)
