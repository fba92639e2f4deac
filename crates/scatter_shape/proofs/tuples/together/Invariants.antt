use Rattle.std.proofs.Common.{◌≡◌, map, length}
use Rattle.std.specs.Prelude.{replicate}
use Rattle.scatter_shape.specs.Tuples.{below}
use Rattle.scatter_shape.proofs.tuples.together.Given as goal

abbrev pub invariant-loop-index : goal.invariant-loop-index
invariant-loop-index l = l.tuples ≡ map (λ index. replicate (length l.lengths) index) (below l.index)
