use Rattle.std.proofs.Common.{◌≡◌, drop}
use Rattle.scatter_shape.specs.Tuples.{cross}
use Rattle.scatter_shape.proofs.Crosses.{completions}
use Rattle.scatter_shape.proofs.tuples.crossed.Given as goal

abbrev pub invariant-loop-length : goal.invariant-loop-length
invariant-loop-length l = completions l.tuples (drop l.length-index l.lengths) ≡ cross l.lengths
