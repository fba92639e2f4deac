use Rattle.std.proofs.Common.{◌≡◌, take}
use Rattle.scatter_shape.specs.Tuples.{extensions}
use Rattle.scatter_shape.proofs.tuples.extended.Given as goal

abbrev pub invariant-loop-tuple : goal.invariant-loop-tuple
invariant-loop-tuple l = l.longer ≡ extensions (take l.tuple-index l.tuple-items) l.length
