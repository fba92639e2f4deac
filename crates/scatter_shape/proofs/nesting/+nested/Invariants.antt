use Rattle.std.proofs.Common.{length}
use Rattle.std.specs.Vec.Iter.{into_iter_items}
use Rattle.scatter_shape.proofs.Nested.{SoFar}
use Rattle.scatter_shape.proofs.nesting.+nested.Given as goal

abbrev pub decreases-nested : goal.decreases-nested
decreases-nested l = length l.lengths.now

abbrev pub invariant-loop : goal.invariant-loop
invariant-loop l = SoFar l.rest (into_iter_items l.initial.values) l.end l.counter l.items (into_iter_items l.values)
