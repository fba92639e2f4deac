use Rattle.std.proofs.Common.{◌≡◌, ◌++◌, [], ◌∷◌, map}
use Rattle.scatter_shape.specs.Tuples.{below}
use Rattle.scatter_shape.proofs.tuples.push_extensions.Given as goal

abbrev pub invariant-loop-index : goal.invariant-loop-index
invariant-loop-index l = l.longer ≡ l.initial.longer ++ map (λ index. l.tuple ++ index ∷ []) (below l.index)
