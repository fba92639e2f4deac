use Rattle.std.proofs.Common.{◌≡◌, ◌≤◌, ◌*◌, length, drop}
use Rattle.scatter_shape.specs.Tuples.{cross}
use Rattle.scatter_shape.specs.declared.tuples.TheConstants.{MOST_TUPLES}
use Rattle.scatter_shape.proofs.tuples.are_few.Given as goal

abbrev pub invariant-loop-length : goal.invariant-loop-length
invariant-loop-length l = record {
  rest : l.count * length (cross (drop l.length-index l.lengths)) ≡ length (cross l.lengths);
  few : l.count ≤ MOST_TUPLES;
}
