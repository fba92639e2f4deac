use Rattle.std.proofs.Common.{◌≡◌, take, map, length, vec_len, vec_capacity}
use Rattle.plan_keeper.specs.Apart.{alone}
use Rattle.plan_keeper.proofs.apart.marks_alone.Given as goal

abbrev pub invariant-loop-vertex : goal.invariant-loop-vertex
invariant-loop-vertex l = record {
  marks : l.marks.items ≡ map alone (take l.vertex-index l.vertices);
  marks_count : vec_len l.marks ≡ l.vertex-index;
  marks_room : vec_capacity l.marks ≡ length l.vertices;
}
