use Rattle.std.proofs.Common.{◌≡◌, take, map, length, vec_len, vec_capacity}
use Rattle.plan_keeper.specs.Apart.{charge}
use Rattle.plan_keeper.proofs.apart.amounts_of.Given as goal

abbrev pub invariant-loop-vertex : goal.invariant-loop-vertex
invariant-loop-vertex l = record {
  amounts : l.amounts.items ≡ map charge (take l.vertex-index l.vertices);
  amounts_count : vec_len l.amounts ≡ l.vertex-index;
  amounts_room : vec_capacity l.amounts ≡ length l.vertices;
}
