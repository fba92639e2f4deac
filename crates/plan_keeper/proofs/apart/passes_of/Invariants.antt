use Rattle.std.proofs.Common.{◌≡◌, take, map, length, vec_len, vec_capacity}
use Rattle.plan_keeper.specs.Apart.{no_passes}
use Rattle.plan_keeper.proofs.apart.passes_of.Given as goal

abbrev pub invariant-loop-vertex : goal.invariant-loop-vertex
invariant-loop-vertex l = record {
  pass : l.pass.items ≡ map no_passes (take l.vertex-index l.vertices);
  pass_count : vec_len l.pass ≡ l.vertex-index;
  pass_room : vec_capacity l.pass ≡ length l.vertices;
}
