use Rattle.std.proofs.Common.{◌≡◌, length, take, vec_capacity, vec_len}
use Rattle.run_plan.specs.inner.Kept.{flags_in}
use Rattle.run_plan.proofs.flags.flags_of.Given as goal

abbrev pub invariant-loop-vertex : goal.invariant-loop-vertex
invariant-loop-vertex l = record {
  flags : l.flags.items ≡ flags_in (take l.vertex-index l.vertices);
  filled : vec_len l.flags ≡ l.vertex-index;
  room : vec_capacity l.flags ≡ length l.vertices;
}
