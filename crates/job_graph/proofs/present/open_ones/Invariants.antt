use Rattle.std.specs.Prelude.{not}
use Rattle.std.proofs.Common.{◌≡◌, take, map, length, vec_len, vec_capacity}
use Rattle.job_graph.proofs.present.open_ones.Given as goal

abbrev pub invariant-loop-has_ended : goal.invariant-loop-has_ended
invariant-loop-has_ended l = record {
  flags : l.flags.items ≡ map not (take l.has_ended-index l.ended);
  count : vec_len l.flags ≡ l.has_ended-index;
  room : vec_capacity l.flags ≡ length l.ended;
}
