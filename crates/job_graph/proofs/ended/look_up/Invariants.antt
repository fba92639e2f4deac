use Rattle.std.proofs.Common.{◌≡◌, ◌++◌, drop, length, map, take}
use Rattle.job_graph.specs.inner.Ended.{ended_of}
use Rattle.job_graph.specs.inner.Views.{resolved_of}
use Rattle.job_graph.proofs.ended.look_up.Given as goal

abbrev pub invariant-loop-number : goal.invariant-loop-number
invariant-loop-number l = record {
  long : length l.ended.items ≡ length l.known;
  done : take l.number l.ended.items ++ ended_of (map resolved_of l.learned) (drop l.number l.known) ≡ ended_of (map resolved_of l.learned) l.known;
}
