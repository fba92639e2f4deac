use Rattle.std.proofs.Common.{◌≡◌, ◌++◌, drop, length, map, take}
use Rattle.job_graph.specs.inner.Ended.{ended_of}
use Rattle.job_graph.specs.inner.Views.{resolved_of}
use Rattle.job_graph.proofs.ended.push_flags.Given as goal

abbrev pub invariant-loop-number : goal.invariant-loop-number
invariant-loop-number l = record {
  front : take (length l.fn.ended.items) l.ended.items ≡ l.fn.ended.items;
  rest : l.ended.items ++ ended_of (map resolved_of l.learned) (drop l.number l.known)
      ≡ l.fn.ended.items ++ ended_of (map resolved_of l.learned) (drop (length l.fn.ended.items) l.known);
}
