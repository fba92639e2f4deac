use Rattle.std.proofs.Common.{◌≡◌, ◌≤◌, ◌+◌, drop}
use Rattle.job_graph.specs.inner.OneTuple.{count_known}
use Rattle.job_graph.proofs.held.known_count.Given as goal

abbrev pub invariant-loop-out : goal.invariant-loop-out
invariant-loop-out l = record {
  count : l.count + count_known (drop l.out-index l.outs) ≡ count_known l.outs;
  few : l.count ≤ l.out-index;
}
