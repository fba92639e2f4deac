use Rattle.std.proofs.Common.{◌≡◌, drop, length}
use Rattle.job_graph.specs.Scatter.{lengths_from, lengths_under}
use Rattle.job_graph.proofs.scatter.lengths_under.Given as goal

abbrev pub invariant-loop-name : goal.invariant-loop-name
invariant-loop-name l = record {
  value : lengths_from l.fields l.lengths (drop l.name-index l.names) ≡ lengths_under l.names l.fields;
  one_each : length l.lengths ≡ l.name-index;
}
