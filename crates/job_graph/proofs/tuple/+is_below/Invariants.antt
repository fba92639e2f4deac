use Rattle.std.proofs.Common.{length}
use Rattle.job_graph.proofs.tuple.+is_below.Given as goal

abbrev pub decreases-is_below : goal.decreases-is_below
decreases-is_below l = length l.tuple.now
