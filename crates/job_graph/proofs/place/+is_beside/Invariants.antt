use Rattle.std.proofs.Common.{length}
use Rattle.job_graph.proofs.place.+is_beside.Given as goal

abbrev pub decreases-is_beside : goal.decreases-is_beside
decreases-is_beside l = length l.one.now
