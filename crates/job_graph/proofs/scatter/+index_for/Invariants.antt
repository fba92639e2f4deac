use Rattle.std.proofs.Common.{length}
use Rattle.job_graph.proofs.scatter.+index_for.Given as goal

abbrev pub decreases-index_for : goal.decreases-index_for
decreases-index_for l = length l.names.now
