use Rattle.std.proofs.Common.{length}
use Rattle.job_graph.proofs.tuple.+are_all.Given as goal

abbrev pub decreases-are_all : goal.decreases-are_all
decreases-are_all l = length l.numbers.now
