use Rattle.std.proofs.Common.{◌+◌, ◌*◌, length}
use Rattle.job_graph.proofs.nested.+nested.Given as goal

abbrev pub decreases-walk_deeper : goal.decreases-walk_deeper
decreases-walk_deeper l = 4 * length l.nested + 3

abbrev pub decreases-met_deeper : goal.decreases-met_deeper
decreases-met_deeper l = 4 * length l.nested + 2

abbrev pub decreases-inner_at : goal.decreases-inner_at
decreases-inner_at l = 4 * length l.nested + 1

abbrev pub decreases-go_on : goal.decreases-go_on
decreases-go_on l = 4 * length l.nested + 4
