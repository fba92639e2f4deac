use Rattle.std.proofs.Common.{[]}
use Rattle.job_graph.specs.inner.Counts.{left_in}
use Rattle.job_graph.proofs.Pending.{GoesTo}
use Rattle.job_graph.proofs.waiting.go_on.Given as goal

abbrev pub invariant-loop-number : goal.invariant-loop-number
invariant-loop-number l = GoesTo l.facts l.place l.inputs l.steps l.ended l.fn.env [] l.going

abbrev pub decreases-loop-number : goal.decreases-loop-number
decreases-loop-number l = left_in l.going.waits
