use Rattle.run_core.specs.inner.Course.{past_of}
use Rattle.run_core.specs.inner.Planning.{costs_at}
use Rattle.run_core.specs.inner.Touched.{AreCostsFrom}
use Rattle.run_core.proofs.few.costs_from.Given as goal

abbrev pub invariant-loop-number : goal.invariant-loop-number
invariant-loop-number l = AreCostsFrom (costs_at l.given (past_of l.course)) l.from l.number l.costs.items
