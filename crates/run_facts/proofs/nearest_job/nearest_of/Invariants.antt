use Rattle.run_facts.proofs.BestSoFar.{BestBelow}
use Rattle.run_facts.proofs.nearest_job.nearest_of.Given as goal

abbrev pub invariant-loop-index : goal.invariant-loop-index
invariant-loop-index l = BestBelow l.alike l.own l.rows l.index l.best
