use Rattle.run_plan.specs.inner.Kept.{AreSameBetween}
use Rattle.run_plan.proofs.flags.first_other.Given as goal

abbrev pub invariant-loop-number : goal.invariant-loop-number
invariant-loop-number l = AreSameBetween l.from l.number l.before l.needed
