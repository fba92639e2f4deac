use Rattle.plan_keeper.specs.Loads.{LoadsAll}
use Rattle.plan_keeper.proofs.apart.load_all.Given as goal

abbrev pub invariant-loop-place : goal.invariant-loop-place
invariant-loop-place l = LoadsAll l.fn.marks.items l.marks.items l.numbers l.place
