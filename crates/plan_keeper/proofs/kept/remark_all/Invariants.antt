use Rattle.plan_keeper.specs.Kept.{AreRemarked}
use Rattle.plan_keeper.proofs.kept.remark_all.Given as goal

abbrev pub invariant-loop-place : goal.invariant-loop-place
invariant-loop-place l = AreRemarked l.graph l.fn.marks.items l.marks.items l.numbers l.place
