use Rattle.plan_keeper.proofs.Remarked.{NoneComputed}
use Rattle.plan_keeper.proofs.kept.is_left.Given as goal

abbrev pub invariant-loop-child : goal.invariant-loop-child
invariant-loop-child l = NoneComputed l.graph l.child-items l.child-index
