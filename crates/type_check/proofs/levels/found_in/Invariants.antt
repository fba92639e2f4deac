use Rattle.type_check.specs.inner.Members.{all_lent}
use Rattle.type_check.specs.inner.Parted.{ArePartedTo}
use Rattle.type_check.proofs.Weights.{weights}
use Rattle.type_check.proofs.levels.found_in.Given as goal

abbrev pub invariant-loop-alloc : goal.invariant-loop-alloc
invariant-loop-alloc l = ArePartedTo l.found.items l.fn.members (all_lent l.level.items)

abbrev pub decreases-loop-alloc : goal.decreases-loop-alloc
decreases-loop-alloc l = weights (all_lent l.level.items)
