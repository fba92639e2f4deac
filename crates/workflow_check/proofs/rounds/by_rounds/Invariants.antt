use Rattle.std.proofs.Common.{◌≡◌, ◌++◌, ◌-◌, drop, length, map}
use Rattle.workflow_check.specs.Order.{left_after}
use Rattle.workflow_check.specs.inner.Seen.{lent}
use Rattle.workflow_check.proofs.rounds.by_rounds.Given as goal

abbrev pub invariant-loop-entry : goal.invariant-loop-entry
invariant-loop-entry l = map lent l.left.items ++ drop l.entry-index l.steps ≡ l.fn.steps

abbrev pub invariant-rounds : goal.invariant-rounds
invariant-rounds l = left_after (length l.fn.steps - l.round) (map lent l.left.items) ≡ left_after (length l.fn.steps) l.fn.steps
