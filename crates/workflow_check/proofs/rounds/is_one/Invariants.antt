use Rattle.std.proofs.Common.{◌≡◌, drop, map}
use Rattle.workflow_check.specs.Order.{is_of}
use Rattle.workflow_check.specs.inner.Seen.{lent}
use Rattle.workflow_check.proofs.rounds.is_one.Given as goal

abbrev pub invariant-loop-entry : goal.invariant-loop-entry
invariant-loop-entry l = is_of (map lent (drop l.entry-index l.left)) l.fn.id ≡ is_of (map lent l.fn.left) l.fn.id
