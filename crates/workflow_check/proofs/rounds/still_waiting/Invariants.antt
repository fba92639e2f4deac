use Rattle.std.proofs.Common.{◌≡◌, ◌++◌, drop, map}
use Rattle.std.specs.List.{filter}
use Rattle.workflow_check.specs.Order.{waits_for}
use Rattle.workflow_check.specs.inner.Seen.{lent}
use Rattle.workflow_check.proofs.rounds.still_waiting.Given as goal

abbrev pub invariant-loop-entry : goal.invariant-loop-entry
invariant-loop-entry l =
    map lent l.kept.items ++ filter (waits_for (map lent l.fn.left)) (map lent (drop l.entry-index l.left))
    ≡ filter (waits_for (map lent l.fn.left)) (map lent l.fn.left)
