use Rattle.std.proofs.Common.{◌≡◌, drop}
use Rattle.workflow_check.specs.Links.{steps_fault}
use Rattle.workflow_check.specs.inner.Seen.{around}
use Rattle.workflow_check.proofs.linking.check_steps.Given as goal

abbrev pub invariant-loop-entry : goal.invariant-loop-entry
invariant-loop-entry l = steps_fault (around l.fn.scope) (drop l.entry-index l.entry-items) ≡ steps_fault (around l.fn.scope) l.fn.scope.steps.now
