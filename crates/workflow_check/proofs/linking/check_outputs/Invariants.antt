use Rattle.std.proofs.Common.{◌≡◌, drop}
use Rattle.workflow_check.specs.Links.{outputs_fault}
use Rattle.workflow_check.specs.inner.Seen.{around}
use Rattle.workflow_check.proofs.linking.check_outputs.Given as goal

abbrev pub invariant-loop-entry : goal.invariant-loop-entry
invariant-loop-entry l = outputs_fault (around l.fn.scope) (drop l.entry-index l.entry-items) ≡ outputs_fault (around l.fn.scope) l.fn.outputs
