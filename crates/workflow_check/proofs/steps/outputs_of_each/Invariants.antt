use Rattle.std.proofs.Common.{drop}
use Rattle.workflow_check.specs.inner.Indexed.{under}
use Rattle.workflow_check.proofs.Indexed.{Finds}
use Rattle.workflow_check.proofs.steps.outputs_of_each.Given as goal

abbrev pub invariant-loop-entry : goal.invariant-loop-entry
invariant-loop-entry l = Finds (λ q. under q l.outputs) (drop l.entry-index l.entries) l.fn.entries
