use Rattle.std.proofs.Common.{◌≡◌, drop}
use Rattle.workflow_check.specs.Faults.{first_of}
use Rattle.workflow_check.specs.Links.{entry_in}
use Rattle.workflow_check.specs.inner.Seen.{around}
use Rattle.document_links.specs.declared.process.Step.{out-Step}
use Rattle.workflow_check.proofs.linking.check_each_entry.Given as goal

abbrev pub invariant-loop-entry : goal.invariant-loop-entry
invariant-loop-entry l = first_of (entry_in (around l.fn.scope) l.fn.step) (drop l.entry-index l.entry-items) ≡ first_of (entry_in (around l.fn.scope) l.fn.step) (out-Step l.fn.step).inputs
