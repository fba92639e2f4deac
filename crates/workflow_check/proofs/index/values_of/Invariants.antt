use Rattle.std.proofs.Common.{drop}
use Rattle.std.specs.Option.{option_copied}
use Rattle.workflow_check.specs.inner.Indexed.{under}
use Rattle.workflow_check.proofs.Indexed.{Finds}
use Rattle.workflow_check.proofs.index.values_of.Given as goal

abbrev pub invariant-loop-entry : goal.invariant-loop-entry
invariant-loop-entry g l = Finds (λ q. option_copied (under q l.values)) (drop l.entry-index l.entries) l.fn.entries
