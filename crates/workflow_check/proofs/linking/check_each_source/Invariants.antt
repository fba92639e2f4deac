use Rattle.std.proofs.Common.{◌≡◌, drop}
use Rattle.workflow_check.specs.Faults.{first_of}
use Rattle.workflow_check.specs.Links.{source_fault}
use Rattle.workflow_check.specs.inner.Seen.{around}
use Rattle.workflow_check.proofs.linking.check_each_source.Given as goal

abbrev pub invariant-loop-source : goal.invariant-loop-source
invariant-loop-source l = first_of (source_fault (around l.fn.scope)) (drop l.source-index l.sources) ≡ first_of (source_fault (around l.fn.scope)) l.fn.sources
