use Rattle.std.proofs.Common.{◌≡◌, drop}
use Rattle.run_facts.specs.Holding.{workflow_holds}
use Rattle.run_facts.proofs.holding.workflow_holds.Given as goal

abbrev pub invariant-loop-output : goal.invariant-loop-output
invariant-loop-output l = workflow_holds (drop l.output-index l.outputs) ≡ workflow_holds l.outputs
