use Rattle.std.proofs.Common.{◌≡◌, drop}
use Rattle.run_facts.specs.Misfits.{first_of_workflow}
use Rattle.run_facts.proofs.misfits.first_of_workflow.Given as goal

abbrev pub invariant-loop-id : goal.invariant-loop-id
invariant-loop-id l = first_of_workflow l.given (drop l.id-index l.inputs) ≡ first_of_workflow l.given l.inputs
