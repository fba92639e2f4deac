use Rattle.std.proofs.Common.{◌≡◌, drop}
use Rattle.run_facts.specs.Misfits.{first_of_tool}
use Rattle.run_facts.proofs.misfits.first_of_tool.Given as goal

abbrev pub invariant-loop-id : goal.invariant-loop-id
invariant-loop-id l = first_of_tool l.given (drop l.id-index l.inputs) ≡ first_of_tool l.given l.inputs
