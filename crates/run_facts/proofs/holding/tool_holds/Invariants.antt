use Rattle.std.proofs.Common.{◌≡◌, drop}
use Rattle.run_facts.specs.Holding.{tool_holds}
use Rattle.run_facts.proofs.holding.tool_holds.Given as goal

abbrev pub invariant-loop-output : goal.invariant-loop-output
invariant-loop-output l = tool_holds (drop l.output-index l.outputs) ≡ tool_holds l.outputs
