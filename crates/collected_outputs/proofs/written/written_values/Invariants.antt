use Rattle.std.proofs.Common.{◌≡◌, [], drop}
use Rattle.collected_outputs.specs.Collected.{written_after}
use Rattle.collected_outputs.proofs.written.written_values.Given as goal

abbrev pub invariant-loop-output : goal.invariant-loop-output
invariant-loop-output l = written_after l.listing l.object l.values (drop l.output-index l.outputs) ≡ written_after l.listing l.object [] l.outputs
