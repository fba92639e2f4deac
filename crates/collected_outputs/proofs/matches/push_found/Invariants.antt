use Rattle.std.proofs.Common.{take}
use Rattle.collected_outputs.specs.inner.Matches.{AddsThose}
use Rattle.collected_outputs.proofs.matches.push_found.Given as goal

abbrev pub invariant-loop-entry : goal.invariant-loop-entry
invariant-loop-entry l = AddsThose (take l.entry-index l.entry-items) l.pattern l.initial.names l.names
