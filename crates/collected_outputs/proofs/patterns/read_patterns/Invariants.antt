use Rattle.std.proofs.Common.{Ok, take}
use Rattle.collected_outputs.specs.Patterns.{AreRead}
use Rattle.collected_outputs.proofs.patterns.read_patterns.Given as goal

abbrev pub invariant-loop-text : goal.invariant-loop-text
invariant-loop-text l = AreRead (take l.text-index l.texts) (Ok l.patterns.items)
