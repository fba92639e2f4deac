use Rattle.std.proofs.Common.{take}
use Rattle.collected_outputs.specs.Matched.{AreOfAll}
use Rattle.collected_outputs.proofs.matches.all_matches.Given as goal

abbrev pub invariant-loop-pattern : goal.invariant-loop-pattern
invariant-loop-pattern l = AreOfAll l.listing (take l.pattern-index l.patterns) l.names
