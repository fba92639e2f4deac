use Rattle.plain_data.specs.ByName.{IsUnrepeatedBelow}
use Rattle.plain_data.proofs.keyed.repeat.Given as goal

abbrev pub invariant-loop-index : goal.invariant-loop-index
invariant-loop-index g l = IsUnrepeatedBelow l.entries l.index
