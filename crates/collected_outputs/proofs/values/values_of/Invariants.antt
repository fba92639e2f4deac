use Rattle.std.proofs.Common.{◌≡◌, take}
use Rattle.collected_outputs.specs.Values.{values_of}
use Rattle.collected_outputs.proofs.values.values_of.Given as goal

abbrev pub invariant-loop-name : goal.invariant-loop-name
invariant-loop-name l = l.values ≡ values_of l.listing (take l.name-index l.names)
