use Rattle.std.proofs.Common.{◌+◌, length}
use Rattle.staging.specs.Placing.{ArePlaced}
use Rattle.staging.specs.inner.Folders.{IsAbove}
use Rattle.staging.specs.inner.Indexed.{IsIndex}
use Rattle.staging.specs.inner.Named.{IsNamed}
use Rattle.staging.proofs.placing.place_groups.Given as goal

abbrev pub invariant-loop-members : goal.invariant-loop-members
invariant-loop-members l = ArePlaced l.holds_others l.yielded l.placed × IsAbove l.placed (length l.placed + 1) × IsIndex l.index l.placed × IsNamed l.names l.placed
