use Rattle.std.proofs.Common.{take}
use Rattle.record_call.specs.Checked.{IsParted}
use Rattle.record_call.proofs.checked.cleared.Given as goal

abbrev pub invariant-loop-name : goal.invariant-loop-name
invariant-loop-name g l = IsParted l.remove l.parted.removed l.parted.left (take l.name-index l.unknown)
