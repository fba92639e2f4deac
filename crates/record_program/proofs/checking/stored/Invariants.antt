use Rattle.std.proofs.Common.{◌≡◌, take}
use Rattle.record_program.specs.Checking as spec
use Rattle.record_program.proofs.checking.stored.Given as goal

abbrev pub invariant-loop-name : goal.invariant-loop-name
invariant-loop-name l = l.entries.items ≡ spec.entries (spec.stored (take l.name-index l.all))
