use Rattle.std.proofs.Common.{◌≡◌, take}
use Rattle.record_program.specs.Checking as spec
use Rattle.record_program.proofs.checking.sums.Given as goal

abbrev pub invariant-loop-archive : goal.invariant-loop-archive
invariant-loop-archive l = l.entries.items ≡ spec.entries (spec.sums (take l.archive-index l.archives))
