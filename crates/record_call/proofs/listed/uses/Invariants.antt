use Rattle.std.proofs.Common.{◌≡◌, take}
use Rattle.record_call.specs.Listed as spec
use Rattle.record_call.proofs.listed.uses.Given as goal

abbrev pub invariant-loop-archive : goal.invariant-loop-archive
invariant-loop-archive l = l.uses.items ≡ spec.uses (take l.archive-index l.archives)
