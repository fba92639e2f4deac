use Rattle.std.proofs.Common.{◌≡◌}
use Rattle.plan_waits.specs.Waiting as spec
use Rattle.plan_waits.proofs.waiting.open_after.Given as goal

abbrev pub invariant-loop-links : goal.invariant-loop-links
invariant-loop-links l = l.flags.items ≡ spec.open_within l.links l.standings
