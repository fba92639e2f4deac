use Rattle.std.proofs.Common.{◌≡◌, map, take}
use Rattle.plan_waits.specs.Waiting as spec
use Rattle.plan_waits.proofs.waiting.next_open.Given as goal

abbrev pub invariant-loop-standing : goal.invariant-loop-standing
invariant-loop-standing l = l.next.items ≡ map (spec.is_open l.flags) (take l.standing-index l.standings)
