use Rattle.std.proofs.Common.{◌≡◌, map, take}
use Rattle.plan_waits.proofs.waiting.first_open.Given as goal

abbrev pub invariant-loop-standing : goal.invariant-loop-standing
invariant-loop-standing l = l.flags.items ≡ map (λ s. s.is_open) (take l.standing-index l.standings)
