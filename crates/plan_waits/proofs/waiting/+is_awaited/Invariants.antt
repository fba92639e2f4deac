use Rattle.std.proofs.Common.{length}
use Rattle.plan_waits.proofs.waiting.+is_awaited.Given as goal

-- the steps that are left
abbrev pub decreases-is_awaited : goal.decreases-is_awaited
decreases-is_awaited l = length l.place.now
