use Rattle.std.proofs.Common.{◌≡◌, take}
use Rattle.staging.proofs.plan.StagePlan.clone_in.Given as goal

-- the front of the moves is copied
abbrev pub invariant-loop-planned : goal.invariant-loop-planned
invariant-loop-planned l = l.moves.items ≡ take l.planned-index l.planned-items
