use Rattle.std.proofs.Common.{◌≡◌, map, take}
use Rattle.plan_waits.specs.Waiting as spec
use Rattle.plan_waits.proofs.waiting.standings_of.Given as goal

abbrev pub invariant-loop-step : goal.invariant-loop-step
invariant-loop-step l = l.standings.items ≡ map (spec.standing l.steps l.jobs) (take l.step-index l.steps)
