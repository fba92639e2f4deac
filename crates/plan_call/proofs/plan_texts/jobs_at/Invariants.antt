use Rattle.std.proofs.Common.{◌≡◌, map, take}
use Rattle.std.specs.List.{zip}
use Rattle.plan_call.specs.Plans.{planned_job}
use Rattle.plan_call.proofs.plan_texts.jobs_at.Given as goal

abbrev pub invariant-loop-number : goal.invariant-loop-number
invariant-loop-number l = l.jobs.items ≡ map planned_job (take l.number (zip l.places l.known))
