use Rattle.std.proofs.Common.{◌≡◌, drop}
use Rattle.plan_waits.specs.Waiting as spec
use Rattle.plan_waits.proofs.waiting.step_process.Given as goal

abbrev pub invariant-loop-other : goal.invariant-loop-other
invariant-loop-other l = spec.step_process l.id (drop l.other-index l.steps) ≡ spec.step_process l.id l.steps
