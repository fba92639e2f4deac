use Rattle.workflow_check.specs.inner.Ways.{IsWayAt}
use Rattle.workflow_check.proofs.circles.is_circle.Given as goal

abbrev pub invariant-up : goal.invariant-up
invariant-up l = IsWayAt l.steps l.top l.link.source
