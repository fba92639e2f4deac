use Rattle.std.proofs.Common.{◌≡◌, drop}
use Rattle.workflow_check.specs.Shapes.{shapes_fault}
use Rattle.workflow_check.proofs.shapes.check_shapes.Given as goal

abbrev pub invariant-loop-entry : goal.invariant-loop-entry
invariant-loop-entry l = shapes_fault (drop l.entry-index l.entry-items) ≡ shapes_fault l.fn.steps
