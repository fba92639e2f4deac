use Rattle.std.proofs.Common.{◌≡◌, drop}
use Rattle.workflow_check.specs.Faults.{first_of}
use Rattle.workflow_check.specs.Shapes.{scatter_fault}
use Rattle.workflow_check.proofs.shapes.check_scatter.Given as goal

abbrev pub invariant-loop-name : goal.invariant-loop-name
invariant-loop-name l = first_of (scatter_fault l.fn.inputs) (drop l.name-index l.name-items) ≡ first_of (scatter_fault l.fn.inputs) l.fn.scatter
