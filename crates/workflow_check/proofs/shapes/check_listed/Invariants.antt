use Rattle.std.proofs.Common.{◌≡◌, drop}
use Rattle.document_links.specs.declared.process.Step.{out-Step}
use Rattle.workflow_check.specs.Faults.{first_of}
use Rattle.workflow_check.specs.Shapes.{output_fault}
use Rattle.workflow_check.proofs.shapes.check_listed.Given as goal

abbrev pub invariant-loop-name : goal.invariant-loop-name
invariant-loop-name l = first_of (output_fault (out-Step l.fn.step).process) (drop l.name-index l.name-items) ≡ first_of (output_fault (out-Step l.fn.step).process) (out-Step l.fn.step).outputs
