-- What is wrong with a process first: inner workflows before the outer one; then of a workflow how its steps are run, their links, its outputs,
-- and steps that wait for one another (CWL v1.2, Workflow Description, "Workflow").
use Rattle.std.specs.Prelude.{ℕ, List, None, map}
use Rattle.document_links.specs.declared.process.Process.{Process}
use Rattle.document_links.specs.declared.process.Process.TheOpen.{Process-F, Workflow-F, Step-F}
use Rattle.document_links.specs.declared.process.Process.TheFolds.{para-Process}
use Rattle.document_links.specs.declared.process.Step.{Step, out-Step}
use Rattle.document_links.specs.declared.process.Workflow.{Workflow}
use Rattle.workflow_check.specs.Faults.{Found, first_of, inside, or_next}
use Rattle.workflow_check.specs.Links.{Around, outputs_fault, steps_fault}
use Rattle.workflow_check.specs.Order.{order_fault}
use Rattle.workflow_check.specs.Scope.{Named}
use Rattle.workflow_check.specs.Shapes.{shapes_fault}

-- one level of a workflow
abbrev pub Level : Type 0
Level = Workflow-F Process Step Workflow

abbrev pub around : Level → Around
around workflow = record { inputs = workflow.inputs; steps = workflow.steps }

-- the faults of one workflow, without those of inner ones
abbrev pub own_fault : Level → Found
own_fault workflow =
    or_next (shapes_fault workflow.steps)
    (or_next (steps_fault (around workflow) workflow.steps)
    (or_next (outputs_fault (around workflow) workflow.outputs) (order_fault workflow.steps)))

-- ---- levels inside one another

-- a part of a process, beside what is wrong with it first
abbrev pub Beside : Type 0 → Type 0
Beside T = T × Found

abbrev pub process_step : Process-F (Beside Process) (Beside Step) (Beside Workflow) → Found
process_step (Process-F.Tool tool) = None
process_step (Process-F.Workflow workflow) = workflow.1

abbrev pub step_step : Step-F (Beside Process) (Beside Step) (Beside Workflow) → Found
step_step step = step.process.1

abbrev pub inner_fault : Named (Beside Step) → Found
inner_fault steps = first_of (λ e. inside e.0 e.1.1) steps

-- inner workflows before the outer one
abbrev pub workflow_step : Workflow-F (Beside Process) (Beside Step) (Beside Workflow) → Found
workflow_step workflow =
    or_next (inner_fault workflow.steps)
    (own_fault (record { inputs = workflow.inputs; outputs = workflow.outputs; steps = map (λ e. (e.0, e.1.0)) workflow.steps }))

-- what is wrong with a process first
abbrev pub fault_in : Process → Found
fault_in = para-Process Found Found Found process_step step_step workflow_step

-- the same of a step's process, and of one level with all that is inside
abbrev pub fault_in_step : List ℕ × Step → Found
fault_in_step e = inside e.0 (fault_in (out-Step e.1).process)

abbrev pub fault_in_workflow : Level → Found
fault_in_workflow workflow = or_next (first_of fault_in_step workflow.steps) (own_fault workflow)
