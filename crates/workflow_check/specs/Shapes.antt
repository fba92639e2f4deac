-- How a step is run (CWL v1.2, Workflow Description, "WorkflowStep"): K5, K6 and K7, in this order.
use Rattle.std.specs.Prelude.{ℕ, List, Option, is_some, not, ◌&&◌, nat_lt, length}
use Rattle.scatter_shape.specs.declared.shape.Method.{Method}
use Rattle.cwl_process.specs.declared.workflow.StepInput.{StepInput}
use Rattle.document_links.specs.declared.process.Process.{Process}
use Rattle.document_links.specs.declared.process.Step.{Step, out-Step}
use Rattle.workflow_check.specs.declared.fault.LinkRule.TheVariants.{ScatterNotInput, MethodMissing, OutputUnknown}
use Rattle.workflow_check.specs.Faults.{Found, first_of, found_if, inside, or_next}
use Rattle.workflow_check.specs.Scope.{Named, gives, has}

-- a scattered name that is no entry of the step's
abbrev pub scatter_fault : Named StepInput → List ℕ → Found
scatter_fault inputs name = inside name (found_if (not (has name inputs)) ScatterNotInput)

-- several scattered inputs, and no method
abbrev pub method_fault : List (List ℕ) → Option Method → Found
method_fault scatter method = found_if (nat_lt 1 (length scatter) && not (is_some method)) MethodMissing

-- an output that the step's process doesn't have
abbrev pub output_fault : Process → List ℕ → Found
output_fault process name = inside name (found_if (not (has name (gives process))) OutputUnknown)

abbrev pub shape_fault : Step → Found
shape_fault step =
    or_next (first_of (scatter_fault (out-Step step).inputs) (out-Step step).scatter)
    (or_next (method_fault (out-Step step).scatter (out-Step step).method) (first_of (output_fault (out-Step step).process) (out-Step step).outputs))

-- step by step
abbrev pub shapes_fault : Named Step → Found
shapes_fault steps = first_of (λ e. inside e.0 (shape_fault e.1)) steps
