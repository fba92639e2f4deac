-- The values of a step's inputs and of a workflow's outputs, where the outputs of steps are known or not (CWL v1.2, Workflow,
-- "WorkflowStepInput", "WorkflowOutputParameter": `source`, `outputSource`).
use Rattle.std.specs.Prelude.{List, [], Option, Some, None, Result, Ok, Err, map, option_map, fold, unwrap_or}
use Rattle.plain_data.specs.ByName.{value_at, with_value}
use Rattle.cwl_value.specs.declared.value.Value.{Value}
use Rattle.cwl_process.specs.declared.links.Links.{Links}
use Rattle.cwl_process.specs.declared.links.Source.{Source}
use Rattle.cwl_process.specs.declared.workflow.StepInput.{StepInput}
use Rattle.input_files.specs.Measured.{Measures, as_measured}
use Rattle.link_values.specs.declared.fault.LinkFault.{LinkFault}
use Rattle.link_values.specs.declared.fault.LinkFault.TheVariants as link_fault
use Rattle.link_values.specs.Merged.{merged}
use Rattle.link_values.specs.Picked.{picked}
use Rattle.link_values.specs.StepInputs.{null, value_under, step_input}
use Rattle.job_graph.specs.declared.cause.Cause.{Cause}
use Rattle.job_graph.specs.declared.cause.Cause.TheVariants as cause
use Rattle.job_graph.specs.declared.partly.Partly.{Partly}
use Rattle.job_graph.specs.declared.partly.Partly.TheVariants.{Waits, Gives, Fails}
use Rattle.job_graph.specs.Words.{Name, Fields}
use Rattle.job_graph.specs.Jobs.{Outs, all_there}

-- the outputs of each step, by the steps' ids
abbrev pub Env : Type 0
Env = List (Name × Outs)

-- a reference's fault is its own cause
abbrev pub cause_of : LinkFault → Cause
cause_of link_fault.NoneNonNull = cause.Link link_fault.NoneNonNull
cause_of link_fault.SeveralNonNull = cause.Link link_fault.SeveralNonNull
cause_of link_fault.NotABoolean = cause.Link link_fault.NotABoolean
cause_of (link_fault.Reference fault) = cause.Reference fault

abbrev pub by_link : {T : Type 0} → Result T LinkFault → Result T Cause
by_link (Ok x) = Ok x
by_link (Err fault) = Err (cause_of fault)

abbrev pub out_under : Name → Option Outs → Option Value
out_under name None = None
out_under name (Some outs) = unwrap_or (value_at name outs) None

-- an input of the workflow, or an output of a step
abbrev pub value_from : Option Name → Name → Fields → Env → Option Value
value_from None name inputs env = Some (value_under name inputs)
value_from (Some step) name inputs env = out_under name (value_at step env)

abbrev pub source_value : Fields → Env → Source → Option Value
source_value inputs env source = value_from source.step source.name inputs env

-- the values of all links, once each is known
abbrev pub linked_values : Fields → Env → List Source → Option (List Value)
linked_values inputs env sources = all_there (map (source_value inputs env) sources)

abbrev pub partly : Result Value Cause → Partly
partly (Ok value) = Gives value
partly (Err cause) = Fails cause

-- a value waits until all that it is made of is known
abbrev pub once_known : (List Value → Result Value Cause) → Option (List Value) → Partly
once_known made None = Waits
once_known made (Some values) = partly (made values)

-- a step's input with its default as it was measured
abbrev pub measured : Measures → StepInput → StepInput
measured measures input = record input { default = option_map (as_measured measures) input.default }

-- a step's input: merged, picked, and then its default
abbrev pub entry_value : Measures → Fields → Env → StepInput → Partly
entry_value measures inputs env input =
    once_known (λ values. by_link (step_input (measured measures input) (merged input.links.merge values)))
    (linked_values inputs env (unwrap_or input.links.sources []))

-- a workflow's output: merged and picked; null where it has no source
abbrev pub output_from : Fields → Env → Links → Option (List Source) → Partly
output_from inputs env links None = Gives null
output_from inputs env links (Some sources) =
    once_known (λ values. by_link (picked links.pick (merged links.merge values))) (linked_values inputs env sources)

abbrev pub output_value : Fields → Env → Links → Partly
output_value inputs env links = output_from inputs env links links.sources

-- what is known of it
abbrev pub given : Partly → Option Value
given Waits = None
given (Gives value) = Some value
given (Fails cause) = None

-- ---- the inputs of a step together, once each is known

abbrev pub with_entry : Option Fields → Name × Partly → Option Fields
with_entry None entry = None
with_entry (Some fields) (name, Waits) = None
with_entry (Some fields) (name, Gives value) = Some (with_value name value fields)
with_entry (Some fields) (name, Fails cause) = None

abbrev pub all_given : List (Name × Partly) → Option Fields
all_given entries = fold with_entry (Some []) entries
