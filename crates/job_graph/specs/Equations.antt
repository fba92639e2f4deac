-- The walk through any process: a tool is one job; a workflow is what its steps and outputs give, which read one another
-- (CWL v1.2, Workflow, "Workflow", "WorkflowStep"). In this order a step's inputs come by their links and defaults, scatter,
-- valueFrom, `when`, and then the process of the step checks them and adds its own defaults.
use Rattle.std.specs.Prelude.{ℕ, zero, suc, Bool, true, false, List, [], ◌∷◌, ◌++◌, Option, Some, None, Result, Ok, Err, map, flat_map, length, option_map}
use Rattle.std.specs.Map.{keys_of}
use Rattle.cwl_value.specs.declared.value.Value.{Value}
use Rattle.document_links.specs.declared.process.Process.{Process, fold-Process}
use Rattle.document_links.specs.declared.process.Process.TheOpen.{Process-F, Workflow-F, Step-F}
use Rattle.document_links.specs.declared.process.Step.{Step, fold-Step}
use Rattle.document_links.specs.declared.process.Workflow.{Workflow, fold-Workflow}
use Rattle.link_values.specs.StepInputs.{null, value_froms, when_value}
use Rattle.input_files.specs.Measured.{Measures}
use Rattle.scatter_shape.specs.declared.shape.Method.{Method}
use Rattle.scatter_shape.specs.Gathered.{gathered}
use Rattle.param_refs.specs.declared.template.Part.{Part}
use Rattle.job_graph.specs.declared.cause.Cause.{Cause}
use Rattle.job_graph.specs.declared.partly.Partly.{Partly}
use Rattle.job_graph.specs.declared.partly.Partly.TheVariants.{Waits, Gives, Fails}
use Rattle.job_graph.specs.Words.{Name, Fields, JobPlace, last_by_name}
use Rattle.job_graph.specs.Inputs.{tool_inputs_for, workflow_inputs_for, root_fields}
use Rattle.job_graph.specs.Jobs.{Met, met_fault, Walk, Made, Walker, unknown, failed, tool_walk, all_there}
use Rattle.job_graph.specs.Links.{Env, by_link, entry_value, output_value, given, all_given, out_under}
use Rattle.job_graph.specs.Scatter.{lengths_under, tuples_for, method_of, at_tuple}

-- what a process gives at a place for what is handed to it
abbrev pub Meaning : Type 0
Meaning = JobPlace → Fields → Walk

-- what a step of this id gives in a workflow at a place, for the workflow's inputs and the outputs of its steps
abbrev pub StepMeaning : Type 0
StepMeaning = Name → JobPlace → Fields → Env → Walk

abbrev pub StepOf : Type 0
StepOf = Step-F Meaning StepMeaning Meaning

abbrev pub WorkflowOf : Type 0
WorkflowOf = Workflow-F Meaning StepMeaning Meaning

abbrev pub fault_at : JobPlace → Partly → List Met
fault_at place (Fails cause) = met_fault place cause ∷ []
fault_at place Waits = []
fault_at place (Gives value) = []

-- ---- one job or subworkflow of a step: valueFrom, then `when`, then its process

-- the outputs of what is skipped are null
abbrev pub skipped : List Name → Walk
skipped names = record { met = []; outs = map (λ name. (name, Some null)) names }

abbrev pub goes_on : Option (List Part) → Fields → Result Bool Cause
goes_on None fields = Ok true
goes_on (Some template) fields = by_link (when_value template fields)

abbrev pub run_where : StepOf → JobPlace → Fields → Result Bool Cause → Walk
run_where s place fields (Ok true) = s.process place fields
run_where s place fields (Ok false) = skipped s.outputs
run_where s place fields (Err cause) = failed place cause s.outputs

abbrev pub instance_from : StepOf → JobPlace → Result Fields Cause → Walk
instance_from s place (Err cause) = failed place cause s.outputs
instance_from s place (Ok fields) = run_where s place fields (goes_on s.when fields)

abbrev pub instance : StepOf → JobPlace → Fields → Walk
instance s place fields = instance_from s place (by_link (value_froms s.inputs fields))

-- ---- a scattered step: one for each tuple, and their outputs put together

abbrev pub step_place : JobPlace → Name → List ℕ → JobPlace
step_place place id tuple = place ++ record { step = id; index = tuple } ∷ []

-- an output of each, put together once all are known
abbrev pub out_gathered : Method → List ℕ → List Walk → Name → Option Value
out_gathered method lengths walks name = option_map (gathered method lengths) (all_there (map (λ w. out_under name (Some w.outs)) walks))

-- all that they meet, and each output put together
abbrev pub walks_together : Method → List ℕ → List Name → List Walk → Walk
walks_together method lengths names walks = record {
  met = flat_map (λ w. w.met) walks;
  outs = map (λ name. (name, out_gathered method lengths walks name)) names;
}

abbrev pub all_instances : StepOf → List ℕ → List Walk → Walk
all_instances s lengths walks = walks_together (method_of s.method) lengths s.outputs walks

abbrev pub over_tuples : StepOf → Name → JobPlace → Fields → List ℕ → Result (List (List ℕ)) Cause → Walk
over_tuples s id place fields lengths (Err cause) = failed (step_place place id []) cause s.outputs
over_tuples s id place fields lengths (Ok tuples) =
    all_instances s lengths (map (λ t. instance s (step_place place id t) (at_tuple s.scatter t fields)) tuples)

abbrev pub over_lengths : StepOf → Name → JobPlace → Fields → Result (List ℕ) Cause → Walk
over_lengths s id place fields (Err cause) = failed (step_place place id []) cause s.outputs
over_lengths s id place fields (Ok lengths) = over_tuples s id place fields lengths (tuples_for (method_of s.method) lengths)

abbrev pub scattered : StepOf → Name → JobPlace → Fields → List Name → Walk
scattered s id place fields [] = instance s (step_place place id []) fields
scattered s id place fields (name ∷ names) = over_lengths s id place fields (lengths_under (name ∷ names) fields)

-- ---- a step waits until each of its inputs is known; its defaults are as they were measured

abbrev pub entered : StepOf → Name → JobPlace → List Met → Option Fields → Walk
entered s id place faults None = record { met = faults; outs = unknown s.outputs }
entered s id place faults (Some fields) = scattered s id place fields s.scatter

abbrev pub step_at : StepOf → Name → JobPlace → List (Name × Partly) → Walk
step_at s id place entries =
    entered s id place (flat_map (λ e. fault_at (step_place place id []) e.1) entries) (all_given entries)

abbrev pub step_meaning : Measures → StepOf → StepMeaning
step_meaning measures s id place inputs env = step_at s id place (map (λ i. (i.0, entry_value measures inputs env i.1)) s.inputs)

-- ---- a workflow: its steps read one another's outputs; as many rounds as it has steps make all known that can be

abbrev pub StepsOf : Type 0
StepsOf = List (Name × StepMeaning)

abbrev pub step_walk : JobPlace → Fields → Env → Name × StepMeaning → Walk
step_walk place inputs env s = s.1 s.0 place inputs env

-- each step's outputs, where these are known
abbrev pub next_env : StepsOf → JobPlace → Fields → Env → Env
next_env steps place inputs env = last_by_name (map (λ s. (s.0, (step_walk place inputs env s).outs)) steps)

abbrev pub env_after : ℕ → StepsOf → JobPlace → Fields → Env
env_after zero steps place inputs = []
env_after (suc n) steps place inputs = next_env steps place inputs (env_after n steps place inputs)

abbrev pub workflow_walk : WorkflowOf → JobPlace → Fields → Env → Walk
workflow_walk w place inputs env =
    record {
      met = flat_map (λ s. (step_walk place inputs env s).met) w.steps ++ flat_map (λ o. fault_at place (output_value inputs env o.1.links)) w.outputs;
      outs = map (λ o. (o.0, given (output_value inputs env o.1.links))) w.outputs;
    }

abbrev pub workflow_at : WorkflowOf → JobPlace → Result Fields Cause → Walk
workflow_at w place (Err cause) = failed place cause (keys_of w.outputs)
workflow_at w place (Ok inputs) = workflow_walk w place inputs (env_after (length w.steps) w.steps place inputs)

-- where this was measured, and the outputs of some jobs are known
module _ (measures : Measures) where
  abbrev pub workflow_meaning : WorkflowOf → Meaning
  workflow_meaning w place fields = workflow_at w place (workflow_inputs_for measures w.inputs fields)

  module _ (made : Made) where
    abbrev pub process_level : Process-F Meaning StepMeaning Meaning → Meaning
    process_level (Process-F.Tool tool) place fields = tool_walk tool place (tool_inputs_for measures tool.inputs fields) made
    process_level (Process-F.Workflow meaning) place fields = meaning place fields

    -- a process at a place
    abbrev pub meaning_of : Process → Meaning
    meaning_of = fold-Process Meaning StepMeaning Meaning process_level (step_meaning measures) workflow_meaning

    abbrev pub step_meaning_of : Step → StepMeaning
    step_meaning_of = fold-Step Meaning StepMeaning Meaning process_level (step_meaning measures) workflow_meaning

    abbrev pub workflow_meaning_of : Workflow → Meaning
    workflow_meaning_of = fold-Workflow Meaning StepMeaning Meaning process_level (step_meaning measures) workflow_meaning

-- the walk from the root
abbrev pub walker : Process → Fields → Measures → Walker
walker process given measures made = meaning_of measures made process [] (root_fields process given measures)
