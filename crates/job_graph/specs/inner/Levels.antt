-- One level of a process, with what its parts mean.
use Rattle.std.specs.Prelude.{List, [], length, map}
use Rattle.cwl_process.specs.declared.workflow.WorkflowOutput.{WorkflowOutput}
use Rattle.document_links.specs.declared.process.Step.{Step, out-Step}
use Rattle.job_graph.specs.Words.{Name, Fields, JobPlace}
use Rattle.job_graph.specs.Jobs.{Walk}
use Rattle.job_graph.specs.Equations.{StepOf, StepsOf, env_after, meaning_of, step_meaning_of, workflow_walk}
use Rattle.job_graph.specs.declared.made.Facts.{Facts}
use Rattle.job_graph.specs.inner.Views.{made_from}

abbrev pub step_of : Facts → Step → StepOf
step_of facts step = record {
  inputs = (out-Step step).inputs;
  outputs = (out-Step step).outputs;
  process = meaning_of facts.measures (made_from facts) (out-Step step).process;
  scatter = (out-Step step).scatter;
  method = (out-Step step).method;
  when = (out-Step step).when;
}

abbrev pub steps_of : Facts → List (Name × Step) → StepsOf
steps_of facts steps = map (λ s. (s.0, step_meaning_of facts.measures (made_from facts) s.1)) steps

-- the walk of a workflow with these outputs, on its inputs
abbrev pub steps_walk : List (Name × WorkflowOutput) → StepsOf → JobPlace → Fields → Walk
steps_walk outputs steps place inputs =
    workflow_walk (record { inputs = []; outputs = outputs; steps = steps }) place inputs (env_after (length steps) steps place inputs)
