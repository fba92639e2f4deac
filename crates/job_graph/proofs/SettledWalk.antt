-- The walk of a workflow whose steps are settled.
use Rattle.std.proofs.Common.{◌≡◌, ◌∙◌, ℕ, [], length, sym, ap, List}
use Rattle.cwl_process.specs.declared.workflow.WorkflowOutput.{WorkflowOutput}
use Rattle.document_links.specs.declared.process.Step.{Step}
use Rattle.plain_data.specs.ByName.{value_at}
use Rattle.job_graph.specs.Words.{Name, Fields, JobPlace}
use Rattle.job_graph.specs.Links.{Env, out_under}
use Rattle.job_graph.specs.Equations.{env_after, workflow_walk}
use Rattle.job_graph.specs.declared.made.Facts.{Facts}
use Rattle.job_graph.specs.inner.Levels.{steps_of, steps_walk}
use Rattle.job_graph.specs.inner.Rounds.{IsSettled, SaysSame}
use Rattle.job_graph.specs.inner.Views.{made_from}
use Rattle.job_graph.proofs.Loops.{steps_length}
use Rattle.job_graph.proofs.laws_of_walks.Settled.{says_same, walks_alike}

module _ (facts : Facts) (place : JobPlace) (inputs : Fields) (steps : List (Name × Step)) (env : Env) (settled : IsSettled facts place inputs steps env) where
  settled_says : SaysSame (env_after (length (steps_of facts steps)) (steps_of facts steps) place inputs) env
  settled_says = λ step name.
      says_same facts place inputs steps env settled.keeps settled.stuck step name
      ∙ ap (λ (n : ℕ). out_under name (value_at step (env_after n (steps_of facts steps) place inputs))) (sym (steps_length facts steps))

  pub settled_walk : (outputs : List (Name × WorkflowOutput)) →
      workflow_walk (record { inputs = []; outputs = outputs; steps = steps_of facts steps }) place inputs env ≡ steps_walk outputs (steps_of facts steps) place inputs
  settled_walk outputs =
      walks_alike facts.measures (made_from facts) place inputs env (env_after (length (steps_of facts steps)) (steps_of facts steps) place inputs) settled_says outputs steps
