-- The rounds of a workflow's steps where more is known.
use Rattle.std.proofs.Common.{◌≡◌, ◌∙◌, ℕ, zero, suc, List, [], ◌∷◌, map, length, Bool, true, false, cond, Option, Some, Result, Ok, Err, bytes_eq, refl, sym, ap, subst, subst₂}
use Rattle.std.specs.List.{AllByRecursion, flat_map}
use Rattle.std.specs.Map.{keys_of}
use Rattle.cwl_process.specs.declared.workflow.WorkflowOutput.{WorkflowOutput}
use Rattle.document_links.specs.declared.process.Step.{Step}
use Rattle.plain_data.specs.ByName.{value_at, with_value, map_values}
use Rattle.plain_data.proofs.Lookup.{value_at-with_value}
use Rattle.job_graph.specs.declared.cause.Cause.{Cause}
use Rattle.job_graph.specs.Words.{Name, Fields, JobPlace, put_from}
use Rattle.job_graph.specs.Jobs.{Job, Met, Outs, failed}
use Rattle.job_graph.specs.Links.{Env, out_under, output_value, given}
use Rattle.job_graph.specs.Equations.{StepMeaning, fault_at, step_walk, env_after, workflow_walk, workflow_at}
use Rattle.job_graph.specs.More.{Stays, IsPart, nothing, IsGrown}
use Rattle.job_graph.specs.inner.Rounds.{EnvGrows}
use Rattle.job_graph.proofs.laws_of_walks.Processes.{WorkflowLevel, workflow_of}
use Rattle.job_graph.proofs.laws_of_walks.Part.{AllIn, each_left, each_right, each_part, part_append, stays_under, grown_itself}
use Rattle.job_graph.proofs.laws_of_walks.Steps.{StepGoes, outputs_settle, given_stays, faults_along}

-- ---- outputs put beside those of other steps

env_either : (b : Bool) (one other : Outs) (now later : Option Outs) (name : Name) → Stays (out_under name (Some one)) (out_under name (Some other)) → Stays (out_under name now) (out_under name later)
    → Stays (out_under name (cond b (Some one) now)) (out_under name (cond b (Some other) later))
env_either true one other now later name here there = here
env_either false one other now later name here there = there

with_grows : (id : Name) (one other : Outs) (now later : Env) → ((name : Name) → Stays (out_under name (Some one)) (out_under name (Some other))) → EnvGrows now later
    → EnvGrows (with_value id one now) (with_value id other later)
with_grows id one other now later here there = λ step name.
    subst₂ (λ (a b : Option Outs). Stays (out_under name a) (out_under name b)) (sym (value_at-with_value step id one now)) (sym (value_at-with_value step id other later))
    (env_either (bytes_eq step id) one other (value_at step now) (value_at step later) name (here name) (there step name))

-- ---- steps by the meanings that F and H give them

-- a step gives no less where more of the other steps is known
abbrev pub StepRises : StepMeaning → Type 0
StepRises one = (id : Name) (place : JobPlace) (inputs : Fields) (env later : Env) → EnvGrows env later → IsGrown (one id place inputs env) (one id place inputs later)

module _ (G : Job → Type 0) (F H : Step → StepMeaning) (place : JobPlace) (inputs : Fields) where
  abbrev pub met_in : (Step → StepMeaning) → Env → List (Name × Step) → List Met
  met_in means env steps = flat_map (λ s. (step_walk place inputs env s).met) (map_values means steps)

  abbrev pub outs_in : (Step → StepMeaning) → Env → List (Name × Step) → Env
  outs_in means env steps = map (λ s. (s.0, (step_walk place inputs env s).outs)) (map_values means steps)

  abbrev pub round : (Step → StepMeaning) → List (Name × Step) → ℕ → Env
  round means steps n = env_after n (map_values means steps) place inputs

  put_grows : (env later : Env) → EnvGrows env later → (steps : List (Name × Step)) → AllByRecursion (λ (e : Name × Step). StepGoes G (F e.1) (H e.1)) steps → AllIn G (met_in F env steps)
      → (now there : Env) → EnvGrows now there → EnvGrows (put_from now (outs_in F env steps)) (put_from there (outs_in H later steps))
  put_grows env later grows [] go all now there put = put
  put_grows env later grows (e ∷ es) go all now there put =
      put_grows env later grows es go.1 (each_right G (F e.1 e.0 place inputs env).met (met_in F env es) all) (with_value e.0 (F e.1 e.0 place inputs env).outs now) (with_value e.0 (H e.1 e.0 place inputs later).outs there)
      (with_grows e.0 (F e.1 e.0 place inputs env).outs (H e.1 e.0 place inputs later).outs now there
      (go.0 e.0 place inputs env later grows (each_left G (F e.1 e.0 place inputs env).met (met_in F env es) all)).outs put)

  met_goes : (env later : Env) → EnvGrows env later → (steps : List (Name × Step)) → AllByRecursion (λ (e : Name × Step). StepGoes G (F e.1) (H e.1)) steps → AllIn G (met_in F env steps)
      → IsPart (met_in F env steps) (met_in H later steps)
  met_goes env later grows [] go all = nothing
  met_goes env later grows (e ∷ es) go all =
      part_append (F e.1 e.0 place inputs env).met (H e.1 e.0 place inputs later).met (met_in F env es) (met_in H later es)
      (go.0 e.0 place inputs env later grows (each_left G (F e.1 e.0 place inputs env).met (met_in F env es) all)).met (met_goes env later grows es go.1 (each_right G (F e.1 e.0 place inputs env).met (met_in F env es) all))

  -- the same of one meaning, without G
  put_rises : (env later : Env) → EnvGrows env later → (steps : List (Name × Step)) → AllByRecursion (λ (e : Name × Step). StepRises (F e.1)) steps
      → (now there : Env) → EnvGrows now there → EnvGrows (put_from now (outs_in F env steps)) (put_from there (outs_in F later steps))
  put_rises env later grows [] rise now there put = put
  put_rises env later grows (e ∷ es) rise now there put =
      put_rises env later grows es rise.1 (with_value e.0 (F e.1 e.0 place inputs env).outs now) (with_value e.0 (F e.1 e.0 place inputs later).outs there)
      (with_grows e.0 (F e.1 e.0 place inputs env).outs (F e.1 e.0 place inputs later).outs now there (rise.0 e.0 place inputs env later grows).outs put)

  pub met_rises : (env later : Env) → EnvGrows env later → (steps : List (Name × Step)) → AllByRecursion (λ (e : Name × Step). StepRises (F e.1)) steps
      → IsPart (met_in F env steps) (met_in F later steps)
  met_rises env later grows [] rise = nothing
  met_rises env later grows (e ∷ es) rise =
      part_append (F e.1 e.0 place inputs env).met (F e.1 e.0 place inputs later).met (met_in F env es) (met_in F later es) (rise.0 e.0 place inputs env later grows).met (met_rises env later grows es rise.1)

  module _ (steps : List (Name × Step)) (rise : AllByRecursion (λ (e : Name × Step). StepRises (F e.1)) steps) where
    -- each round knows no less than the one before
    pub round_rises : (n : ℕ) → EnvGrows (round F steps n) (round F steps (suc n))
    round_rises zero = λ step name. tt
    round_rises (suc n) = put_rises (round F steps n) (round F steps (suc n)) (round_rises n) steps rise [] [] (λ step name. tt)

    -- what is met in a round is met in the next
    pub met_before : (n : ℕ) → AllIn G (met_in F (round F steps (suc n)) steps) → AllIn G (met_in F (round F steps n) steps)
    met_before n all = each_part G (met_in F (round F steps n) steps) (met_in F (round F steps (suc n)) steps) (met_rises (round F steps n) (round F steps (suc n)) (round_rises n) steps rise) all

    module _ (go : AllByRecursion (λ (e : Name × Step). StepGoes G (F e.1) (H e.1)) steps) where
      pub round_goes : (n : ℕ) → AllIn G (met_in F (round F steps n) steps) → EnvGrows (round F steps n) (round H steps n)
      round_goes zero all = λ step name. tt
      round_goes (suc n) all =
          put_grows (round F steps n) (round H steps n) (round_goes n (met_before n all)) steps go (met_before n all) [] [] (λ step name. tt)

      outputs_part : (outputs : List (Name × WorkflowOutput)) (env later : Env) → EnvGrows env later
          → IsPart (flat_map (λ o. fault_at place (output_value inputs env o.1.links)) outputs) (flat_map (λ o. fault_at place (output_value inputs later o.1.links)) outputs)
      outputs_part outputs env later grows =
          faults_along place (λ (o : Name × WorkflowOutput). output_value inputs env o.1.links) (λ o. output_value inputs later o.1.links) (λ o. outputs_settle inputs env later grows o.1.links) outputs

      walk_goes : (workflow : WorkflowLevel) (n : ℕ) → AllIn G (workflow_walk (workflow_of workflow (map_values F steps)) place inputs (round F steps n)).met
          → IsGrown (workflow_walk (workflow_of workflow (map_values F steps)) place inputs (round F steps n)) (workflow_walk (workflow_of workflow (map_values H steps)) place inputs (round H steps n))
      walk_goes workflow n all =
          let env : Env = round F steps n in
          let later : Env = round H steps n in
          let of_steps : AllIn G (met_in F env steps) = each_left G (met_in F env steps) (flat_map (λ o. fault_at place (output_value inputs env o.1.links)) workflow.outputs) all in
          let grows : EnvGrows env later = round_goes n of_steps in
          record {
            met = part_append (met_in F env steps) (met_in H later steps) (flat_map (λ o. fault_at place (output_value inputs env o.1.links)) workflow.outputs)
                (flat_map (λ o. fault_at place (output_value inputs later o.1.links)) workflow.outputs)
                (met_goes env later grows steps go of_steps) (outputs_part workflow.outputs env later grows);
            outs = λ name. stays_under (λ (o : Name × WorkflowOutput). o.0) (λ o. given (output_value inputs env o.1.links)) (λ o. given (output_value inputs later o.1.links))
                (λ o. given_stays (output_value inputs env o.1.links) (output_value inputs later o.1.links) (outputs_settle inputs env later grows o.1.links)) name workflow.outputs;
          }

pub length_values : {X Y : Type 0} (f : X → Y) (entries : List (Name × X)) → length (map_values f entries) ≡ length entries
length_values f [] = refl
length_values f (e ∷ es) = ap suc (length_values f es)

-- a workflow, whose steps give no less
module _ (G : Job → Type 0) (F H : Step → StepMeaning) (workflow : WorkflowLevel) where
  pub same_length : length (map_values F workflow.steps) ≡ length (map_values H workflow.steps)
  same_length = length_values F workflow.steps ∙ sym (length_values H workflow.steps)

  pub at_goes : AllByRecursion (λ (e : Name × Step). StepRises (F e.1)) workflow.steps → AllByRecursion (λ (e : Name × Step). StepGoes G (F e.1) (H e.1)) workflow.steps
      → (place : JobPlace) (found : Result Fields Cause) → AllIn G (workflow_at (workflow_of workflow (map_values F workflow.steps)) place found).met
      → IsGrown (workflow_at (workflow_of workflow (map_values F workflow.steps)) place found) (workflow_at (workflow_of workflow (map_values H workflow.steps)) place found)
  at_goes rise go place (Err cause) all = grown_itself (failed place cause (keys_of workflow.outputs))
  at_goes rise go place (Ok inputs) all =
      subst (λ (n : ℕ). IsGrown (workflow_walk (workflow_of workflow (map_values F workflow.steps)) place inputs (round G F H place inputs F workflow.steps (length (map_values F workflow.steps))))
      (workflow_walk (workflow_of workflow (map_values H workflow.steps)) place inputs (round G F H place inputs H workflow.steps n))) same_length
      (walk_goes G F H place inputs workflow.steps rise go workflow (length (map_values F workflow.steps)) all)
