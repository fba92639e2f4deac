-- A walk depends on the outputs of no other jobs than those that it meets.
use Rattle.std.proofs.Common.{◌≡◌, ◌∙◌, ℕ, zero, suc, List, [], ◌∷◌, ◌++◌, map, length, Bool, true, false, Option, Some, None, Result, Ok, Err, refl, sym, ap, ap₂, subst₂}
use Rattle.std.specs.List.{AllByRecursion, flat_map}
use Rattle.cwl_process.specs.declared.tool.Tool.{Tool}
use Rattle.document_links.specs.declared.process.Process.{Process}
use Rattle.document_links.specs.declared.process.Step.{Step}
use Rattle.document_links.specs.declared.process.Workflow.{Workflow}
use Rattle.input_files.specs.Measured.{Measures}
use Rattle.link_values.specs.StepInputs.{value_froms}
use Rattle.plain_data.specs.ByName.{map_values}
use Rattle.job_graph.specs.declared.cause.Cause.{Cause}
use Rattle.job_graph.specs.Words.{Name, Fields, JobPlace, last_by_name}
use Rattle.job_graph.specs.Inputs.{tool_inputs_for, workflow_inputs_for}
use Rattle.job_graph.specs.Jobs.{Job, Met, met_job, Made, Walk, outs_of, output_names, tool_walk}
use Rattle.job_graph.specs.Links.{Env, by_link, all_given, output_value, given}
use Rattle.job_graph.specs.Scatter.{lengths_under, tuples_for, method_of, at_tuple}
use Rattle.job_graph.specs.Equations.{Meaning, StepMeaning, StepOf, fault_at, goes_on, run_where, instance_from, instance, step_place, all_instances, over_tuples, over_lengths, scattered, entered, step_meaning, meaning_of, step_meaning_of, workflow_meaning_of, next_env, workflow_walk, workflow_at}
use Rattle.job_graph.proofs.laws_of_walks.Processes.{StepLevel, WorkflowLevel, step_of, workflow_of, Cases, induction, tool_level, workflow_in, step_level, workflow_level}
use Rattle.job_graph.proofs.laws_of_walks.Part.{AllIn, each_left, each_right}
use Rattle.job_graph.proofs.laws_of_walks.Steps.{entries_of, faults_in}
use Rattle.job_graph.proofs.laws_of_walks.Rounds.{StepRises, met_before, met_in, outs_in, round, length_values}
use Rattle.job_graph.proofs.laws_of_walks.Grown.{steps_rise}

module _ (G : Job → Type 0) where
  abbrev pub Agree : Meaning → Meaning → Type 0
  Agree one other = (place : JobPlace) (fields : Fields) → AllIn G (one place fields).met → one place fields ≡ other place fields

  abbrev pub StepAgrees : StepMeaning → StepMeaning → Type 0
  StepAgrees one other = (id : Name) (place : JobPlace) (inputs : Fields) (env : Env) → AllIn G (one id place inputs env).met → one id place inputs env ≡ other id place inputs env

  -- ---- a step

  module _ (step : StepLevel) (one other : Meaning) (agree : Agree one other) where
    abbrev s : StepOf
    s = step_of step one

    abbrev t : StepOf
    t = step_of step other

    run_agrees : (place : JobPlace) (fields : Fields) (is_run : Result Bool Cause) → AllIn G (run_where s place fields is_run).met → run_where s place fields is_run ≡ run_where t place fields is_run
    run_agrees place fields (Ok true) all = agree place fields all
    run_agrees place fields (Ok false) all = refl
    run_agrees place fields (Err cause) all = refl

    from_agrees : (place : JobPlace) (found : Result Fields Cause) → AllIn G (instance_from s place found).met → instance_from s place found ≡ instance_from t place found
    from_agrees place (Err cause) all = refl
    from_agrees place (Ok fields) all = run_agrees place fields (goes_on step.when fields) all

    pub instance_agrees : (place : JobPlace) (fields : Fields) → AllIn G (instance s place fields).met → instance s place fields ≡ instance t place fields
    instance_agrees place fields all = from_agrees place (by_link (value_froms step.inputs fields)) all

    module _ (id : Name) (place : JobPlace) (fields : Fields) where
      abbrev of_s : List ℕ → Walk
      of_s tuple = instance s (step_place place id tuple) (at_tuple step.scatter tuple fields)

      abbrev of_t : List ℕ → Walk
      of_t tuple = instance t (step_place place id tuple) (at_tuple step.scatter tuple fields)

      pub all_agree : (tuples : List (List ℕ)) → AllIn G (flat_map (λ w. w.met) (map of_s tuples)) → map of_s tuples ≡ map of_t tuples
      all_agree [] all = refl
      all_agree (x ∷ xs) all =
          ap₂ (λ (w : Walk) (ws : List Walk). w ∷ ws)
          (instance_agrees (step_place place id x) (at_tuple step.scatter x fields) (each_left G (of_s x).met (flat_map (λ w. w.met) (map of_s xs)) all))
          (all_agree xs (each_right G (of_s x).met (flat_map (λ w. w.met) (map of_s xs)) all))

      tuples_agree : (lengths : List ℕ) (tuples : Result (List (List ℕ)) Cause) → AllIn G (over_tuples s id place fields lengths tuples).met
          → over_tuples s id place fields lengths tuples ≡ over_tuples t id place fields lengths tuples
      tuples_agree lengths (Err cause) all = refl
      tuples_agree lengths (Ok tuples) all = ap (all_instances s lengths) (all_agree tuples all)

      lengths_agree : (lengths : Result (List ℕ) Cause) → AllIn G (over_lengths s id place fields lengths).met → over_lengths s id place fields lengths ≡ over_lengths t id place fields lengths
      lengths_agree (Err cause) all = refl
      lengths_agree (Ok lengths) all = tuples_agree lengths (tuples_for (method_of step.method) lengths) all

      scatter_agrees : (names : List Name) → AllIn G (scattered s id place fields names).met → scattered s id place fields names ≡ scattered t id place fields names
      scatter_agrees [] all = instance_agrees (step_place place id []) fields all
      scatter_agrees (n ∷ ns) all = lengths_agree (lengths_under (n ∷ ns) fields) all

    enter_agrees : (id : Name) (place : JobPlace) (faults : List Met) (o : Option Fields) → AllIn G (entered s id place faults o).met → entered s id place faults o ≡ entered t id place faults o
    enter_agrees id place faults None all = refl
    enter_agrees id place faults (Some fields) all = scatter_agrees id place fields step.scatter all

    pub step_agrees : (measures : Measures) → StepAgrees (step_meaning measures s) (step_meaning measures t)
    step_agrees measures id place inputs env all =
        enter_agrees id place (faults_in (step_place place id []) (entries_of measures step.inputs inputs env)) (all_given (entries_of measures step.inputs inputs env)) all

  -- ---- a workflow

  module _ (F H : Step → StepMeaning) (place : JobPlace) (inputs : Fields) where
    abbrev met : Env → List (Name × Step) → List Met
    met env steps = met_in G F H place inputs F env steps

    abbrev at : (Step → StepMeaning) → List (Name × Step) → ℕ → Env
    at means steps n = round G F H place inputs means steps n

    pub outs_agree : (env : Env) (steps : List (Name × Step)) → AllByRecursion (λ (e : Name × Step). StepAgrees (F e.1) (H e.1)) steps → AllIn G (met env steps)
        → outs_in G F H place inputs F env steps ≡ outs_in G F H place inputs H env steps
    outs_agree env [] agree all = refl
    outs_agree env (e ∷ es) agree all =
        ap₂ (λ (w : Walk) (rest : Env). (e.0, w.outs) ∷ rest) (agree.0 e.0 place inputs env (each_left G (F e.1 e.0 place inputs env).met (met env es) all))
        (outs_agree env es agree.1 (each_right G (F e.1 e.0 place inputs env).met (met env es) all))

    pub met_agree : (env : Env) (steps : List (Name × Step)) → AllByRecursion (λ (e : Name × Step). StepAgrees (F e.1) (H e.1)) steps → AllIn G (met env steps)
        → met env steps ≡ met_in G F H place inputs H env steps
    met_agree env [] agree all = refl
    met_agree env (e ∷ es) agree all =
        ap₂ (λ (w : Walk) (rest : List Met). w.met ++ rest) (agree.0 e.0 place inputs env (each_left G (F e.1 e.0 place inputs env).met (met env es) all))
        (met_agree env es agree.1 (each_right G (F e.1 e.0 place inputs env).met (met env es) all))

    module _ (steps : List (Name × Step)) (rise : AllByRecursion (λ (e : Name × Step). StepRises (F e.1)) steps) (agree : AllByRecursion (λ (e : Name × Step). StepAgrees (F e.1) (H e.1)) steps) where
      round_agrees : (n : ℕ) → AllIn G (met (at F steps n) steps) → at F steps n ≡ at H steps n
      round_agrees zero all = refl
      round_agrees (suc n) all =
          let before : AllIn G (met (at F steps n) steps) = met_before G F H place inputs steps rise n all in
          ap last_by_name (outs_agree (at F steps n) steps agree before)
          ∙ ap (next_env (map_values H steps) place inputs) (round_agrees n before)

      walk_agrees : (workflow : WorkflowLevel) (n : ℕ) → AllIn G (workflow_walk (workflow_of workflow (map_values F steps)) place inputs (at F steps n)).met
          → workflow_walk (workflow_of workflow (map_values F steps)) place inputs (at F steps n) ≡ workflow_walk (workflow_of workflow (map_values H steps)) place inputs (at H steps n)
      walk_agrees workflow n all =
          let of_steps : AllIn G (met (at F steps n) steps) = each_left G (met (at F steps n) steps) (flat_map (λ o. fault_at place (output_value inputs (at F steps n) o.1.links)) workflow.outputs) all in
          ap (λ (found : List Met). record {
            met = found ++ flat_map (λ o. fault_at place (output_value inputs (at F steps n) o.1.links)) workflow.outputs;
            outs = map (λ o. (o.0, given (output_value inputs (at F steps n) o.1.links))) workflow.outputs;
          }) (met_agree (at F steps n) steps agree of_steps)
          ∙ ap (workflow_walk (workflow_of workflow (map_values H steps)) place inputs) (round_agrees n of_steps)

  pub workflow_agrees : (F H : Step → StepMeaning) (workflow : WorkflowLevel) → AllByRecursion (λ (e : Name × Step). StepRises (F e.1)) workflow.steps
      → AllByRecursion (λ (e : Name × Step). StepAgrees (F e.1) (H e.1)) workflow.steps
      → (place : JobPlace) (found : Result Fields Cause) → AllIn G (workflow_at (workflow_of workflow (map_values F workflow.steps)) place found).met
      → workflow_at (workflow_of workflow (map_values F workflow.steps)) place found ≡ workflow_at (workflow_of workflow (map_values H workflow.steps)) place found
  workflow_agrees F H workflow rise agree place (Err cause) all = refl
  workflow_agrees F H workflow rise agree place (Ok inputs) all =
      walk_agrees F H place inputs workflow.steps rise agree workflow (length (map_values F workflow.steps)) all
      ∙ ap (λ (n : ℕ). workflow_walk (workflow_of workflow (map_values H workflow.steps)) place inputs (at F H place inputs H workflow.steps n))
      (length_values F workflow.steps ∙ sym (length_values H workflow.steps))

-- ---- any process

module _ (measures : Measures) (made other : Made) (G : Job → Type 0) (same : (job : Job) → G job → made job ≡ other job) where
  pub tool_agrees : (tool : Tool) (place : JobPlace) (found : Result Fields Cause) → AllIn G (tool_walk tool place found made).met → tool_walk tool place found made ≡ tool_walk tool place found other
  tool_agrees tool place (Err cause) all = refl
  tool_agrees tool place (Ok inputs) all =
      let job : Job = record { place = place; tool = tool; inputs = inputs } in
      ap (λ (o : Option Fields). record { met = met_job job ∷ []; outs = outs_of (output_names tool) o }) (same job all.0)

  abbrev P : Process → Type 0
  P p = Agree G (meaning_of measures made p) (meaning_of measures other p)

  abbrev S : Step → Type 0
  S s = StepAgrees G (step_meaning_of measures made s) (step_meaning_of measures other s)

  abbrev W : Workflow → Type 0
  W w = Agree G (workflow_meaning_of measures made w) (workflow_meaning_of measures other w)

  cases : Cases P S W
  cases = record {
    tool = λ tool. subst₂ (Agree G) (sym (tool_level measures made tool)) (sym (tool_level measures other tool)) (λ place fields. tool_agrees tool place (tool_inputs_for measures tool.inputs fields));
    workflow = λ w agree. subst₂ (Agree G) (sym (workflow_in measures made w)) (sym (workflow_in measures other w)) agree;
    a_step = λ step agree. subst₂ (StepAgrees G) (sym (step_level measures made step)) (sym (step_level measures other step))
        (step_agrees G step (meaning_of measures made step.process) (meaning_of measures other step.process) agree measures);
    a_workflow = λ w agree. subst₂ (Agree G) (sym (workflow_level measures made w)) (sym (workflow_level measures other w))
        (λ place fields. workflow_agrees G (step_meaning_of measures made) (step_meaning_of measures other) w (steps_rise measures made w.steps) agree place (workflow_inputs_for measures w.inputs fields));
  }

  -- where both give the same outputs of the jobs that are met, the walks are one
  pub agrees : (p : Process) → Agree G (meaning_of measures made p) (meaning_of measures other p)
  agrees p = induction cases p
