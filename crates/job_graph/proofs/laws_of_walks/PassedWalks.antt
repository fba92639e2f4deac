-- What holds of all that a process is handed, of its defaults and of the outputs of jobs holds of the inputs of each job that is met.
use Rattle.std.proofs.Common.{◌≡◌, ◌∙◌, ℕ, zero, suc, List, [], ◌∷◌, map, length, Bool, true, false, Option, Some, None, Result, Ok, Err, option_map, unwrap_or, fold, sym, subst, rules}
use Rattle.std.specs.Prelude.{◌||◌, IfOk, IfSome}
use Rattle.std.specs.List.{AllByRecursion, flat_map, list_any}
use Rattle.std.specs.Map.{keys_of}
use Rattle.plain_data.specs.ByName.{value_at, map_values}
use Rattle.cwl_value.specs.declared.value.Value.{Value}
use Rattle.cwl_process.specs.declared.links.Links.{Links}
use Rattle.cwl_process.specs.declared.links.Source.{Source}
use Rattle.cwl_process.specs.declared.tool.Tool.{Tool}
use Rattle.cwl_process.specs.declared.tool.ToolInput.{ToolInput}
use Rattle.cwl_process.specs.declared.workflow.StepInput.{StepInput}
use Rattle.cwl_process.specs.declared.workflow.WorkflowInput.{WorkflowInput}
use Rattle.cwl_process.specs.declared.workflow.WorkflowOutput.{WorkflowOutput}
use Rattle.document_links.specs.declared.process.Process.{Process, the_lemmas}
use Rattle.document_links.specs.declared.process.Process as process
use Rattle.document_links.specs.declared.process.Step.{Step, roll-Step}
use Rattle.document_links.specs.declared.process.Workflow.{Workflow, roll-Workflow}
use Rattle.input_files.specs.Given.{is_null}
use Rattle.input_files.specs.Given as given_values
use Rattle.input_files.specs.Inputs.{unless_fault}
use Rattle.input_files.specs.Measured.{Measures, as_measured}
use Rattle.input_files.specs.Parameters.{Parameter, tool_parameter, workflow_parameter}
use Rattle.input_files.specs.Taken.{process_inputs, taken_fault, taken_value, taken_values}
use Rattle.input_files.specs.declared.fault.InputFault.{InputFault}
use Rattle.link_values.specs.Merged.{merged}
use Rattle.link_values.specs.Picked.{picked}
use Rattle.link_values.specs.Refused as link
use Rattle.link_values.specs.StepInputs.{null, step_input, value_froms, value_under}
use Rattle.scatter_shape.specs.Gathered.{gathered}
use Rattle.scatter_shape.specs.declared.shape.Method.{Method}
use Rattle.job_graph.specs.declared.cause.Cause.{Cause}
use Rattle.job_graph.specs.declared.partly.Partly.{Partly}
use Rattle.job_graph.specs.declared.partly.Partly.TheVariants.{Waits, Gives, Fails}
use Rattle.job_graph.specs.Words.{Name, Fields, JobPlace}
use Rattle.job_graph.specs.Inputs.{by_input, tool_inputs_for, workflow_inputs_for}
use Rattle.job_graph.specs.Jobs.{Job, Met, Outs, Made, Walk, all_there, failed, output_names, tool_walk, unknown, with_first}
use Rattle.job_graph.specs.Links.{Env, all_given, by_link, entry_value, given, linked_values, measured, once_known, out_under, output_from, output_value, partly, source_value, value_from, with_entry}
use Rattle.job_graph.specs.Makers.{any_default, any_step_default, any_workflow_default, is_hit}
use Rattle.job_graph.specs.Scatter.{at_tuple, lengths_under, method_of, tuples_for}
use Rattle.job_graph.specs.Equations.{Meaning, StepMeaning, StepOf, entered, env_after, fault_at, goes_on, instance, instance_from, meaning_of, out_gathered, over_lengths, over_tuples, run_where, scattered, step_meaning, step_meaning_of, step_place, step_walk, workflow_at, workflow_meaning_of, workflow_walk}
use Rattle.job_graph.proofs.laws_of_walks.Processes.{StepLevel, WorkflowLevel, step_of, workflow_of, Cases, induction, tool_level, workflow_in, step_level, workflow_level}
use Rattle.job_graph.proofs.laws_of_walks.Part.{AllIn, each_both, neither_one, neither_other, weaker}
use Rattle.job_graph.proofs.laws_of_walks.Places.{no_job, faults_none}
use Rattle.job_graph.proofs.laws_of_walks.Steps.{entries_of, faults_in}
use Rattle.job_graph.proofs.laws_of_walks.Passed.{EachUnder, Each, EachField, Passes, all_made, all_map, each_by_name, each_put, if_under, of_null, under, choice, is_merged, is_picked, is_entry, are_put, are_items, is_gathered}

-- ---- the defaults of a process, level by level

module _ (test : Value → Bool) where
  pub tool_defaults : (tool : Tool) → any_default test (process.Tool tool) ≡ list_any (λ i. is_hit test i.1.default) tool.inputs
  tool_defaults tool = search (rules, the_lemmas)

  pub workflow_default : (workflow : Workflow) → any_default test (process.Workflow workflow) ≡ any_workflow_default test workflow
  workflow_default workflow = search (rules, the_lemmas)

  pub step_defaults : (step : StepLevel) → any_step_default test (roll-Step step) ≡ (list_any (λ i. is_hit test i.1.default) step.inputs || any_default test step.process)
  step_defaults step = search (rules, the_lemmas)

  pub workflow_defaults : (workflow : WorkflowLevel) → any_workflow_default test (roll-Workflow workflow)
      ≡ (list_any (λ i. is_hit test i.1.default) workflow.inputs || list_any (λ e. e.1) (map_values (any_step_default test) workflow.steps))
  workflow_defaults workflow = search (rules, the_lemmas)

module _ (P : Value → Type 0) (test : Value → Bool) (means : (v : Value) → test v ≡ false → P v) where
  a_default : (o : Option Value) → is_hit test o ≡ false → IfSome o P
  a_default None none = tt
  a_default (Some v) none = means v none

  pub defaults_are : {X : Type 0} (default : X → Option Value) (inputs : List (Name × X)) → list_any (λ i. is_hit test (default i.1)) inputs ≡ false
      → AllByRecursion (λ (i : Name × X). IfSome (default i.1) P) inputs
  defaults_are default [] none = tt
  defaults_are default (i ∷ is) none = (
    a_default (default i.1) (neither_one (is_hit test (default i.1)) (list_any (λ i. is_hit test (default i.1)) is) none),
    defaults_are default is (neither_other (is_hit test (default i.1)) (list_any (λ i. is_hit test (default i.1)) is) none),
  )

module _ (P : Value → Type 0) (passes : Passes P) where
  abbrev pub IsIn : Job → Type 0
  IsIn job = EachField P job.inputs

  abbrev pub IfThere : Option Value → Type 0
  IfThere o = IfSome o P

  abbrev pub EachOut : Outs → Type 0
  EachOut outs = EachUnder IfThere outs

  abbrev pub EachEnv : Env → Type 0
  EachEnv env = EachUnder EachOut env

  pub record Passed (walk : Walk) : Type 0 where
    pub met : AllIn IsIn walk.met
    pub outs : EachOut walk.outs

  abbrev pub PassesOn : Meaning → Type 0
  PassesOn meaning = (place : JobPlace) (fields : Fields) → EachField P fields → Passed (meaning place fields)

  abbrev pub StepPasses : StepMeaning → Type 0
  StepPasses one = (id : Name) (place : JobPlace) (inputs : Fields) (env : Env) → EachField P inputs → EachEnv env → Passed (one id place inputs env)

  -- ---- what is not known

  no_outs : (names : List Name) → EachOut (unknown names)
  no_outs names = all_made (λ (name : Name). (name, option_map (value_under name) None)) (λ e. IfThere e.1) (λ name. tt) names

  where_failed : (place : JobPlace) (cause : Cause) (names : List Name) → Passed (failed place cause names)
  where_failed place cause names = record { met = (tt, tt); outs = no_outs names }

  no_jobs : (met : List Met) → AllIn no_job met → AllIn IsIn met
  no_jobs met none = weaker no_job IsIn (λ job at. absurd at) met none

  if_known : (o : Option Fields) (name : Name) → IfSome o (EachField P) → IfThere (option_map (value_under name) o)
  if_known None name all = tt
  if_known (Some fields) name all = under P passes name fields all

  -- ---- the values of links

  module _ (inputs : Fields) (env : Env) (all : EachField P inputs) (outs : EachEnv env) where
    of_outs : (name : Name) (o : Option Outs) → IfSome o EachOut → IfThere (out_under name o)
    of_outs name None there = tt
    of_outs name (Some os) there = by (value_at name os) (if_under IfThere name os there)
      where
        by : (o : Option (Option Value)) → IfSome o IfThere → IfThere (unwrap_or o None)
        by None one = tt
        by (Some o) one = one

    from_there : (step : Option Name) (name : Name) → IfThere (value_from step name inputs env)
    from_there None name = under P passes name inputs all
    from_there (Some step) name = of_outs name (value_at step env) (if_under EachOut step env outs)

    first_there : (o : Option Value) (os : Option (List Value)) → IfThere o → IfSome os (Each P) → IfSome (with_first o os) (Each P)
    first_there (Some v) (Some vs) one rest = (one, rest)
    first_there (Some v) None one rest = tt
    first_there None (Some vs) one rest = tt
    first_there None None one rest = tt

    are_linked : (sources : List Source) → IfSome (linked_values inputs env sources) (Each P)
    are_linked [] = tt
    are_linked (s ∷ ss) = first_there (source_value inputs env s) (linked_values inputs env ss) (from_there s.step s.name) (are_linked ss)

    abbrev pub IfGiven : Partly → Type 0
    IfGiven Waits = Unit {0}
    IfGiven (Gives v) = P v
    IfGiven (Fails cause) = Unit {0}

    by_made : (r : link.Gives Value) → IfOk r P → IfGiven (partly (by_link r))
    by_made (Ok v) holds = holds
    by_made (Err fault) holds = tt

    once_there : (f : List Value → link.Gives Value) → ((vs : List Value) → Each P vs → IfOk (f vs) P) → (o : Option (List Value)) → IfSome o (Each P)
        → IfGiven (once_known (λ vs. by_link (f vs)) o)
    once_there f gives None there = tt
    once_there f gives (Some vs) there = by_made (f vs) (gives vs there)

    module _ (measures : Measures) (stays : (v : Value) → P v → P (as_measured measures v)) where
      as_default : (o : Option Value) → IfThere o → IfThere (option_map (as_measured measures) o)
      as_default None there = tt
      as_default (Some v) there = stays v there

      entry_is : (input : StepInput) → IfThere input.default → IfGiven (entry_value measures inputs env input)
      entry_is input default =
          once_there (λ vs. step_input (measured measures input) (merged input.links.merge vs))
          (λ vs each. is_entry P passes (measured measures input) (merged input.links.merge vs) (as_default input.default default) (is_merged P passes input.links.merge vs each))
          (linked_values inputs env (unwrap_or input.links.sources [])) (are_linked (unwrap_or input.links.sources []))

    output_is : (links : Links) (sources : Option (List Source)) → IfGiven (output_from inputs env links sources)
    output_is links None = of_null P passes
    output_is links (Some sources) =
        once_there (λ vs. picked links.pick (merged links.merge vs)) (λ vs each. is_picked P passes links.pick (merged links.merge vs) (is_merged P passes links.merge vs each))
        (linked_values inputs env sources) (are_linked sources)

    if_given : (p : Partly) → IfGiven p → IfThere (given p)
    if_given Waits holds = tt
    if_given (Gives v) holds = holds
    if_given (Fails cause) holds = tt

    one_given : (o : Option Fields) (name : Name) (p : Partly) → IfSome o (EachField P) → IfGiven p → IfSome (with_entry o (name, p)) (EachField P)
    one_given None name p there one = tt
    one_given (Some fields) name Waits there one = tt
    one_given (Some fields) name (Gives v) there one = each_put P name v fields one there
    one_given (Some fields) name (Fails cause) there one = tt

    are_given : (entries : List (Name × Partly)) (o : Option Fields) → AllByRecursion (λ (e : Name × Partly). IfGiven e.1) entries → IfSome o (EachField P) → IfSome (fold with_entry o entries) (EachField P)
    are_given [] o each there = there
    are_given (e ∷ es) o each there = are_given es (with_entry o e) each.1 (one_given o e.0 e.1 there each.0)

  -- ---- a step

  module _ (step : StepLevel) (meaning : Meaning) (on : PassesOn meaning) where
    abbrev s : StepOf
    s = step_of step meaning

    run_passes : (place : JobPlace) (fields : Fields) (is_run : Result Bool Cause) → EachField P fields → Passed (run_where s place fields is_run)
    run_passes place fields (Ok true) all = on place fields all
    run_passes place fields (Ok false) all =
        record { met = tt; outs = all_made (λ (name : Name). (name, Some null)) (λ e. IfThere e.1) (λ name. of_null P passes) step.outputs }
    run_passes place fields (Err cause) all = where_failed place cause step.outputs

    from_passes : (place : JobPlace) (found : Result Fields Cause) → IfOk found (EachField P) → Passed (instance_from s place found)
    from_passes place (Err cause) all = where_failed place cause step.outputs
    from_passes place (Ok fields) all = run_passes place fields (goes_on step.when fields) all

    by_ok : (r : link.Gives Fields) → IfOk r (EachField P) → IfOk (by_link r) (EachField P)
    by_ok (Ok fields) all = all
    by_ok (Err fault) all = tt

    instance_passes : (place : JobPlace) (fields : Fields) → EachField P fields → Passed (instance s place fields)
    instance_passes place fields all = from_passes place (by_link (value_froms step.inputs fields)) (by_ok (value_froms step.inputs fields) (are_put P passes fields all step.inputs))

    module _ (id : Name) (place : JobPlace) (fields : Fields) (all : EachField P fields) where
      abbrev of : List ℕ → Walk
      of tuple = instance s (step_place place id tuple) (at_tuple step.scatter tuple fields)

      of_passes : (tuple : List ℕ) → Passed (of tuple)
      of_passes tuple = instance_passes (step_place place id tuple) (at_tuple step.scatter tuple fields) (are_items P passes step.scatter tuple fields all)

      all_meet : (tuples : List (List ℕ)) → AllIn IsIn (flat_map (λ w. w.met) (map of tuples))
      all_meet [] = tt
      all_meet (t ∷ ts) = each_both IsIn (of t).met (flat_map (λ w. w.met) (map of ts)) (of_passes t).met (all_meet ts)

      out_of : (name : Name) (outs : Outs) → EachOut outs → IfThere (out_under name (Some outs))
      out_of name outs each = of_outs [] [] tt tt name (Some outs) each

      all_out : (name : Name) (tuples : List (List ℕ)) → IfSome (all_there (map (λ w. out_under name (Some w.outs)) (map of tuples))) (Each P)
      all_out name [] = tt
      all_out name (t ∷ ts) =
          first_there [] [] tt tt (out_under name (Some (of t).outs)) (all_there (map (λ w. out_under name (Some w.outs)) (map of ts)))
          (out_of name (of t).outs (of_passes t).outs) (all_out name ts)

      put_together : (method : Method) (lengths : List ℕ) (o : Option (List Value)) → IfSome o (Each P) → IfThere (option_map (gathered method lengths) o)
      put_together method lengths None each = tt
      put_together method lengths (Some vs) each = is_gathered P passes method lengths vs each

      tuples_pass : (lengths : List ℕ) (tuples : Result (List (List ℕ)) Cause) → Passed (over_tuples s id place fields lengths tuples)
      tuples_pass lengths (Err cause) = where_failed (step_place place id []) cause step.outputs
      tuples_pass lengths (Ok tuples) = record {
        met = all_meet tuples;
        outs = all_made (λ (name : Name). (name, out_gathered (method_of step.method) lengths (map of tuples) name)) (λ e. IfThere e.1)
            (λ name. put_together (method_of step.method) lengths (all_there (map (λ w. out_under name (Some w.outs)) (map of tuples))) (all_out name tuples)) step.outputs;
      }

      lengths_pass : (lengths : Result (List ℕ) Cause) → Passed (over_lengths s id place fields lengths)
      lengths_pass (Err cause) = where_failed (step_place place id []) cause step.outputs
      lengths_pass (Ok lengths) = tuples_pass lengths (tuples_for (method_of step.method) lengths)

      scatter_passes : (names : List Name) → Passed (scattered s id place fields names)
      scatter_passes [] = instance_passes (step_place place id []) fields all
      scatter_passes (n ∷ ns) = lengths_pass (lengths_under (n ∷ ns) fields)

    enter_passes : (id : Name) (place : JobPlace) (faults : List Met) (o : Option Fields) → AllIn no_job faults → IfSome o (EachField P) → Passed (entered s id place faults o)
    enter_passes id place faults None none all = record { met = no_jobs faults none; outs = no_outs step.outputs }
    enter_passes id place faults (Some fields) none all = scatter_passes id place fields all step.scatter

    pub step_passes : (measures : Measures) (stays : (v : Value) → P v → P (as_measured measures v)) → AllByRecursion (λ (i : Name × StepInput). IfThere i.1.default) step.inputs → StepPasses (step_meaning measures s)
    step_passes measures stays defaults id place inputs env all outs =
        enter_passes id place (faults_in (step_place place id []) (entries_of measures step.inputs inputs env)) (all_given (entries_of measures step.inputs inputs env))
        (faults_none (step_place place id []) (λ (e : Name × Partly). e.1) (entries_of measures step.inputs inputs env))
        (are_given inputs env all outs (entries_of measures step.inputs inputs env) (Some [])
        (all_map (λ (i : Name × StepInput). (i.0, entry_value measures inputs env i.1)) (λ i. IfThere i.1.default) (λ e. IfGiven inputs env all outs e.1)
        (λ i default. entry_is inputs env all outs measures stays i.1 default) step.inputs defaults) tt)

  -- ---- a workflow

  module _ (F : Step → StepMeaning) (place : JobPlace) (inputs : Fields) (all : EachField P inputs) where
    abbrev means : List (Name × Step) → List (Name × StepMeaning)
    means steps = map_values F steps

    steps_meet : (env : Env) → EachEnv env → (steps : List (Name × Step)) → AllByRecursion (λ (e : Name × Step). StepPasses (F e.1)) steps
        → AllIn IsIn (flat_map (λ s. (step_walk place inputs env s).met) (means steps))
    steps_meet env outs [] pass = tt
    steps_meet env outs (e ∷ es) pass =
        each_both IsIn (F e.1 e.0 place inputs env).met (flat_map (λ s. (step_walk place inputs env s).met) (means es)) (pass.0 e.0 place inputs env all outs).met (steps_meet env outs es pass.1)

    steps_give : (env : Env) → EachEnv env → (steps : List (Name × Step)) → AllByRecursion (λ (e : Name × Step). StepPasses (F e.1)) steps
        → EachEnv (map (λ s. (s.0, (step_walk place inputs env s).outs)) (means steps))
    steps_give env outs [] pass = tt
    steps_give env outs (e ∷ es) pass = ((pass.0 e.0 place inputs env all outs).outs, steps_give env outs es pass.1)

    module _ (steps : List (Name × Step)) (pass : AllByRecursion (λ (e : Name × Step). StepPasses (F e.1)) steps) where
      round_passes : (n : ℕ) → EachEnv (env_after n (means steps) place inputs)
      round_passes zero = tt
      round_passes (suc n) =
          let env : Env = env_after n (means steps) place inputs in
          each_by_name EachOut (map (λ s. (s.0, (step_walk place inputs env s).outs)) (means steps)) [] (steps_give env (round_passes n) steps pass) tt

      walk_passes : (workflow : WorkflowLevel) (n : ℕ) → Passed (workflow_walk (workflow_of workflow (means steps)) place inputs (env_after n (means steps) place inputs))
      walk_passes workflow n =
          let env : Env = env_after n (means steps) place inputs in
          let outs : EachEnv env = round_passes n in
          record {
            met = each_both IsIn (flat_map (λ s. (step_walk place inputs env s).met) (means steps)) (flat_map (λ o. fault_at place (output_value inputs env o.1.links)) workflow.outputs)
                (steps_meet env outs steps pass)
                (no_jobs (flat_map (λ o. fault_at place (output_value inputs env o.1.links)) workflow.outputs) (faults_none place (λ (o : Name × WorkflowOutput). output_value inputs env o.1.links) workflow.outputs));
            outs = all_made (λ (o : Name × WorkflowOutput). (o.0, given (output_value inputs env o.1.links))) (λ e. IfThere e.1)
                (λ o. if_given inputs env all outs (output_value inputs env o.1.links) (output_is inputs env all outs o.1.links o.1.links.sources)) workflow.outputs;
          }

  workflow_passes : (F : Step → StepMeaning) (workflow : WorkflowLevel) → AllByRecursion (λ (e : Name × Step). StepPasses (F e.1)) workflow.steps
      → (place : JobPlace) (found : Result Fields Cause) → IfOk found (EachField P) → Passed (workflow_at (workflow_of workflow (map_values F workflow.steps)) place found)
  workflow_passes F workflow pass place (Err cause) all = where_failed place cause (keys_of workflow.outputs)
  workflow_passes F workflow pass place (Ok inputs) all = walk_passes F place inputs all workflow.steps pass workflow (length (map_values F workflow.steps))

  -- ---- the inputs of a process

  pub or_other : (default : Option Value) (v : Value) → IfThere default → P v → P (given_values.or_default default v)
  or_other None v there one = choice P passes (is_null v) given_values.null v (of_null P passes) one
  or_other (Some d) v there one = choice P passes (is_null v) d v there one

  module _ (measures : Measures) (stays : (v : Value) → P v → P (as_measured measures v)) where
    module _ {X : Type 0} (param : X → Parameter) where
      taken_is : (fields : Fields) → EachField P fields → (input : Name × X) → IfThere (param input.1).default → P (taken_value param measures fields input)
      taken_is fields all input default =
          or_other (option_map (as_measured measures) (param input.1).default) (value_under input.0 fields)
          (as_default [] [] tt tt measures stays (param input.1).default default) (under P passes input.0 fields all)

      unless : (o : Option InputFault) (fields : Fields) → EachField P fields → IfOk (by_input (unless_fault o fields)) (EachField P)
      unless None fields all = all
      unless (Some fault) fields all = tt

      pub inputs_are : (inputs : List (Name × X)) (fields : Fields) → AllByRecursion (λ (i : Name × X). IfThere (param i.1).default) inputs → EachField P fields
          → IfOk (by_input (process_inputs param inputs fields measures)) (EachField P)
      inputs_are inputs fields defaults all =
          unless (taken_fault param measures fields inputs) (taken_values param measures inputs fields)
          (each_by_name P (map (λ input. (input.0, taken_value param measures fields input)) inputs) []
          (all_map (λ (input : Name × X). (input.0, taken_value param measures fields input)) (λ i. IfThere (param i.1).default) (λ f. P f.1) (λ i default. taken_is fields all i default) inputs defaults) tt)

    -- ---- any process

    module _ (made : Made) (known : (job : Job) → IfSome (made job) (EachField P)) (test : Value → Bool) (means : (v : Value) → test v ≡ false → P v) where
      tool_passes : (tool : Tool) (place : JobPlace) (found : Result Fields Cause) → IfOk found (EachField P) → Passed (tool_walk tool place found made)
      tool_passes tool place (Err cause) all = where_failed place cause (output_names tool)
      tool_passes tool place (Ok inputs) all =
          let job : Job = record { place = place; tool = tool; inputs = inputs } in
          record {
            met = (all, tt);
            outs = all_made (λ (name : Name). (name, option_map (value_under name) (made job))) (λ e. IfThere e.1) (λ name. if_known (made job) name (known job)) (output_names tool);
          }

      abbrev IsFor : Process → Type 0
      IsFor p = any_default test p ≡ false → PassesOn (meaning_of measures made p)

      abbrev IsForStep : Step → Type 0
      IsForStep s = any_step_default test s ≡ false → StepPasses (step_meaning_of measures made s)

      abbrev IsForWorkflow : Workflow → Type 0
      IsForWorkflow w = any_workflow_default test w ≡ false → PassesOn (workflow_meaning_of measures made w)

      each_passes : (steps : List (Name × Step)) → list_any (λ e. e.1) (map_values (any_step_default test) steps) ≡ false → AllByRecursion (λ (e : Name × Step). IsForStep e.1) steps
          → AllByRecursion (λ (e : Name × Step). StepPasses (step_meaning_of measures made e.1)) steps
      each_passes [] none all = tt
      each_passes (e ∷ es) none all = (
        all.0 (neither_one (any_step_default test e.1) (list_any (λ e. e.1) (map_values (any_step_default test) es)) none),
        each_passes es (neither_other (any_step_default test e.1) (list_any (λ e. e.1) (map_values (any_step_default test) es)) none) all.1,
      )

      a_step : (step : StepLevel) → IsFor step.process → (list_any (λ i. is_hit test i.1.default) step.inputs || any_default test step.process) ≡ false
          → StepPasses (step_meaning measures (step_of step (meaning_of measures made step.process)))
      a_step step is none =
          let own : Bool = list_any (λ (i : Name × StepInput). is_hit test i.1.default) step.inputs in
          step_passes step (meaning_of measures made step.process) (is (neither_other own (any_default test step.process) none)) measures stays
          (defaults_are P test means (λ (i : StepInput). i.default) step.inputs (neither_one own (any_default test step.process) none))

      a_workflow : (workflow : WorkflowLevel) → AllByRecursion (λ (e : Name × Step). IsForStep e.1) workflow.steps
          → (list_any (λ i. is_hit test i.1.default) workflow.inputs || list_any (λ e. e.1) (map_values (any_step_default test) workflow.steps)) ≡ false
          → PassesOn (λ place fields. workflow_at (workflow_of workflow (map_values (step_meaning_of measures made) workflow.steps)) place (workflow_inputs_for measures workflow.inputs fields))
      a_workflow workflow each none place fields all =
          let own : Bool = list_any (λ (i : Name × WorkflowInput). is_hit test i.1.default) workflow.inputs in
          let inside : Bool = list_any (λ (e : Name × Bool). e.1) (map_values (any_step_default test) workflow.steps) in
          workflow_passes (step_meaning_of measures made) workflow (each_passes workflow.steps (neither_other own inside none) each) place (workflow_inputs_for measures workflow.inputs fields)
          (inputs_are workflow_parameter workflow.inputs fields (defaults_are P test means (λ (i : WorkflowInput). i.default) workflow.inputs (neither_one own inside none)) all)

      cases : Cases IsFor IsForStep IsForWorkflow
      cases = record {
        tool = λ tool none. subst PassesOn (sym (tool_level measures made tool))
            (λ place fields all. tool_passes tool place (tool_inputs_for measures tool.inputs fields)
            (inputs_are tool_parameter tool.inputs fields (defaults_are P test means (λ (i : ToolInput). i.default) tool.inputs (sym (tool_defaults test tool) ∙ none)) all));
        workflow = λ w is none. subst PassesOn (sym (workflow_in measures made w)) (is (sym (workflow_default test w) ∙ none));
        a_step = λ step is none. subst StepPasses (sym (step_level measures made step)) (a_step step is (sym (step_defaults test step) ∙ none));
        a_workflow = λ w each none. subst PassesOn (sym (workflow_level measures made w)) (a_workflow w each (sym (workflow_defaults test w) ∙ none));
      }

      pub process_passes : (p : Process) → any_default test p ≡ false → PassesOn (meaning_of measures made p)
      process_passes p = induction cases p
