-- An accepted process gives each of its outputs, where all that it meets is well.
use Rattle.std.proofs.Common.{◌≡◌, ◌∙◌, inl, inr, List, [], ◌∷◌, map, Bool, true, false, cond, Option, Some, None, Result, Ok, Err, option_map, bytes_eq, refl, sym, ap, subst, subst₂}
use Rattle.std.specs.Prelude.{◌&&◌, is_some}
use Rattle.std.specs.List.{AllByRecursion, list_all}
use Rattle.std.specs.Map.{keys_of}
use Rattle.std.proofs.lemmas.Map.Made.{keys_of-map_values}
use Rattle.std.proofs.lemmas.Slice.Eq.{bytes_eq-Decides}
use Rattle.cwl_value.specs.declared.value.Value.{Value}
use Rattle.cwl_process.specs.declared.tool.Tool.{Tool}
use Rattle.cwl_process.specs.declared.workflow.WorkflowOutput.{WorkflowOutput}
use Rattle.document_links.specs.declared.process.Process.{Process, out-roll-Process}
use Rattle.document_links.specs.declared.process.Process as process
use Rattle.document_links.specs.declared.process.Process.TheOpen.{Process-F}
use Rattle.document_links.specs.declared.process.Process.TheVariants.{rolls-Tool, rolls-Workflow}
use Rattle.document_links.specs.declared.process.Step.{Step, roll-Step, out-Step, out-roll-Step}
use Rattle.document_links.specs.declared.process.Workflow.{Workflow, roll-Workflow, out-Workflow, out-roll-Workflow}
use Rattle.input_files.specs.Measured.{Measures}
use Rattle.link_values.specs.StepInputs.{value_under}
use Rattle.plain_data.specs.ByName.{value_at, map_values}
use Rattle.workflow_check.specs.Checked.{Level, fault_in, fault_in_step, own_fault, around}
use Rattle.workflow_check.specs.Faults.{Found, first_of, found_if, or_next}
use Rattle.workflow_check.specs.Links.{outputs_fault, steps_fault}
use Rattle.workflow_check.specs.Order.{is_cyclic, order_fault}
use Rattle.workflow_check.specs.Scope.{has, gives, gives_at, output_kind}
use Rattle.workflow_check.specs.Shapes.{shapes_fault}
use Rattle.workflow_check.specs.Sound.{Each, IsSound, IsSoundStep}
use Rattle.workflow_check.specs.declared.fault.LinkRule.{LinkRule}
use Rattle.workflow_check.proofs.Facts.{sound}
use Rattle.workflow_check.proofs.Nested.{of_workflow}
use Rattle.job_graph.specs.declared.cause.Cause.{Cause}
use Rattle.job_graph.specs.Apart.{differ, ids_differ, step_ids_differ, workflow_ids_differ}
use Rattle.job_graph.specs.Words.{Name, Fields, JobPlace}
use Rattle.job_graph.specs.Inputs.{tool_inputs_for, workflow_inputs_for}
use Rattle.job_graph.specs.Jobs.{Job, Made, Outs, all_named, output_names, tool_walk}
use Rattle.job_graph.specs.Links.{Env, output_value, given}
use Rattle.job_graph.specs.Equations.{Meaning, StepMeaning, workflow_at, meaning_of, step_meaning_of, workflow_meaning_of}
use Rattle.job_graph.proofs.laws_of_walks.Processes.{StepLevel, WorkflowLevel, workflow_of, Cases, induction, tool_level, workflow_in, step_level, workflow_level}
use Rattle.job_graph.proofs.laws_of_walks.Part.{and_left, and_right}
use Rattle.job_graph.proofs.laws_of_walks.Places.{IsAmong, ids_of, workflow_differs, steps_differ, step_is}
use Rattle.job_graph.proofs.laws_of_walks.Steps.{entries_of}
use Rattle.job_graph.proofs.laws_of_walks.Grown.{steps_rise}
use Rattle.job_graph.proofs.laws_of_walks.Gives.{AreGiven, AllWell, first_some, some_map, given_under, by_names, enter_gives}
use Rattle.run_rules.proofs.WaitingSteps.{StepGives, workflow_gives, last_env}

-- ---- each output has a value

abbrev pub AllSome : Outs → Type 0
AllSome outs = AllByRecursion (λ (o : Name × Option Value). is_some o.1 ≡ true) outs

-- each output has a value, also under each of the names
abbrev pub AreWhole : List Name → Outs → Type 0
AreWhole names outs = AllSome outs × AreGiven names outs

each_some : {X : Type 0} (named : X → Name) (f : X → Option Value) (xs : List X) → AllByRecursion (λ x. is_some (f x) ≡ true) xs → AllSome (map (λ x. (named x, f x)) xs)
each_some named f [] all = tt
each_some named f (x ∷ xs) all = (all.0, each_some named f xs all.1)

pub named_some : (outs : Outs) → AllSome outs → is_some (all_named outs) ≡ true
named_some [] all = refl
named_some (o ∷ os) all = first_some (option_map (λ v. (o.0, v)) o.1) (all_named os) (some_map (λ v. (o.0, v)) o.1 all.0) (named_some os all.1)

-- ---- names that are there

key_there : {T : Type 0} (name : Name) (entries : List (Name × T)) → has name entries ≡ true → IsAmong name (keys_of entries)
key_there name [] is = absurd cc
key_there name (e ∷ es) is = by (bytes_eq name e.0) refl is (λ later. key_there name es later)
  where
    by : (b : Bool) → bytes_eq name e.0 ≡ b → is_some (cond b (Some e.1) (value_at name es)) ≡ true → (has name es ≡ true → IsAmong name (keys_of es)) → IsAmong name (e.0 ∷ keys_of es)
    by true same some later = inl ((bytes_eq-Decides name e.0).0 same)
    by false same some later = inr (later some)

each_there : {T : Type 0} (entries : List (Name × T)) (names : List Name) → Each (λ name. has name entries ≡ true) names → (name : Name) → IsAmong name names → IsAmong name (keys_of entries)
each_there entries [] all name among = absurd among
each_there entries (n ∷ ns) all name (inl same) = subst (λ (other : Name). IsAmong other (keys_of entries)) (sym same) (key_there n entries all.0)
each_there entries (n ∷ ns) all name (inr later) = each_there entries ns all.1 name later

-- ---- what acceptance says

no_next : (a b : Found) → or_next a b ≡ None → b ≡ None
no_next None b none = none
no_next (Some fault) b none = absurd cc

not_so : (b : Bool) (rule : LinkRule) → found_if b rule ≡ None → b ≡ false
not_so true rule none = absurd cc
not_so false rule none = refl

-- no step of an accepted workflow waits for itself
not_cyclic : (w : Workflow) → fault_in (process.Workflow w) ≡ None → is_cyclic (out-Workflow w).steps ≡ false
not_cyclic w none =
    let l : Level = out-Workflow w in
    let own : own_fault l ≡ None = no_next (first_of fault_in_step l.steps) (own_fault l) (sym (of_workflow w) ∙ none) in
    let links : or_next (steps_fault (around l) l.steps) (or_next (outputs_fault (around l) l.outputs) (order_fault l.steps)) ≡ None = no_next (shapes_fault l.steps) _ own in
    let outputs : or_next (outputs_fault (around l) l.outputs) (order_fault l.steps) ≡ None = no_next (steps_fault (around l) l.steps) _ links in
    not_so (is_cyclic l.steps) _ (no_next (outputs_fault (around l) l.outputs) _ outputs)

-- ---- the names of what a process gives

tool_names : (tool : Tool) → keys_of (gives (process.Tool tool)) ≡ output_names tool
tool_names tool =
    ap (λ (p : Process). keys_of (gives p)) (sym (rolls-Tool tool)) ∙ ap (λ q. keys_of (gives_at q)) (out-roll-Process (Process-F.Tool tool))
    ∙ keys_of-map_values (λ o. output_kind o.kind) tool.outputs

workflow_names : (w : Workflow) → keys_of (gives (process.Workflow w)) ≡ keys_of (out-Workflow w).outputs
workflow_names w =
    ap (λ (p : Process). keys_of (gives p)) (sym (rolls-Workflow w)) ∙ ap (λ q. keys_of (gives_at q)) (out-roll-Process (Process-F.Workflow w))
    ∙ keys_of-map_values (λ (o : WorkflowOutput). o.kind) (out-Workflow w).outputs

-- ---- by induction over the process

module _ (measures : Measures) (made : Made) where
  abbrev F : Step → StepMeaning
  F = step_meaning_of measures made

  abbrev MeaningGives : Meaning → List Name → Type 0
  MeaningGives meaning names = (place : JobPlace) (fields : Fields) → AllWell made (meaning place fields).met → AreWhole names (meaning place fields).outs

  abbrev P : Process → Type 0
  P p = fault_in p ≡ None → ids_differ p ≡ true → MeaningGives (meaning_of measures made p) (keys_of (gives p))

  abbrev StepFor : StepMeaning → StepLevel → Type 0
  StepFor one step = fault_in step.process ≡ None → ids_differ step.process ≡ true → Each (λ name. has name (gives step.process) ≡ true) step.outputs → StepGives made measures one step

  abbrev S : Step → Type 0
  S s = StepFor (F s) (out-Step s)

  abbrev W : Workflow → Type 0
  W w = fault_in (process.Workflow w) ≡ None → workflow_ids_differ w ≡ true → MeaningGives (workflow_meaning_of measures made w) (keys_of (out-Workflow w).outputs)

  tool_gives : (tool : Tool) (place : JobPlace) (found : Result Fields Cause) → AllWell made (tool_walk tool place found made).met → AreWhole (output_names tool) (tool_walk tool place found made).outs
  tool_gives tool place (Err cause) well = absurd cc
  tool_gives tool place (Ok inputs) well =
      let job : Job = record { place = place; tool = tool; inputs = inputs } in
      let known : is_some (made job) ≡ true = and_left (is_some (made job)) true well in
      let all : AllByRecursion (λ (n : Name). is_some (option_map (value_under n) (made job)) ≡ true) (output_names tool) = each (λ n. some_map (value_under n) (made job) known) (output_names tool) in
      (each_some (λ n. n) (λ n. option_map (value_under n) (made job)) (output_names tool) all, by_names made (λ n. option_map (value_under n) (made job)) (output_names tool) all)
    where
      each : {Q : Name → Type 0} → ((n : Name) → Q n) → (names : List Name) → AllByRecursion Q names
      each holds [] = tt
      each holds (n ∷ ns) = (holds n, each holds ns)

  step_for : (step : StepLevel) → P step.process → StepFor (F (roll-Step step)) step
  step_for step whole accepted apart listed =
      subst (λ (one : StepMeaning). StepGives made measures one step) (sym (step_level measures made step))
      (λ id place inputs env settled well.
      enter_gives made step (meaning_of measures made step.process) (keys_of (gives step.process)) (λ place fields well. (whole accepted apart place fields well).1)
      (each_there (gives step.process) step.outputs listed) id place (entries_of measures step.inputs inputs env) settled well)

  all_give : (level : WorkflowLevel) (steps : List (Name × Step)) → Each (λ e. IsSoundStep level e.1) steps → list_all (λ e. e.1) (map_values step_ids_differ steps) ≡ true → AllByRecursion (λ (e : Name × Step). S e.1) steps
      → AllByRecursion (λ (e : Name × Step). StepGives made measures (F e.1) (out-Step e.1)) steps
  all_give level [] sound apart all = tt
  all_give level (e ∷ es) sound apart all = (
    all.0 sound.0.inner (sym (step_is e.1) ∙ and_left (step_ids_differ e.1) (list_all (λ x. x.1) (map_values step_ids_differ es)) apart) sound.0.outputs,
    all_give level es sound.1 (and_right (step_ids_differ e.1) (list_all (λ x. x.1) (map_values step_ids_differ es)) apart) all.1,
  )

  -- one level of a workflow, whose steps give what they list
  module _ (level : WorkflowLevel) (sound : IsSound level) (none : is_cyclic level.steps ≡ false) (apart : workflow_ids_differ (roll-Workflow level) ≡ true) (all : AllByRecursion (λ (e : Name × Step). S e.1) level.steps) where
    both : (differ (ids_of level.steps) && list_all (λ e. e.1) (map_values step_ids_differ level.steps)) ≡ true
    both = sym (steps_differ level) ∙ apart

    level_gives : (place : JobPlace) (found : Result Fields Cause) → AllWell made (workflow_at (workflow_of level (map_values F level.steps)) place found).met
        → AreWhole (keys_of level.outputs) (workflow_at (workflow_of level (map_values F level.steps)) place found).outs
    level_gives place (Err cause) well = absurd cc
    level_gives place (Ok inputs) well =
        let ids : differ (ids_of level.steps) ≡ true = and_left (differ (ids_of level.steps)) (list_all (λ e. e.1) (map_values step_ids_differ level.steps)) both in
        let inside : list_all (λ e. e.1) (map_values step_ids_differ level.steps) ≡ true = and_right (differ (ids_of level.steps)) (list_all (λ e. e.1) (map_values step_ids_differ level.steps)) both in
        let env : Env = last_env made measures F level sound none ids (steps_rise measures made level.steps) (all_give level level.steps sound.steps inside all) place inputs in
        let values : AllByRecursion (λ (o : Name × WorkflowOutput). is_some (given (output_value inputs env o.1.links)) ≡ true) level.outputs =
        workflow_gives made measures F level sound none ids (steps_rise measures made level.steps) (all_give level level.steps sound.steps inside all) place inputs well in (
          each_some (λ (o : Name × WorkflowOutput). o.0) (λ o. given (output_value inputs env o.1.links)) level.outputs values,
          given_under (λ (o : Name × WorkflowOutput). o.0) (λ o. given (output_value inputs env o.1.links)) level.outputs values,
        )

  whole_cases : Cases P S W
  whole_cases = record {
    tool = λ tool accepted apart. subst₂ MeaningGives (sym (tool_level measures made tool)) (sym (tool_names tool)) (λ place fields. tool_gives tool place (tool_inputs_for measures tool.inputs fields));
    workflow = λ w whole accepted apart. subst₂ MeaningGives (sym (workflow_in measures made w)) (sym (workflow_names w)) (whole accepted (sym (workflow_differs w) ∙ apart));
    a_step = λ step whole. subst (λ (level : StepLevel). StepFor (F (roll-Step step)) level) (sym (out-roll-Step step)) (step_for step whole);
    a_workflow = λ level all accepted apart.
        let same : out-Workflow (roll-Workflow level) ≡ level = out-roll-Workflow level in
        let right : IsSound level = subst IsSound same (sound (roll-Workflow level) accepted) in
        let none : is_cyclic level.steps ≡ false = sym (ap (λ (l : WorkflowLevel). is_cyclic l.steps) same) ∙ not_cyclic (roll-Workflow level) accepted in
        subst₂ MeaningGives (sym (workflow_level measures made level)) (ap (λ (l : WorkflowLevel). keys_of l.outputs) (sym same))
        (λ place fields. level_gives level right none apart all place (workflow_inputs_for measures level.inputs fields));
  }

  -- a process that is accepted gives each of its outputs, where all that it meets is well
  pub whole : (p : Process) → fault_in p ≡ None → ids_differ p ≡ true → (place : JobPlace) (fields : Fields) → AllWell made (meaning_of measures made p place fields).met
      → AreWhole (keys_of (gives p)) (meaning_of measures made p place fields).outs
  whole p = induction whole_cases p
