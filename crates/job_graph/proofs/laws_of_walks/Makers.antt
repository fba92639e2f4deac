-- What made a File or Directory in the inputs of a known job was learned.
use Rattle.std.proofs.Common.{◌≡◌, ◌∙◌, true≢false, rules, ℕ, suc, List, [], ◌∷◌, ◌++◌, length, map, find, Bool, true, false, cond, Option, Some, None, option_map, refl, sym, ap, subst, append_assoc}
use Rattle.std.specs.Prelude.{Contains, IfSome, IsSomeAnd, is_some, slice_get}
use Rattle.std.specs.List.{AllByRecursion, list_any}
use Rattle.std.proofs.lemmas.List.Elements.{All-contains, All-from_recursion, recursion_from_All}
use Rattle.cwl_process.specs.declared.tool.Tool.{Tool}
use Rattle.cwl_process.specs.declared.tool.ToolInput.{ToolInput}
use Rattle.cwl_process.specs.declared.workflow.WorkflowInput.{WorkflowInput}
use Rattle.cwl_value.specs.declared.value.Value.{Value}
use Rattle.document_links.specs.declared.process.Process.{Process, the_lemmas, out-Process}
use Rattle.document_links.specs.declared.process.Process as process
use Rattle.document_links.specs.declared.process.Workflow.{Workflow, out-Workflow, out-roll-Workflow}
use Rattle.input_files.specs.Given.{or_default}
use Rattle.input_files.specs.Measured.{Measures, as_measured}
use Rattle.input_files.specs.Parameters.{Parameter, tool_parameter, workflow_parameter}
use Rattle.input_files.specs.Taken as taken
use Rattle.link_values.specs.StepInputs.{value_under}
use Rattle.plain_data.specs.ByName.{map_values}
use Rattle.job_graph.specs.Words.{Name, Fields, JobPlace, is_same_place}
use Rattle.job_graph.specs.Inputs.{root_fields}
use Rattle.cwl_value.specs.Placed.{value_moved}
use Rattle.job_graph.specs.Made.{any_made, fields_made, holds_made, made_place}
use Rattle.job_graph.specs.Jobs.{Job, met_job}
use Rattle.job_graph.specs.Equations.{walker}
use Rattle.job_graph.specs.Unfold.{Known, Resolved, known_from, made_at, made_by, outputs_at, parents_from, unfolded}
use Rattle.job_graph.specs.Makers.{AreNamed, AreUnmade, HasUnmadeDefaults, IsLearned, IsLearnedJob, any_default, any_step_default, any_workflow_default, is_hit}
use Rattle.job_graph.proofs.laws_of_walks.Processes.{WorkflowLevel, Cases, induction}
use Rattle.job_graph.proofs.laws_of_walks.Part.{neither_one}
use Rattle.job_graph.specs.inner.Elements.{IsIn}
use Rattle.job_graph.proofs.laws_of_walks.Known.{all_means, in_all, is_met, known_met, same_place}
use Rattle.job_graph.proofs.laws_of_walks.Passed.{EachField, all_map, each_by_name, under}
use Rattle.job_graph.proofs.laws_of_walks.PassedWalks.{Passed, defaults_are, tool_defaults, workflow_default, workflow_defaults, or_other, process_passes}
use Rattle.job_graph.proofs.laws_of_walks.Held.{IsFree, each_unmade, none_made, free_passes, made_free, measured_free, beside_free}

-- ---- what is handed to the root

module _ (job : JobPlace) where
  abbrev H : Value → Type 0
  H = IsFree job

  of_none : (v : Value) → holds_made job v ≡ false → H v
  of_none v none = none

  module _ (given : Fields) (measures : Measures) (unmade : EachField H given) where
    module _ {X : Type 0} (param : X → Parameter) where
      at_root : (input : Name × X) → IfSome (param input.1).default H → H (taken.root_value param measures given input)
      at_root input default =
          let v : Value = or_default (param input.1).default (value_under input.0 given) in
          beside_free job measures (param input.1).secondary_files (as_measured measures v)
          (measured_free job measures v (or_other H (free_passes job) (param input.1).default (value_under input.0 given) default (under H (free_passes job) input.0 given unmade)))

      each_at_root : (inputs : List (Name × X)) → AllByRecursion (λ (i : Name × X). IfSome (param i.1).default H) inputs → EachField H (taken.root_fields param inputs given measures)
      each_at_root inputs defaults =
          each_by_name H (map (λ input. (input.0, taken.root_value param measures given input)) inputs) []
          (all_map (λ (input : Name × X). (input.0, taken.root_value param measures given input)) (λ i. IfSome (param i.1).default H) (λ f. H f.1) at_root inputs defaults) tt

    of_tool : (tool : Tool) → root_fields (process.Tool tool) given measures ≡ taken.tool_root_fields tool.inputs given measures
    of_tool tool = search (rules, the_lemmas)

    of_workflow : (workflow : Workflow) → root_fields (process.Workflow workflow) given measures ≡ taken.workflow_root_fields (out-Workflow workflow).inputs given measures
    of_workflow workflow = search (rules, the_lemmas)

    rooting : Cases (λ p. any_default (holds_made job) p ≡ false → EachField H (root_fields p given measures)) (λ s. Unit {0})
        (λ w. any_workflow_default (holds_made job) w ≡ false → EachField H (taken.workflow_root_fields (out-Workflow w).inputs given measures))
    rooting = record {
      tool = λ tool none. subst (EachField H) (sym (of_tool tool))
          (each_at_root tool_parameter tool.inputs (defaults_are H (holds_made job) of_none (λ (i : ToolInput). i.default) tool.inputs (sym (tool_defaults (holds_made job) tool) ∙ none)));
      workflow = λ w is none. subst (EachField H) (sym (of_workflow w)) (is (sym (workflow_default (holds_made job) w) ∙ none));
      a_step = λ step is. tt;
      a_workflow = λ w each none. subst (λ (v : WorkflowLevel). EachField H (taken.workflow_root_fields v.inputs given measures)) (sym (out-roll-Workflow w))
          (each_at_root workflow_parameter w.inputs (defaults_are H (holds_made job) of_none (λ (i : WorkflowInput). i.default) w.inputs
          (neither_one (list_any (λ i. is_hit (holds_made job) i.1.default) w.inputs) (list_any (λ e. e.1) (map_values (any_step_default (holds_made job)) w.steps))
          (sym (workflow_defaults (holds_made job) w) ∙ none))));
    }

    root_free : (p : Process) → any_default (holds_made job) p ≡ false → EachField H (root_fields p given measures)
    root_free p = induction rooting p

  -- ---- the outputs that were learned, where the job's were not

  module _ (learned : List Resolved) (named : AllByRecursion (λ (r : Resolved). any_made job r.outputs ≡ false) learned) (open_still : outputs_at learned job ≡ None) where
    outputs_free : (place : JobPlace) → IfSome (outputs_at learned place) (EachField H)
    outputs_free place = by learned named
      where
        one : (b : Bool) (r : Resolved) (o : Option Resolved) → any_made job r.outputs ≡ false → IfSome (option_map (λ r. r.outputs) o) (EachField H)
            → IfSome (option_map (λ r. r.outputs) (cond b (Some r) o)) (EachField H)
        one true r o none rest = each_unmade job r.outputs none
        one false r o none rest = rest

        by : (rs : List Resolved) → AllByRecursion (λ (r : Resolved). any_made job r.outputs ≡ false) rs → IfSome (outputs_at rs place) (EachField H)
        by [] all = tt
        by (r ∷ rs) all = one (is_same_place r.place place) r (find (λ r. is_same_place r.place place) rs) all.0 (by rs all.1)

    each_made : (place : JobPlace) → is_same_place place job ≡ false → (fields : Fields) → EachField H fields → EachField H (fields_made place fields)
    each_made place other fields all = all_map (λ (f : Name × Value). (f.0, value_moved (made_place place) f.1)) (λ f. H f.1) (λ f. H f.1) (λ f free. made_free job place other f.1 free) fields all

    if_made : (place : JobPlace) → is_same_place place job ≡ false → (o : Option Fields) → IfSome o (EachField H) → IfSome (option_map (fields_made place) o) (EachField H)
    if_made place other None all = tt
    if_made place other (Some fields) all = each_made place other fields all

    at_place : (place : JobPlace) (b : Bool) → is_same_place place job ≡ b → IfSome (made_at learned place) (EachField H)
    at_place place true is =
        let none : outputs_at learned place ≡ None = ap (outputs_at learned) (same_place place job is) ∙ open_still in
        subst (λ (o : Option Fields). IfSome (option_map (fields_made place) o) (EachField H)) (sym none) tt
    at_place place false is = if_made place is (outputs_at learned place) (outputs_free place)

    made_known : (one : Job) → IfSome (made_by learned one) (EachField H)
    made_known one = at_place one.place (is_same_place one.place job) refl

-- ---- the jobs that are known

module _ (process : Process) (given : Fields) (measures : Measures) (learned : List Resolved)
    (unmade : AreUnmade given) (defaults : HasUnmadeDefaults process) (named : AreNamed learned) where
  named_of : (job : JobPlace) (rs : List Resolved) → AllByRecursion (λ (r : Resolved). AreUnmade r.outputs) rs → AllByRecursion (λ (r : Resolved). any_made job r.outputs ≡ false) rs
  named_of job [] all = tt
  named_of job (r ∷ rs) all = (all.0 job, named_of job rs all.1)

  -- the job that was not learned made nothing in the inputs of a job that is met
  none_of_open : (maker : JobPlace) → outputs_at learned maker ≡ None → (job : Job) → IsIn (met_job job) (walker process given measures (made_by learned)).met → any_made maker job.inputs ≡ false
  none_of_open maker open_still job at =
      let passed : Passed (IsFree maker) (free_passes maker) (walker process given measures (made_by learned)) =
      process_passes (IsFree maker) (free_passes maker) measures (measured_free maker measures) (made_by learned)
      (made_known maker learned (named_of maker learned (recursion_from_All (λ (r : Resolved). AreUnmade r.outputs) learned named)) open_still)
      (holds_made maker) (λ v none. none) process (defaults maker) [] (root_fields process given measures)
      (root_free maker given measures (each_unmade maker given (unmade maker)) process (defaults maker)) in
      none_made maker job.inputs (in_all (λ job. EachField (IsFree maker) job.inputs) (walker process given measures (made_by learned)).met passed.met job at)

  maker_is_learned : (job : Job) → IsIn (met_job job) (walker process given measures (made_by learned)).met → (maker : JobPlace) → any_made maker job.inputs ≡ true → IsLearned learned maker
  maker_is_learned job at maker made = by (outputs_at learned maker) refl
    where
      by : (o : Option Fields) → outputs_at learned maker ≡ o → is_some o ≡ true
      by (Some outputs) is = refl
      by None is = let none : any_made maker job.inputs ≡ false = none_of_open maker is job at in absurd (true≢false (sym made ∙ none))

  pub maker_learned : (job : Job) (maker : JobPlace) → Contains (unfolded (walker process given measures) learned).jobs job → any_made maker job.inputs ≡ true → IsLearned learned maker
  maker_learned job maker at made = maker_is_learned job (is_met process (root_fields process given measures) measures learned job at) maker made

  -- ---- parents

  -- the jobs are those of all from this number on
  abbrev StandFrom : List Job → ℕ → List Job → Type 0
  StandFrom whole n [] = Unit {0}
  StandFrom whole n (job ∷ jobs) = (slice_get whole n ≡ Some job) × StandFrom whole (suc n) jobs

  at_length : (before : List Job) (job : Job) (later : List Job) → slice_get (before ++ job ∷ later) (length before) ≡ Some job
  at_length [] job later = refl
  at_length (b ∷ bs) job later = at_length bs job later

  length_push : (before : List Job) (job : Job) → length (before ++ job ∷ []) ≡ suc (length before)
  length_push [] job = refl
  length_push (b ∷ bs) job = ap suc (length_push bs job)

  stand : (whole before jobs later : List Job) → whole ≡ before ++ (jobs ++ later) → StandFrom whole (length before) jobs
  stand whole before [] later is = tt
  stand whole before (j ∷ js) later is = (
    ap (λ (all : List Job). slice_get all (length before)) is ∙ at_length before j (js ++ later),
    subst (λ (n : ℕ). StandFrom whole n js) (length_push before j) (stand whole (before ++ j ∷ []) js later (is ∙ sym (append_assoc before (j ∷ []) (js ++ later)))),
  )

  abbrev MakersLearned : Job → Type 0
  MakersLearned job = (maker : JobPlace) → any_made maker job.inputs ≡ true → IsLearned learned maker

  parents_are : (whole : List Job) (n : ℕ) (makers : List Job) (inputs : Fields) → StandFrom whole n makers → ((maker : JobPlace) → any_made maker inputs ≡ true → IsLearned learned maker)
      → AllByRecursion (IsLearnedJob learned whole) (parents_from n makers inputs)
  parents_are whole n [] inputs there means = tt
  parents_are whole n (m ∷ ms) inputs there means = one (any_made m.place inputs) refl (parents_are whole (suc n) ms inputs there.1 means)
    where
      one : (b : Bool) → any_made m.place inputs ≡ b → AllByRecursion (IsLearnedJob learned whole) (parents_from (suc n) ms inputs)
          → AllByRecursion (IsLearnedJob learned whole) (cond b (n ∷ parents_from (suc n) ms inputs) (parents_from (suc n) ms inputs))
      one true is rest = (subst (λ (o : Option Job). IsSomeAnd o (λ job. IsLearned learned job.place)) (sym there.0) (means m.place is), rest)
      one false is rest = rest

  each_known : (whole earlier jobs : List Job) → whole ≡ earlier ++ jobs → AllByRecursion MakersLearned jobs
      → AllByRecursion (λ (known : Known). AllByRecursion (IsLearnedJob learned whole) known.parents) (known_from earlier jobs)
  each_known whole earlier [] is all = tt
  each_known whole earlier (j ∷ js) is all = (
    parents_are whole 0 earlier j.inputs (stand whole [] earlier (j ∷ js) is) all.0,
    each_known whole (earlier ++ j ∷ []) js (is ∙ sym (append_assoc earlier (j ∷ []) js)) all.1,
  )

  abbrev jobs : List Job
  jobs = (unfolded (walker process given measures) learned).jobs

  all_learned : AllByRecursion MakersLearned jobs
  all_learned =
      all_means (λ job. IsIn (met_job job) (walker process given measures (made_by learned)).met) MakersLearned (λ job at. maker_is_learned job at) jobs
      (known_met process (root_fields process given measures) measures learned)

  pub parent_learned : (known : Known) (n : ℕ) → Contains (known_from [] jobs) known → Contains known.parents n → IsLearnedJob learned jobs n
  parent_learned known n at among =
      let parents : AllByRecursion (IsLearnedJob learned jobs) known.parents =
      All-contains (λ (k : Known). AllByRecursion (IsLearnedJob learned jobs) k.parents) (known_from [] jobs) known
      (All-from_recursion (λ (k : Known). AllByRecursion (IsLearnedJob learned jobs) k.parents) (known_from [] jobs) (each_known jobs [] jobs refl all_learned)) at in
      All-contains (IsLearnedJob learned jobs) known.parents n (All-from_recursion (IsLearnedJob learned jobs) known.parents parents) among
