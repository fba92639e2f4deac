-- The jobs of a walk have different places: a step's id and its tuple tell them apart.
use Rattle.std.proofs.Common.{◌≡◌, ◌∙◌, ◌⊎◌, ◌≢◌, inl, inr, ℕ, List, [], ◌∷◌, ◌++◌, map, Bool, true, false, cond, not, Option, Some, None, Result, Ok, Err, bytes_eq, refl, sym, ap, ap₂, subst, rules, append_assoc, append-nil}
use Rattle.std.specs.Prelude.{◌&&◌, ◌||◌, nat_le, length}
use Rattle.std.specs.List.{AllByRecursion, IsDistinct, flat_map, list_all, list_any}
use Rattle.std.specs.Map.{keys_of}
use Rattle.std.proofs.lemmas.List.{append_cancel_left}
use Rattle.std.proofs.lemmas.Slice.Eq.{bytes_eq-Decides}
use Rattle.cwl_value.specs.declared.place.Segment.{Segment}
use Rattle.cwl_process.specs.declared.tool.Tool.{Tool}
use Rattle.cwl_process.specs.declared.workflow.WorkflowOutput.{WorkflowOutput}
use Rattle.document_links.specs.declared.process.Process.{Process, the_lemmas}
use Rattle.document_links.specs.declared.process.Process as process
use Rattle.document_links.specs.declared.process.Process.TheViews.{roll-out-Step, roll-out-Workflow}
use Rattle.document_links.specs.declared.process.Step.{Step, roll-Step, out-Step}
use Rattle.document_links.specs.declared.process.Workflow.{Workflow, roll-Workflow, out-Workflow}
use Rattle.input_files.specs.Measured.{Measures}
use Rattle.link_values.specs.StepInputs.{value_froms}
use Rattle.plain_data.specs.ByName.{map_values}
use Rattle.scatter_shape.specs.declared.tuples.TheConstants.{MOST_TUPLES}
use Rattle.scatter_shape.specs.Laws.{IsBefore}
use Rattle.scatter_shape.specs.Tuples.{tuples_of}
use Rattle.scatter_shape.proofs.Rising.{Rises, tuples_rise, differ as before_differs}
use Rattle.job_graph.specs.declared.cause.Cause.{Cause}
use Rattle.job_graph.specs.declared.partly.Partly.{Partly}
use Rattle.job_graph.specs.declared.partly.Partly.TheVariants.{Waits, Gives, Fails}
use Rattle.job_graph.specs.Apart.{differ, ids_differ, step_ids_differ, workflow_ids_differ}
use Rattle.job_graph.specs.Words.{Name, Fields, JobPlace}
use Rattle.job_graph.specs.Inputs.{tool_inputs_for, workflow_inputs_for}
use Rattle.job_graph.specs.Jobs.{Job, Met, met_job, met_fault, Made, Walk, tool_walk}
use Rattle.job_graph.specs.Links.{Env, by_link, all_given, output_value}
use Rattle.job_graph.specs.Scatter.{are_in_step, lengths_under, method_of, at_tuple}
use Rattle.job_graph.specs.Equations.{Meaning, StepMeaning, StepOf, fault_at, goes_on, run_where, instance_from, instance, step_place, over_tuples, over_lengths, scattered, entered, step_meaning, step_walk, env_after, workflow_at, meaning_of, step_meaning_of, workflow_meaning_of}
use Rattle.job_graph.proofs.laws_of_walks.Processes.{StepLevel, WorkflowLevel, step_of, workflow_of, Cases, induction, tool_level, workflow_in, step_level, workflow_level}
use Rattle.job_graph.proofs.laws_of_walks.Part.{AllIn, and_left, and_right, each_both, weaker}
use Rattle.job_graph.proofs.laws_of_walks.Steps.{entries_of, faults_in}

-- no job that is met later is at the place of one before
abbrev pub Apart : List Met → Type 0
Apart [] = Unit {0}
Apart (met_job job ∷ met) = AllIn (λ other. other.place ≢ job.place) met × Apart met
Apart (met_fault place cause ∷ met) = Apart met

-- the job is at a place that begins so
abbrev pub IsUnder : JobPlace → Job → Type 0
IsUnder place job = (rest : JobPlace) × (job.place ≡ place ++ rest)

abbrev pub IsAt : JobPlace → List Met → Type 0
IsAt place met = AllIn (IsUnder place) met × Apart met

-- and then has a segment of which Q holds
abbrev pub IsBeyond : JobPlace → (Segment → Type 0) → Job → Type 0
IsBeyond place Q job = (segment : Segment) × (rest : JobPlace) × Q segment × (job.place ≡ place ++ segment ∷ rest)

abbrev pub Fans : JobPlace → (Segment → Type 0) → List Met → Type 0
Fans place Q met = AllIn (IsBeyond place Q) met × Apart met

beyond_differ : (place : JobPlace) (Q R : Segment → Type 0) → ((s t : Segment) → Q s → R t → s ≢ t) → (job other : Job) → IsBeyond place Q job → IsBeyond place R other → other.place ≢ job.place
beyond_differ place Q R apart job other one two same =
    let whole : place ++ two.0 ∷ two.1 ≡ place ++ one.0 ∷ one.1 = sym two.3 ∙ same ∙ one.3 in
    let tails : two.0 ∷ two.1 ≡ one.0 ∷ one.1 = append_cancel_left place (two.0 ∷ two.1) (one.0 ∷ one.1) whole in
    let heads : one.0 ≡ two.0 = cc in
    apart one.0 two.0 one.2 two.2 heads

apart_append : (place : JobPlace) (Q R : Segment → Type 0) → ((s t : Segment) → Q s → R t → s ≢ t) → (xs ys : List Met) → Fans place Q xs → Fans place R ys → Apart (xs ++ ys)
apart_append place Q R apart [] ys one other = other.1
apart_append place Q R apart (met_job job ∷ xs) ys one other = (
  each_both (λ found. found.place ≢ job.place) xs ys one.1.0 (weaker (IsBeyond place R) (λ found. found.place ≢ job.place) (λ found at. beyond_differ place Q R apart job found one.0.0 at) ys other.0),
  apart_append place Q R apart xs ys (one.0.1, one.1.1) other,
)
apart_append place Q R apart (met_fault at cause ∷ xs) ys one other = apart_append place Q R apart xs ys (one.0.1, one.1) other

fans_weaker : (place : JobPlace) (Q R : Segment → Type 0) → ((s : Segment) → Q s → R s) → (met : List Met) → Fans place Q met → Fans place R met
fans_weaker place Q R means met fans = (weaker (IsBeyond place Q) (IsBeyond place R) (λ job at. (at.0, at.1, means at.0 at.2, at.3)) met fans.0, fans.1)

fans_append : (place : JobPlace) (Q R S : Segment → Type 0) → ((s t : Segment) → Q s → R t → s ≢ t) → ((s : Segment) → Q s → S s) → ((s : Segment) → R s → S s) → (xs ys : List Met)
    → Fans place Q xs → Fans place R ys → Fans place S (xs ++ ys)
fans_append place Q R S apart left right xs ys one other =
    (each_both (IsBeyond place S) xs ys (fans_weaker place Q S left xs one).0 (fans_weaker place R S right ys other).0, apart_append place Q R apart xs ys one other)

-- ---- faults are no jobs

abbrev pub no_job : Job → Type 0
no_job job = ⊥

fault_none : (place : JobPlace) (p : Partly) → AllIn no_job (fault_at place p)
fault_none place Waits = tt
fault_none place (Gives value) = tt
fault_none place (Fails cause) = (tt, tt)

pub faults_none : {X : Type 0} (place : JobPlace) (f : X → Partly) (xs : List X) → AllIn no_job (flat_map (λ x. fault_at place (f x)) xs)
faults_none place f [] = tt
faults_none place f (x ∷ xs) = each_both no_job (fault_at place (f x)) (flat_map (λ x. fault_at place (f x)) xs) (fault_none place (f x)) (faults_none place f xs)

faults_fan : (place : JobPlace) (Q : Segment → Type 0) (met : List Met) → AllIn no_job met → Fans place Q met
faults_fan place Q [] none = (tt, tt)
faults_fan place Q (met_job job ∷ met) none = absurd none.0
faults_fan place Q (met_fault at cause ∷ met) none = let rest : Fans place Q met = faults_fan place Q met none.1 in ((tt, rest.0), rest.1)

-- ---- a step

abbrev pub segment : Name → List ℕ → Segment
segment id tuple = record { step = id; index = tuple }

pub beyond : (place : JobPlace) (id : Name) (tuple : List ℕ) (met : List Met) → IsAt (step_place place id tuple) met → Fans place (λ s. s ≡ segment id tuple) met
beyond place id tuple met at =
    (weaker (IsUnder (step_place place id tuple)) (IsBeyond place (λ s. s ≡ segment id tuple)) (λ job under. (segment id tuple, under.0, refl, under.1 ∙ append_assoc place (segment id tuple ∷ []) under.0)) met at.0, at.1)

abbrev pub IsAmong : List ℕ → List (List ℕ) → Type 0
IsAmong name [] = ⊥
IsAmong name (other ∷ others) = (name ≡ other) ⊎ IsAmong name others

pub not_among : (t u : List ℕ) (ts : List (List ℕ)) → AllByRecursion (IsBefore t) ts → IsAmong u ts → u ≡ t → ⊥
not_among t u [] all among is = among
not_among t u (v ∷ vs) all (inl same) is =
    let equal : bytes_eq t v ≡ true = (bytes_eq-Decides t v).1 (sym is ∙ same) in
    let apart : bytes_eq t v ≡ false = before_differs t v all.0 in
    cc
not_among t u (v ∷ vs) all (inr later) is = not_among t u vs all.1 later is

abbrev pub OfTuples : Name → List (List ℕ) → Segment → Type 0
OfTuples id tuples s = (s.step ≡ id) × IsAmong s.index tuples

abbrev pub OfStep : Name → Segment → Type 0
OfStep id s = s.step ≡ id

module _ (step : StepLevel) (meaning : Meaning) (places : (place : JobPlace) (fields : Fields) → IsAt place (meaning place fields).met) where
  abbrev s : StepOf
  s = step_of step meaning

  run_at : (place : JobPlace) (fields : Fields) (is_run : Result Bool Cause) → IsAt place (run_where s place fields is_run).met
  run_at place fields (Ok true) = places place fields
  run_at place fields (Ok false) = (tt, tt)
  run_at place fields (Err cause) = ((tt, tt), tt)

  from_at : (place : JobPlace) (found : Result Fields Cause) → IsAt place (instance_from s place found).met
  from_at place (Err cause) = ((tt, tt), tt)
  from_at place (Ok fields) = run_at place fields (goes_on step.when fields)

  pub instance_at : (place : JobPlace) (fields : Fields) → IsAt place (instance s place fields).met
  instance_at place fields = from_at place (by_link (value_froms step.inputs fields))

  module _ (id : Name) (place : JobPlace) (fields : Fields) where
    abbrev of : List ℕ → Walk
    of tuple = instance s (step_place place id tuple) (at_tuple step.scatter tuple fields)

    pub tuples_fan : (tuples : List (List ℕ)) → Rises tuples → Fans place (OfTuples id tuples) (flat_map (λ w. w.met) (map of tuples))
    tuples_fan [] rises = (tt, tt)
    tuples_fan (t ∷ ts) rises =
        fans_append place (λ s. s ≡ segment id t) (OfTuples id ts) (OfTuples id (t ∷ ts))
        (λ one other is among same. not_among t other.index ts rises.0 among.1 (ap (λ (x : Segment). x.index) (sym same ∙ is)))
        (λ one is. (ap (λ (x : Segment). x.step) is, inl (ap (λ (x : Segment). x.index) is)))
        (λ one among. (among.0, inr among.1))
        (of t).met (flat_map (λ w. w.met) (map of ts))
        (beyond place id t (of t).met (instance_at (step_place place id t) (at_tuple step.scatter t fields)))
        (tuples_fan ts rises.1)

    checked_fan : (lengths : List ℕ) (in_step within : Bool) (many unequal : Cause)
        → Fans place (OfStep id) (over_tuples s id place fields lengths (cond in_step (cond within (Ok (tuples_of (method_of step.method) lengths)) (Err many)) (Err unequal))).met
    checked_fan lengths true true many unequal =
        fans_weaker place (OfTuples id (tuples_of (method_of step.method) lengths)) (OfStep id) (λ one among. among.0) (flat_map (λ w. w.met) (map of (tuples_of (method_of step.method) lengths)))
        (tuples_fan (tuples_of (method_of step.method) lengths) (tuples_rise (method_of step.method) lengths))
    checked_fan lengths true false many unequal = ((tt, tt), tt)
    checked_fan lengths false within many unequal = ((tt, tt), tt)

    lengths_fan : (lengths : Result (List ℕ) Cause) → Fans place (OfStep id) (over_lengths s id place fields lengths).met
    lengths_fan (Err cause) = ((tt, tt), tt)
    lengths_fan (Ok lengths) = checked_fan lengths (are_in_step (method_of step.method) lengths) (nat_le (length (tuples_of (method_of step.method) lengths)) MOST_TUPLES) _ _

    scatter_fan : (names : List Name) → Fans place (OfStep id) (scattered s id place fields names).met
    scatter_fan [] =
        fans_weaker place (λ s. s ≡ segment id []) (OfStep id) (λ one is. ap (λ (x : Segment). x.step) is) (instance s (step_place place id []) fields).met
        (beyond place id [] (instance s (step_place place id []) fields).met (instance_at (step_place place id []) fields))
    scatter_fan (n ∷ ns) = lengths_fan (lengths_under (n ∷ ns) fields)

  enter_fan : (id : Name) (place : JobPlace) (faults : List Met) (o : Option Fields) → AllIn no_job faults → Fans place (OfStep id) (entered s id place faults o).met
  enter_fan id place faults None none = faults_fan place (OfStep id) faults none
  enter_fan id place faults (Some fields) none = scatter_fan id place fields step.scatter

  pub step_fan : (measures : Measures) (id : Name) (place : JobPlace) (inputs : Fields) (env : Env) → Fans place (OfStep id) (step_meaning measures s id place inputs env).met
  step_fan measures id place inputs env =
      enter_fan id place (faults_in (step_place place id []) (entries_of measures step.inputs inputs env)) (all_given (entries_of measures step.inputs inputs env))
      (faults_none (step_place place id []) (λ (e : Name × Partly). e.1) (entries_of measures step.inputs inputs env))

-- ---- a workflow

abbrev pub StepFans : StepMeaning → Type 0
StepFans one = (id : Name) (place : JobPlace) (inputs : Fields) (env : Env) → Fans place (OfStep id) (one id place inputs env).met

abbrev pub ids_of : List (Name × Step) → List Name
ids_of steps = keys_of (map_values step_ids_differ steps)

or_right : (a b : Bool) → b ≡ true → (a || b) ≡ true
or_right true b is = refl
or_right false b is = is

pub among_any : (name other : List ℕ) (names : List (List ℕ)) → IsAmong other names → name ≡ other → list_any (bytes_eq name) names ≡ true
among_any name other [] among is = absurd among
among_any name other (n ∷ ns) (inl same) is = ap (λ b. b || list_any (bytes_eq name) ns) ((bytes_eq-Decides name n).1 (is ∙ same))
among_any name other (n ∷ ns) (inr later) is = or_right (bytes_eq name n) (list_any (bytes_eq name) ns) (among_any name other ns later is)

pub not_both : (b : Bool) → not b ≡ true → b ≡ true → ⊥
not_both true one other = cc
not_both false one other = cc

module _ (F : Step → StepMeaning) (place : JobPlace) (inputs : Fields) (env : Env) where
  abbrev pub met_of : List (Name × Step) → List Met
  met_of steps = flat_map (λ s. (step_walk place inputs env s).met) (map_values F steps)

  pub steps_fan : (steps : List (Name × Step)) → differ (ids_of steps) ≡ true → AllByRecursion (λ (e : Name × Step). StepFans (F e.1)) steps → Fans place (λ s. IsAmong s.step (ids_of steps)) (met_of steps)
  steps_fan [] apart fans = (tt, tt)
  steps_fan (e ∷ es) apart fans =
      fans_append place (OfStep e.0) (λ s. IsAmong s.step (ids_of es)) (λ s. IsAmong s.step (ids_of (e ∷ es)))
      (λ one other is among same. not_both (list_any (bytes_eq e.0) (ids_of es)) (and_left (not (list_any (bytes_eq e.0) (ids_of es))) (differ (ids_of es)) apart)
      (among_any e.0 other.step (ids_of es) among (sym is ∙ ap (λ (x : Segment). x.step) same)))
      (λ one is. inl is) (λ one among. inr among)
      (F e.1 e.0 place inputs env).met (met_of es) (fans.0 e.0 place inputs env)
      (steps_fan es (and_right (not (list_any (bytes_eq e.0) (ids_of es))) (differ (ids_of es)) apart) fans.1)

pub workflow_fans : (F : Step → StepMeaning) (workflow : WorkflowLevel) → differ (ids_of workflow.steps) ≡ true → AllByRecursion (λ (e : Name × Step). StepFans (F e.1)) workflow.steps
    → (place : JobPlace) (found : Result Fields Cause) → Fans place (λ s. Unit {0}) (workflow_at (workflow_of workflow (map_values F workflow.steps)) place found).met
workflow_fans F workflow apart fans place (Err cause) = ((tt, tt), tt)
workflow_fans F workflow apart fans place (Ok inputs) =
    let env : Env = env_after (length (map_values F workflow.steps)) (map_values F workflow.steps) place inputs in
    let outputs : List Met = flat_map (λ o. fault_at place (output_value inputs env o.1.links)) workflow.outputs in
    let none : AllIn no_job outputs = faults_none place (λ (o : Name × WorkflowOutput). output_value inputs env o.1.links) workflow.outputs in
    fans_append place (λ s. IsAmong s.step (ids_of workflow.steps)) (λ s. ⊥) (λ s. Unit {0}) (λ one other among no same. no) (λ one among. tt) (λ one no. tt)
    (met_of F place inputs env workflow.steps) outputs (steps_fan F place inputs env workflow.steps apart fans) (faults_fan place (λ s. ⊥) outputs none)

workflow_places : (F : Step → StepMeaning) (workflow : WorkflowLevel) → differ (ids_of workflow.steps) ≡ true → AllByRecursion (λ (e : Name × Step). StepFans (F e.1)) workflow.steps
    → (place : JobPlace) (found : Result Fields Cause) → IsAt place (workflow_at (workflow_of workflow (map_values F workflow.steps)) place found).met
workflow_places F workflow apart fans place found =
    let met : List Met = (workflow_at (workflow_of workflow (map_values F workflow.steps)) place found).met in
    let all : Fans place (λ s. Unit {0}) met = workflow_fans F workflow apart fans place found in
    (weaker (IsBeyond place (λ s. Unit {0})) (IsUnder place) (λ job at. (at.0 ∷ at.1, at.3)) met all.0, all.1)

-- ---- any process

pub workflow_differs : (w : Workflow) → ids_differ (process.Workflow w) ≡ workflow_ids_differ w
workflow_differs w = search (rules, the_lemmas)

pub step_differs : (step : StepLevel) → step_ids_differ (roll-Step step) ≡ ids_differ step.process
step_differs step = search (rules, the_lemmas)

pub steps_differ : (w : WorkflowLevel) → workflow_ids_differ (roll-Workflow w) ≡ (differ (ids_of w.steps) && list_all (λ e. e.1) (map_values step_ids_differ w.steps))
steps_differ w = search (rules, the_lemmas)

module _ (measures : Measures) (made : Made) where
  tool_places : (tool : Tool) (place : JobPlace) (found : Result Fields Cause) → IsAt place (tool_walk tool place found made).met
  tool_places tool place (Err cause) = ((tt, tt), tt)
  tool_places tool place (Ok inputs) = ((([], sym (append-nil place)), tt), (tt, tt))

  abbrev ArePlaces : Meaning → Type 0
  ArePlaces meaning = (place : JobPlace) (fields : Fields) → IsAt place (meaning place fields).met

  abbrev P : Process → Type 0
  P p = ids_differ p ≡ true → ArePlaces (meaning_of measures made p)

  abbrev S : Step → Type 0
  S s = step_ids_differ s ≡ true → StepFans (step_meaning_of measures made s)

  abbrev W : Workflow → Type 0
  W w = workflow_ids_differ w ≡ true → ArePlaces (workflow_meaning_of measures made w)

  all_fan : (steps : List (Name × Step)) → list_all (λ e. e.1) (map_values step_ids_differ steps) ≡ true → AllByRecursion (λ (e : Name × Step). S e.1) steps
      → AllByRecursion (λ (e : Name × Step). StepFans (step_meaning_of measures made e.1)) steps
  all_fan [] differ all = tt
  all_fan (e ∷ es) differ all =
      (all.0 (and_left (step_ids_differ e.1) (list_all (λ x. x.1) (map_values step_ids_differ es)) differ), all_fan es (and_right (step_ids_differ e.1) (list_all (λ x. x.1) (map_values step_ids_differ es)) differ) all.1)

  cases : Cases P S W
  cases = record {
    tool = λ tool apart. subst ArePlaces (sym (tool_level measures made tool)) (λ place fields. tool_places tool place (tool_inputs_for measures tool.inputs fields));
    workflow = λ w places apart. subst ArePlaces (sym (workflow_in measures made w)) (places (sym (workflow_differs w) ∙ apart));
    a_step = λ step places apart. subst StepFans (sym (step_level measures made step)) (step_fan step (meaning_of measures made step.process) (places (sym (step_differs step) ∙ apart)) measures);
    a_workflow = λ w fans apart.
        let both : (differ (ids_of w.steps) && list_all (λ e. e.1) (map_values step_ids_differ w.steps)) ≡ true = sym (steps_differ w) ∙ apart in
        subst ArePlaces (sym (workflow_level measures made w))
        (λ place fields. workflow_places (step_meaning_of measures made) w (and_left (differ (ids_of w.steps)) (list_all (λ e. e.1) (map_values step_ids_differ w.steps)) both)
        (all_fan w.steps (and_right (differ (ids_of w.steps)) (list_all (λ e. e.1) (map_values step_ids_differ w.steps)) both) fans) place (workflow_inputs_for measures w.inputs fields));
  }

  -- each job of a walk is at a place of its own
  pub walk_places : (p : Process) → ids_differ p ≡ true → (place : JobPlace) (fields : Fields) → IsAt place (meaning_of measures made p place fields).met
  walk_places p = induction cases p

-- ---- what the type of steps keeps

abbrev pub inside_differs : Name × Step → Bool
inside_differs e = ids_differ (out-Step e.1).process

no_other : (name : Name) (names : List Name) → AllByRecursion (λ other. bytes_eq name other ≡ false) names → list_any (bytes_eq name) names ≡ false
no_other name [] all = refl
no_other name (n ∷ ns) all = ap₂ (λ (a b : Bool). a || b) all.0 (no_other name ns all.1)

pub names_differ : (names : List Name) → IsDistinct bytes_eq names → differ names ≡ true
unfolding IsDistinct
names_differ [] distinct = refl
names_differ (n ∷ ns) distinct = ap₂ (λ (a b : Bool). not a && b) (no_other n ns distinct.0) (names_differ ns distinct.1)

pub same_ids : (steps : List (Name × Step)) → keys_of steps ≡ ids_of steps
same_ids [] = refl
same_ids (e ∷ es) = ap (λ (ids : List Name). e.0 ∷ ids) (same_ids es)

pub step_is : (s : Step) → step_ids_differ s ≡ ids_differ (out-Step s).process
step_is s = ap step_ids_differ (sym (roll-out-Step s)) ∙ step_differs (out-Step s)

all_inside : (steps : List (Name × Step)) → list_all inside_differs steps ≡ list_all (λ e. e.1) (map_values step_ids_differ steps)
all_inside [] = refl
all_inside (e ∷ es) = ap₂ (λ (a b : Bool). a && b) (sym (step_is e.1)) (all_inside es)

pub seen_workflow : (w : Workflow) → IsDistinct bytes_eq (keys_of (out-Workflow w).steps) → list_all inside_differs (out-Workflow w).steps ≡ true → workflow_ids_differ w ≡ true
seen_workflow w distinct inside =
    ap workflow_ids_differ (sym (roll-out-Workflow w)) ∙ steps_differ (out-Workflow w)
    ∙ ap₂ (λ (a b : Bool). a && b) (ap differ (sym (same_ids (out-Workflow w).steps)) ∙ names_differ (keys_of (out-Workflow w).steps) distinct) (sym (all_inside (out-Workflow w).steps) ∙ inside)
