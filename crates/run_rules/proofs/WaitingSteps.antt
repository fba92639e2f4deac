-- No step waits for ever: round by round, each step gives its outputs once those that its sources name do.
use Rattle.std.proofs.Common.{◌≡◌, ◌∙◌, inl, inr, ℕ, zero, suc, ◌+◌, List, [], ◌∷◌, map, length, Bool, true, false, cond, Option, Some, None, Result, Ok, Err, unwrap_or, bytes_eq, refl, sym, ap, ap₂, subst, arith}
use Rattle.std.specs.Prelude.{◌&&◌, ◌||◌, is_some}
use Rattle.std.specs.List.{AllByRecursion, filter, flat_map, list_all, list_any}
use Rattle.std.proofs.lemmas.Slice.Eq.{bytes_eq-Decides}
use Rattle.cwl_value.specs.declared.value.Value.{Value}
use Rattle.cwl_process.specs.declared.links.Links.{Links}
use Rattle.cwl_process.specs.declared.links.Source.{Source}
use Rattle.cwl_process.specs.declared.workflow.StepInput.{StepInput}
use Rattle.cwl_process.specs.declared.workflow.WorkflowOutput.{WorkflowOutput}
use Rattle.document_links.specs.declared.process.Step.{Step, out-Step}
use Rattle.input_files.specs.Measured.{Measures}
use Rattle.plain_data.specs.ByName.{value_at, map_values}
use Rattle.workflow_check.specs.Order.{is_of, leads_to, some_lead, waits_on, waits_for, still_waiting, left_after, is_some_left, is_cyclic}
use Rattle.workflow_check.specs.Scope.{lists, in_step, is_at}
use Rattle.workflow_check.specs.Sound.{AreThere, Each, IsSound, IsSoundStep}
use Rattle.job_graph.specs.declared.cause.Cause.{Cause}
use Rattle.job_graph.specs.Apart.{differ}
use Rattle.job_graph.specs.Words.{Name, Fields, JobPlace}
use Rattle.job_graph.specs.Jobs.{Job, Met, Made, Outs, is_well}
use Rattle.job_graph.specs.Links.{Env, out_under, value_from, source_value, linked_values, partly, once_known, output_from, output_value, given}
use Rattle.job_graph.specs.Equations.{StepMeaning, fault_at, step_walk, env_after, workflow_at}
use Rattle.job_graph.specs.More.{Stays, IsPart, nothing, kept, left_out}
use Rattle.job_graph.specs.inner.Rounds.{EnvGrows}
use Rattle.job_graph.proofs.laws_of_walks.Processes.{StepLevel, WorkflowLevel, workflow_of}
use Rattle.job_graph.proofs.laws_of_walks.Part.{and_left, and_right, neither_one, neither_other}
use Rattle.job_graph.proofs.laws_of_walks.Places.{IsAmong, ids_of}
use Rattle.job_graph.proofs.laws_of_walks.Steps.{entries_of}
use Rattle.job_graph.proofs.laws_of_walks.Rounds.{StepRises, round_rises, met_rises, length_values}
use Rattle.job_graph.proofs.laws_of_walks.Gives.{Settled, AllSettled, AreGiven, AllWell, first_some, well_left, well_right}
use Rattle.job_graph.specs.inner.Elements.{IsIn}
use Rattle.job_graph.proofs.laws_of_walks.PutOuts.{put_at}

-- ---- elements of lists

each_in : {X : Type 0} (P : X → Type 0) (xs : List X) → Each P xs → (x : X) → IsIn x xs → P x
each_in P [] all x at = absurd at
each_in P (y ∷ ys) all x (inl here) = subst P (sym here) all.0
each_in P (y ∷ ys) all x (inr later) = each_in P ys all.1 x later

all_in : {X : Type 0} (P : X → Type 0) (xs : List X) → AllByRecursion P xs → (x : X) → IsIn x xs → P x
all_in P [] all x at = absurd at
all_in P (y ∷ ys) all x (inl here) = subst P (sym here) all.0
all_in P (y ∷ ys) all x (inr later) = all_in P ys all.1 x later

-- an element that passes is among those that do
passes : {X : Type 0} (p : X → Bool) (x : X) (xs : List X) → p x ≡ true → IsIn x xs → IsIn x (filter p xs)
passes p x [] is at = at
passes p x (y ∷ ys) is (inl here) = subst (λ (b : Bool). IsIn x (cond b (y ∷ filter p ys) (filter p ys))) (sym (ap p (sym here) ∙ is)) (inl here)
passes p x (y ∷ ys) is (inr later) = elim (p y) as (λ b. IsIn x (cond b (y ∷ filter p ys) (filter p ys))) [ true ↦ inr (passes p x ys is later) | false ↦ passes p x ys is later ]

listed : (name : Name) (names : List Name) → lists names name ≡ true → IsAmong name names
listed name [] is = absurd cc
listed name (n ∷ ns) is = by (bytes_eq n name) refl is (λ rest. listed name ns rest)
  where
    by : (b : Bool) → bytes_eq n name ≡ b → (b || lists ns name) ≡ true → (lists ns name ≡ true → IsAmong name ns) → IsAmong name (n ∷ ns)
    by true same is later = inl (sym ((bytes_eq-Decides n name).0 same))
    by false same is later = inr (later is)

-- a step of the id lists an output of the name
abbrev Leads : Name → Name → List (Name × Step) → Type 0
Leads id name steps = (e : Name × Step) × IsIn e steps × (id ≡ e.0) × IsAmong name (out-Step e.1).outputs

leads : (id name : Name) (steps : List (Name × Step)) → in_step (value_at id steps) name ≡ true → Leads id name steps
leads id name [] there = absurd cc
leads id name (x ∷ xs) there = by (bytes_eq id x.0) refl there (λ rest. leads id name xs rest)
  where
    by : (b : Bool) → bytes_eq id x.0 ≡ b → in_step (cond b (Some x.1) (value_at id xs)) name ≡ true → (in_step (value_at id xs) name ≡ true → Leads id name xs) → Leads id name (x ∷ xs)
    by true same is later = (x, inl refl, (bytes_eq-Decides id x.0).0 same, listed name (out-Step x.1).outputs is)
    by false same is later = let found : Leads id name xs = later is in (found.0, inr found.1, found.2, found.3)

not_left : (id : Name) (left : List (Name × Step)) (e : Name × Step) → is_of left id ≡ false → id ≡ e.0 → IsIn e left → ⊥
not_left id [] e free same at = at
not_left id (x ∷ xs) e free same (inl here) =
    let one : bytes_eq x.0 id ≡ true = (bytes_eq-Decides x.0 id).1 (ap (λ (s : Name × Step). s.0) (sym here) ∙ sym same) in
    let none : bytes_eq x.0 id ≡ false = neither_one (bytes_eq x.0 id) (is_of xs id) free in
    cc
not_left id (x ∷ xs) e free same (inr later) = not_left id xs e (neither_other (bytes_eq x.0 id) (is_of xs id) free) same later

-- ---- what stays

some_stays : (a b : Option Value) → Stays a b → is_some a ≡ true → is_some b ≡ true
some_stays None b stays some = absurd cc
some_stays (Some v) b stays some = ap is_some stays

well_part : (made : Made) (xs ys : List Met) → IsPart xs ys → AllWell made ys → AllWell made xs
well_part made xs ys nothing well = well
well_part made xs ys (kept x us vs part) well =
    ap₂ (λ (a b : Bool). a && b) (and_left (is_well made x) (list_all (is_well made) vs) well) (well_part made us vs part (and_right (is_well made x) (list_all (is_well made) vs) well))
well_part made xs ys (left_out y us vs part) well = well_part made xs vs part (and_right (is_well made y) (list_all (is_well made) vs) well)

-- ---- values that are known or fail

partly_settled : (found : Result Value Cause) → Settled (partly found)
partly_settled (Ok value) = tt
partly_settled (Err cause) = tt

once_settled : (f : List Value → Result Value Cause) (o : Option (List Value)) → is_some o ≡ true → Settled (once_known f o)
once_settled f None some = absurd cc
once_settled f (Some values) some = partly_settled (f values)

-- what is known, where nothing that is met fails, has a value
once_given : (made : Made) (place : JobPlace) (f : List Value → Result Value Cause) (o : Option (List Value)) → Settled (once_known f o) → AllWell made (fault_at place (once_known f o)) → is_some (given (once_known f o)) ≡ true
once_given made place f None settled well = absurd settled
once_given made place f (Some values) settled well = by (f values) well
  where
    by : (r : Result Value Cause) → AllWell made (fault_at place (partly r)) → is_some (given (partly r)) ≡ true
    by (Ok value) well = refl
    by (Err cause) well = absurd cc

output_given : (made : Made) (place : JobPlace) (inputs : Fields) (env : Env) (links : Links) (sources : Option (List Source)) → Settled (output_from inputs env links sources)
    → AllWell made (fault_at place (output_from inputs env links sources)) → is_some (given (output_from inputs env links sources)) ≡ true
output_given made place inputs env links None settled well = refl
output_given made place inputs env links (Some sources) settled well = once_given made place _ (linked_values inputs env sources) settled well

none_lead : (sources : List Source) → list_any (λ source. leads_to [] source.step) sources ≡ false
none_lead [] = refl
none_lead (s ∷ ss) = ap₂ (λ (a b : Bool). a || b) (none s.step) (none_lead ss)
  where
    none : (step : Option Name) → leads_to [] step ≡ false
    none None = refl
    none (Some id) = refl

none_leads : (sources : Option (List Source)) → some_lead [] sources ≡ false
none_leads None = refl
none_leads (Some sources) = none_lead sources

none_left : (left : List (Name × Step)) → is_some_left left ≡ false → left ≡ []
none_left [] none = refl
none_left (e ∷ es) none = absurd cc

-- a step gives each output that it lists, where none of its inputs waits and all that it meets is well
abbrev pub StepGives : Made → Measures → StepMeaning → StepLevel → Type 0
StepGives made measures one step = (id : Name) (place : JobPlace) (inputs : Fields) (env : Env) → AllSettled (entries_of measures step.inputs inputs env)
    → AllWell made (one id place inputs env).met → AreGiven step.outputs (one id place inputs env).outs

-- ---- the steps of one workflow

module _ (made : Made) (measures : Measures) (F : Step → StepMeaning) (workflow : WorkflowLevel) (place : JobPlace) (inputs : Fields) where
  abbrev steps : List (Name × Step)
  steps = workflow.steps

  abbrev met_of : Env → List (Name × Step) → List Met
  met_of env some = flat_map (λ s. (step_walk place inputs env s).met) (map_values F some)

  abbrev outs_of : Env → List (Name × Step) → Env
  outs_of env some = map (λ s. (s.0, (step_walk place inputs env s).outs)) (map_values F some)

  abbrev env_at : ℕ → Env
  env_at n = env_after n (map_values F steps) place inputs

  abbrev IsKnown : Env → Name × Step → Type 0
  IsKnown env e = (name : Name) → IsAmong name (out-Step e.1).outputs → is_some (out_under name (value_at e.0 env)) ≡ true

  -- all steps but these are known
  abbrev Ready : Env → List (Name × Step) → Type 0
  Ready env left = (e : Name × Step) → IsIn e steps → (IsIn e left → ⊥) → IsKnown env e

  -- ---- sources, where all steps but these are known

  module _ (env : Env) (left : List (Name × Step)) (ready : Ready env left) where
    from_known : (step : Option Name) (name : Name) → is_at step name workflow.inputs steps ≡ true → leads_to left step ≡ false → is_some (value_from step name inputs env) ≡ true
    from_known None name there free = refl
    from_known (Some id) name there free =
        let at : Leads id name steps = leads id name steps there in
        subst (λ (other : Name). is_some (out_under name (value_at other env)) ≡ true) (sym at.2) (ready at.0 at.1 (λ here. not_left id left at.0 free at.2 here) name at.3)

    all_known : (sources : List Source) → AreThere workflow (Some sources) → list_any (λ source. leads_to left source.step) sources ≡ false → is_some (linked_values inputs env sources) ≡ true
    all_known [] there free = refl
    all_known (s ∷ ss) there free =
        first_some (source_value inputs env s) (linked_values inputs env ss)
        (from_known s.step s.name there.0 (neither_one (leads_to left s.step) (list_any (λ source. leads_to left source.step) ss) free))
        (all_known ss there.1 (neither_other (leads_to left s.step) (list_any (λ source. leads_to left source.step) ss) free))

    links_known : (sources : Option (List Source)) → AreThere workflow sources → some_lead left sources ≡ false → is_some (linked_values inputs env (unwrap_or sources [])) ≡ true
    links_known None there free = refl
    links_known (Some sources) there free = all_known sources there free

    entries_settle : (entries : List (Name × StepInput)) → Each (λ e. AreThere workflow e.1.links.sources) entries → waits_on left entries ≡ false → AllSettled (entries_of measures entries inputs env)
    entries_settle [] there free = tt
    entries_settle (e ∷ es) there free = (
      once_settled _ (linked_values inputs env (unwrap_or e.1.links.sources [])) (links_known e.1.links.sources there.0 (neither_one (some_lead left e.1.links.sources) (waits_on left es) free)),
      entries_settle es there.1 (neither_other (some_lead left e.1.links.sources) (waits_on left es) free),
    )

    output_settles : (links : Links) (sources : Option (List Source)) → AreThere workflow sources → some_lead left sources ≡ false → Settled (output_from inputs env links sources)
    output_settles links None there free = tt
    output_settles links (Some sources) there free = once_settled _ (linked_values inputs env sources) (all_known sources there free)

  outputs_given : (env : Env) → Ready env [] → (outputs : List (Name × WorkflowOutput)) → Each (λ e. AreThere workflow e.1.links.sources) outputs
      → AllWell made (flat_map (λ o. fault_at place (output_value inputs env o.1.links)) outputs) → AllByRecursion (λ (o : Name × WorkflowOutput). is_some (given (output_value inputs env o.1.links)) ≡ true) outputs
  outputs_given env ready [] there well = tt
  outputs_given env ready (o ∷ os) there well =
      let faults : List Met = fault_at place (output_value inputs env o.1.links) in
      let later : List Met = flat_map (λ o. fault_at place (output_value inputs env o.1.links)) os in (
        output_given made place inputs env o.1.links o.1.links.sources (output_settles env [] ready o.1.links o.1.links.sources there.0 (none_leads o.1.links.sources)) (well_left made faults later well),
        outputs_given env ready os there.1 (well_right made faults later well),
      )

  well_at : (env : Env) (some : List (Name × Step)) → AllWell made (met_of env some) → (e : Name × Step) → IsIn e some → AllWell made (F e.1 e.0 place inputs env).met
  well_at env [] well e at = absurd at
  well_at env (x ∷ xs) well e (inl here) =
      subst (λ (s : Name × Step). AllWell made (F s.1 s.0 place inputs env).met) (sym here) (well_left made (F x.1 x.0 place inputs env).met (met_of env xs) well)
  well_at env (x ∷ xs) well e (inr later) = well_at env xs (well_right made (F x.1 x.0 place inputs env).met (met_of env xs) well) e later

  -- ---- round by round

  abbrev no_job : Job → Type 0
  no_job job = ⊥

  module _ (rise : AllByRecursion (λ (e : Name × Step). StepRises (F e.1)) steps) (gives : AllByRecursion (λ (e : Name × Step). StepGives made measures (F e.1) (out-Step e.1)) steps)
      (sound : Each (λ e. IsSoundStep workflow e.1) steps) (apart : differ (ids_of steps) ≡ true) where
    abbrev IsWellAt : ℕ → Type 0
    IsWellAt n = AllWell made (met_of (env_at n) steps)

    rises : (n : ℕ) → EnvGrows (env_at n) (env_at (suc n))
    rises n = round_rises no_job F F place inputs steps rise n

    well_before : (n : ℕ) → IsWellAt (suc n) → IsWellAt n
    well_before n well = well_part made (met_of (env_at n) steps) (met_of (env_at (suc n)) steps) (met_rises no_job F F place inputs (env_at n) (env_at (suc n)) (rises n) steps rise) well

    well_down : (n m k : ℕ) → k ≡ m + n → IsWellAt k → IsWellAt m
    well_down zero m k is well = let same : k ≡ m = omega (is, arith) in subst IsWellAt same well
    well_down (suc n) m k is well = let next : k ≡ suc m + n = omega (is, arith) in well_before m (well_down n (suc m) k next well)

    -- a step that waits for none that is left gives its outputs in the next round
    gives_next : (n : ℕ) (left : List (Name × Step)) → Ready (env_at n) left → IsWellAt n → (e : Name × Step) → IsIn e steps → waits_for left e ≡ false → IsKnown (env_at (suc n)) e
    gives_next n left ready well e at free =
        let step : IsSoundStep workflow e.1 = each_in (λ (e : Name × Step). IsSoundStep workflow e.1) steps sound e at in
        let outs : AreGiven (out-Step e.1).outputs (F e.1 e.0 place inputs (env_at n)).outs =
        all_in (λ (e : Name × Step). StepGives made measures (F e.1) (out-Step e.1)) steps gives e at e.0 place inputs (env_at n)
        (entries_settle (env_at n) left ready (out-Step e.1).inputs step.sources free) (well_at (env_at n) steps well e at) in
        λ name among. subst (λ (found : Option Outs). is_some (out_under name found) ≡ true) (sym (put_at made measures F workflow place inputs (env_at n) [] steps apart e at)) (outs name among)

    one_round : (n : ℕ) (left : List (Name × Step)) → Ready (env_at n) left → IsWellAt n → Ready (env_at (suc n)) (still_waiting left)
    one_round n left ready well e at out = by (waits_for left e) refl
      where
        by : (b : Bool) → waits_for left e ≡ b → IsKnown (env_at (suc n)) e
        by true is = λ name among. some_stays (out_under name (value_at e.0 (env_at n))) (out_under name (value_at e.0 (env_at (suc n)))) (rises n e.0 name) (ready e at (λ here. out (passes (waits_for left) e left is here)) name among)
        by false is = gives_next n left ready well e at is

    all_rounds : (n m k : ℕ) (left : List (Name × Step)) → k ≡ m + n → IsWellAt k → Ready (env_at m) left → Ready (env_at k) (left_after n left)
    all_rounds zero m k left is well ready = let same : m ≡ k = omega (is, arith) in subst (λ (n : ℕ). Ready (env_at n) left) same ready
    all_rounds (suc n) m k left is well ready =
        let next : k ≡ suc m + n = omega (is, arith) in
        all_rounds n (suc m) k (still_waiting left) next well (one_round m left ready (well_down (suc n) m k is well))

    -- after as many rounds as there are steps all are known, where none waits for itself
    pub all_ready : is_cyclic steps ≡ false → (n : ℕ) → n ≡ length steps → IsWellAt n → Ready (env_at n) []
    all_ready none n is well =
        let same : n ≡ 0 + length steps = omega (is, arith) in
        subst (Ready (env_at n)) (none_left (left_after (length steps) steps) none) (all_rounds (length steps) 0 n steps same well (λ e at out. absurd (out at)))

-- ---- a workflow gives each of its outputs

module _ (made : Made) (measures : Measures) (F : Step → StepMeaning) (workflow : WorkflowLevel) (sound : IsSound workflow) (none : is_cyclic workflow.steps ≡ false)
    (apart : differ (ids_of workflow.steps) ≡ true) (rise : AllByRecursion (λ (e : Name × Step). StepRises (F e.1)) workflow.steps)
    (gives : AllByRecursion (λ (e : Name × Step). StepGives made measures (F e.1) (out-Step e.1)) workflow.steps) where
  abbrev pub last_env : JobPlace → Fields → Env
  last_env place inputs = env_after (length (map_values F workflow.steps)) (map_values F workflow.steps) place inputs

  pub workflow_gives : (place : JobPlace) (inputs : Fields) → AllWell made (workflow_at (workflow_of workflow (map_values F workflow.steps)) place (Ok inputs)).met
      → AllByRecursion (λ (o : Name × WorkflowOutput). is_some (given (output_value inputs (last_env place inputs) o.1.links)) ≡ true) workflow.outputs
  workflow_gives place inputs well =
      let env : Env = last_env place inputs in
      let met : List Met = flat_map (λ s. (step_walk place inputs env s).met) (map_values F workflow.steps) in
      let faults : List Met = flat_map (λ o. fault_at place (output_value inputs env o.1.links)) workflow.outputs in
      outputs_given made measures F workflow place inputs env
      (all_ready made measures F workflow place inputs rise gives sound.steps apart none (length (map_values F workflow.steps)) (length_values F workflow.steps) (well_left made met faults well))
      workflow.outputs sound.outputs (well_right made met faults well)
