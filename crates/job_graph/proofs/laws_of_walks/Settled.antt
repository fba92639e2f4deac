-- Steps that are walked once each, when none of their inputs waits, give what the rounds give.
use Rattle.std.proofs.Common.{◌≡◌, ◌∙◌, inl, inr, ℕ, zero, suc, ◌+◌, ◌-◌, ◌<◌, ◌≤◌, List, [], ◌∷◌, ◌++◌, map, length, replicate, set, Bool, true, false, cond, not, Option, Some, None, unwrap_or, bytes_eq, get_or, fold, refl, sym, ap, ap₂, subst, subst₂, arith}
use Rattle.std.specs.Prelude.{◌&&◌, ◌||◌, is_some}
use Rattle.std.specs.List.{flat_map, list_all, list_any}
use Rattle.std.specs.Map.{keys_of}
use Rattle.std.proofs.lemmas.Slice.Eq.{bytes_eq-Decides}
use Rattle.cwl_value.specs.declared.value.Value.{Value}
use Rattle.cwl_process.specs.declared.links.Links.{Links}
use Rattle.cwl_process.specs.declared.links.Source.{Source}
use Rattle.cwl_process.specs.declared.workflow.StepInput.{StepInput}
use Rattle.cwl_process.specs.declared.workflow.WorkflowOutput.{WorkflowOutput}
use Rattle.document_links.specs.declared.process.Process.TheViews.{roll-out-Step}
use Rattle.document_links.specs.declared.process.Step.{Step, out-Step}
use Rattle.input_files.specs.Measured.{Measures}
use Rattle.link_values.specs.Merged.{merged}
use Rattle.link_values.specs.Picked.{picked}
use Rattle.link_values.specs.StepInputs.{step_input}
use Rattle.plain_data.specs.ByName.{value_at, with_value, map_values}
use Rattle.plain_data.proofs.Lookup.{value_at-with_value}
use Rattle.job_graph.specs.inner.Elements.{IsIn}
use Rattle.job_graph.specs.declared.made.Facts.{Facts}
use Rattle.job_graph.specs.declared.partly.Partly.{Partly}
use Rattle.job_graph.specs.declared.partly.Partly.TheVariants.{Waits}
use Rattle.job_graph.specs.Apart.{differ}
use Rattle.job_graph.specs.Words.{Name, Fields, JobPlace, put_from}
use Rattle.job_graph.specs.Jobs.{Job, Made, Met, Outs, Walk, unknown, with_first}
use Rattle.job_graph.specs.Links.{Env, entry_value, given, linked_values, out_under, output_from, output_value, measured, once_known, by_link, source_value, value_from, with_entry}
use Rattle.job_graph.specs.Equations.{StepMeaning, StepOf, entered, env_after, fault_at, meaning_of, step_at, step_meaning_of, step_place, step_walk, workflow_walk}
use Rattle.job_graph.specs.More.{Stays}
use Rattle.job_graph.specs.inner.Levels.{steps_of}
use Rattle.job_graph.specs.inner.Rounds.{AllMeet, EnvGrows, Holds, Keeps, MeetsBy, SaysSame, StandsBy, WasReady, are_known, count, is_known, is_ready, is_stuck, is_there, one_if, walk_at}
use Rattle.job_graph.specs.declared.walk.Met.{Met as KeptMet}
use Rattle.job_graph.specs.inner.Views.{made_from, met_of}
use Rattle.job_graph.proofs.laws_of_walks.Processes.{step_of, step_level}
use Rattle.job_graph.proofs.laws_of_walks.Part.{and_left, and_right, is_there as there_later, neither_one, neither_other, stays_both, stays_itself, stays_on}
use Rattle.job_graph.proofs.laws_of_walks.Places.{same_ids}
use Rattle.job_graph.proofs.laws_of_walks.Steps.{entries_of, faults_in, linked_stays, none_given, unknown_under}
use Rattle.job_graph.proofs.laws_of_walks.Rounds.{round_rises}
use Rattle.job_graph.proofs.laws_of_walks.Grown.{step_rises, steps_rise}
use Rattle.job_graph.proofs.laws_of_walks.PutOuts.{not_true, put_at}

-- ---- steps by their ids

has_id : (s t : Name × Step) (steps : List (Name × Step)) → bytes_eq s.0 t.0 ≡ true → IsIn t steps → list_any (bytes_eq s.0) (keys_of steps) ≡ true
has_id s t [] same at = absurd at
has_id s t (u ∷ us) same (inl here) = ap (λ (b : Bool). b || list_any (bytes_eq s.0) (keys_of us)) (subst (λ (v : Name × Step). bytes_eq s.0 v.0 ≡ true) here same)
has_id s t (u ∷ us) same (inr later) = by (bytes_eq s.0 u.0) (has_id s t us same later)
  where
    by : (b : Bool) → list_any (bytes_eq s.0) (keys_of us) ≡ true → (b || list_any (bytes_eq s.0) (keys_of us)) ≡ true
    by true is = refl
    by false is = is

none_of : (b : Bool) → not b ≡ true → b ≡ true → ⊥
none_of true one other = absurd cc
none_of false one other = absurd cc

-- two steps of one id are one step
pub one_step : (s t : Name × Step) (steps : List (Name × Step)) → differ (keys_of steps) ≡ true → IsIn s steps → IsIn t steps → bytes_eq s.0 t.0 ≡ true → s ≡ t
one_step s t [] apart at there same = absurd at
one_step s t (u ∷ us) apart (inl here) (inl there) same = here ∙ sym there
one_step s t (u ∷ us) apart (inl here) (inr there) same =
    absurd (none_of (list_any (bytes_eq u.0) (keys_of us)) (and_left (not (list_any (bytes_eq u.0) (keys_of us))) (differ (keys_of us)) apart)
    (has_id u t us (subst (λ (v : Name × Step). bytes_eq v.0 t.0 ≡ true) here same) there))
one_step s t (u ∷ us) apart (inr at) (inl there) same =
    let ids : t.0 ≡ s.0 = sym ((bytes_eq-Decides s.0 t.0).0 same) in
    absurd (none_of (list_any (bytes_eq u.0) (keys_of us)) (and_left (not (list_any (bytes_eq u.0) (keys_of us))) (differ (keys_of us)) apart)
    (has_id u s us ((bytes_eq-Decides u.0 s.0).1 (ap (λ (v : Name × Step). v.0) (sym there) ∙ ids)) at))
one_step s t (u ∷ us) apart (inr at) (inr there) same = one_step s t us (and_right (not (list_any (bytes_eq u.0) (keys_of us))) (differ (keys_of us)) apart) at there same

pub is_element : (steps : List (Name × Step)) (i : ℕ) (s : Name × Step) → i < length steps → s ≡ get_or steps i s → IsIn s steps
is_element [] i s below is = absurd (omega (arith, below))
is_element (t ∷ ts) zero s below is = inl is
is_element (t ∷ ts) (suc i) s below is = let less : i < length ts = omega (arith, below) in inr (is_element ts i s less is)

pub each_of : {X : Type 0} (p : X → Bool) (xs : List X) → list_all p xs ≡ true → (x : X) → IsIn x xs → p x ≡ true
each_of p [] all x at = absurd at
each_of p (y ∷ ys) all x (inl here) = ap p here ∙ and_left (p y) (list_all p ys) all
each_of p (y ∷ ys) all x (inr later) = each_of p ys (and_right (p y) (list_all p ys) all) x later

-- ---- how many have their outputs there

pub count_within : (env : Env) (steps : List (Name × Step)) → count env steps ≤ length steps
count_within env [] = omega arith
count_within env (s ∷ ss) = by (value_at s.0 env) (count_within env ss)
  where
    by : (found : Option Outs) → count env ss ≤ length ss → one_if found + count env ss ≤ suc (length ss)
    by None few = omega (arith, few)
    by (Some outs) few = omega (arith, few)

no_fewer : (b : Bool) (outs : Outs) (found : Option Outs) → one_if found ≤ one_if (cond b (Some outs) found)
no_fewer true outs None = omega arith
no_fewer true outs (Some other) = omega arith
no_fewer false outs found = omega arith

found_with : (id : Name) (outs : Outs) (env : Env) (s : Name × Step) → value_at s.0 (with_value id outs env) ≡ cond (bytes_eq s.0 id) (Some outs) (value_at s.0 env)
found_with id outs env s = value_at-with_value s.0 id outs env

pub count_keeps : (id : Name) (outs : Outs) (env : Env) (steps : List (Name × Step)) → count env steps ≤ count (with_value id outs env) steps
count_keeps id outs env [] = omega arith
count_keeps id outs env (s ∷ ss) =
    let here : one_if (value_at s.0 env) ≤ one_if (value_at s.0 (with_value id outs env)) =
    subst (λ (found : Option Outs). one_if (value_at s.0 env) ≤ one_if found) (sym (found_with id outs env s)) (no_fewer (bytes_eq s.0 id) outs (value_at s.0 env)) in
    omega (arith, here, count_keeps id outs env ss)

pub count_grows : (t : Name × Step) (outs : Outs) (env : Env) (steps : List (Name × Step)) → value_at t.0 env ≡ None → IsIn t steps
    → count env steps < count (with_value t.0 outs env) steps
count_grows t outs env [] none at = absurd at
count_grows t outs env (s ∷ ss) none (inl here) =
    let same : bytes_eq s.0 t.0 ≡ true = (bytes_eq-Decides s.0 t.0).1 (ap (λ (u : Name × Step). u.0) (sym here)) in
    let before : one_if (value_at s.0 env) ≡ 0 = ap one_if (subst (λ (u : Name × Step). value_at u.0 env ≡ None) here none) in
    let after : one_if (value_at s.0 (with_value t.0 outs env)) ≡ 1 = ap one_if (found_with t.0 outs env s ∙ ap (λ (b : Bool). cond b (Some outs) (value_at s.0 env)) same) in
    omega (arith, before, after, count_keeps t.0 outs env ss)
count_grows t outs env (s ∷ ss) none (inr later) =
    let here : one_if (value_at s.0 env) ≤ one_if (value_at s.0 (with_value t.0 outs env)) =
    subst (λ (found : Option Outs). one_if (value_at s.0 env) ≤ one_if found) (sym (found_with t.0 outs env s)) (no_fewer (bytes_eq s.0 t.0) outs (value_at s.0 env)) in
    omega (arith, here, count_grows t outs env ss none later)

-- ---- a step's walk rests on the values of its inputs

module _ (measures : Measures) (made : Made) (place : JobPlace) (inputs : Fields) where
  abbrev at_entries : Name × Step → List (Name × Partly) → Walk
  at_entries s entries = step_at (step_of (out-Step s.1) (meaning_of measures made (out-Step s.1).process)) s.0 place entries

  abbrev walk : Env → Name × Step → Walk
  walk env s = step_meaning_of measures made s.1 s.0 place inputs env

  walk_is : (env : Env) (s : Name × Step) → walk env s ≡ at_entries s (entries_of measures (out-Step s.1).inputs inputs env)
  walk_is env s =
      ap (λ (one : Step). step_meaning_of measures made one s.0 place inputs env) (sym (roll-out-Step s.1))
      ∙ ap (λ (m : Name → JobPlace → Fields → Env → Walk). m s.0 place inputs env) (step_level measures made (out-Step s.1))

  pub walk_by : (env later : Env) (s : Name × Step) → entries_of measures (out-Step s.1).inputs inputs env ≡ entries_of measures (out-Step s.1).inputs inputs later → walk env s ≡ walk later s
  walk_by env later s same = walk_is env s ∙ ap (at_entries s) same ∙ sym (walk_is later s)

  -- ---- where none of its inputs waits, more changes nothing

  known_is : (env : Env) (source : Source) → is_known env source ≡ is_some (source_value inputs env source)
  known_is env source = by source.step
    where
      by : (step : Option Name) → is_there env step source.name ≡ is_some (value_from step source.name inputs env)
      by None = refl
      by (Some step) = refl

  both_some : {T : Type 0} (one : Option T) (rest : Option (List T)) → is_some (with_first one rest) ≡ (is_some one && is_some rest)
  both_some None None = refl
  both_some None (Some vs) = refl
  both_some (Some v) None = refl
  both_some (Some v) (Some vs) = refl

  linked_known : (env : Env) (sources : List Source) → is_some (linked_values inputs env sources) ≡ are_known env sources
  linked_known env [] = refl
  linked_known env (s ∷ ss) =
      both_some (source_value inputs env s) (linked_values inputs env ss) ∙ ap₂ (λ (a b : Bool). a && b) (sym (known_is env s)) (linked_known env ss)

  abbrev entry_from : StepInput → Option (List Value) → Partly
  entry_from input found = once_known (λ values. by_link (step_input (measured measures input) (merged input.links.merge values))) found

  abbrev sources_in : StepInput → List Source
  sources_in input = unwrap_or input.links.sources []

  abbrev are_ready : Env → List (Name × StepInput) → Bool
  are_ready env ins = list_all (λ i. are_known env (sources_in i.1)) ins

  module _ (env later : Env) (grows : EnvGrows env later) where
    linked_later : (sources : List Source) → are_known env sources ≡ true
        → (linked_values inputs env sources ≡ linked_values inputs later sources) × (is_some (linked_values inputs later sources) ≡ true)
    linked_later sources known =
        there_later (linked_values inputs env sources) (linked_values inputs later sources) (linked_known env sources ∙ known) (linked_stays inputs env later grows sources)

    entries_stay : (ins : List (Name × StepInput)) → are_ready env ins ≡ true → entries_of measures ins inputs env ≡ entries_of measures ins inputs later
    entries_stay [] ready = refl
    entries_stay (i ∷ is) ready =
        ap₂ (λ (p : Partly) (rest : List (Name × Partly)). (i.0, p) ∷ rest)
        (ap (entry_from i.1) (linked_later (sources_in i.1) (and_left (are_known env (sources_in i.1)) (are_ready env is) ready)).0)
        (entries_stay is (and_right (are_known env (sources_in i.1)) (are_ready env is) ready))

    still_ready : (ins : List (Name × StepInput)) → are_ready env ins ≡ true → are_ready later ins ≡ true
    still_ready [] ready = refl
    still_ready (i ∷ is) ready =
        ap₂ (λ (a b : Bool). a && b)
        (sym (linked_known later (sources_in i.1)) ∙ (linked_later (sources_in i.1) (and_left (are_known env (sources_in i.1)) (are_ready env is) ready)).1)
        (still_ready is (and_right (are_known env (sources_in i.1)) (are_ready env is) ready))

    pub ready_stays : (s : Name × Step) → is_ready env s.1 ≡ true → is_ready later s.1 ≡ true
    ready_stays s ready = still_ready (out-Step s.1).inputs ready

    pub walk_stays : (s : Name × Step) → is_ready env s.1 ≡ true → walk env s ≡ walk later s
    walk_stays s ready = walk_by env later s (entries_stay (out-Step s.1).inputs ready)

  -- ---- where one of its inputs waits, none of its outputs is known

  pub no_value : {T : Type 0} (o : Option T) → is_some o ≡ false → o ≡ None
  no_value None none = refl
  no_value (Some v) none = absurd cc

  with_waiting : (o : Option Fields) (name : Name) (p : Partly) → p ≡ Waits → with_entry o (name, p) ≡ None
  with_waiting None name p waits = refl
  with_waiting (Some fields) name p waits = ap (λ (q : Partly). with_entry (Some fields) (name, q)) waits

  none_together : (env : Env) (ins : List (Name × StepInput)) (o : Option Fields) → are_ready env ins ≡ false → fold with_entry o (entries_of measures ins inputs env) ≡ None
  none_together env [] o waits = absurd cc
  none_together env (i ∷ is) o waits = by (are_known env (sources_in i.1)) refl waits (λ next rest. none_together env is next rest)
    where
      by : (b : Bool) → are_known env (sources_in i.1) ≡ b → (b && are_ready env is) ≡ false
          → ((next : Option Fields) → are_ready env is ≡ false → fold with_entry next (entries_of measures is inputs env) ≡ None)
          → fold with_entry o (entries_of measures (i ∷ is) inputs env) ≡ None
      by true known rest others = others (with_entry o (i.0, entry_value measures inputs env i.1)) rest
      by false unknown_one rest others =
          let none : linked_values inputs env (sources_in i.1) ≡ None = no_value (linked_values inputs env (sources_in i.1)) (linked_known env (sources_in i.1) ∙ unknown_one) in
          ap (λ (now : Option Fields). fold with_entry now (entries_of measures is inputs env))
          (with_waiting o i.0 (entry_value measures inputs env i.1) (ap (entry_from i.1) none))
          ∙ none_given (entries_of measures is inputs env)

  -- it meets the inputs that fail, whatever its process means
  pub waits_walk : (env : Env) (s : Name × Step) → is_ready env s.1 ≡ false
      → walk env s ≡ record { met = faults_in (step_place place s.0 []) (entries_of measures (out-Step s.1).inputs inputs env); outs = unknown (out-Step s.1).outputs }
  waits_walk env s waits =
      let one : StepOf = step_of (out-Step s.1) (meaning_of measures made (out-Step s.1).process) in
      let entries : List (Name × Partly) = entries_of measures (out-Step s.1).inputs inputs env in
      walk_is env s
      ∙ ap (λ (o : Option Fields). entered one s.0 place (faults_in (step_place place s.0 []) entries) o) (none_together env (out-Step s.1).inputs (Some []) waits)

  waits_unknown : (env : Env) (s : Name × Step) (name : Name) → is_ready env s.1 ≡ false → out_under name (Some (walk env s).outs) ≡ None
  waits_unknown env s name waits =
      let one : StepOf = step_of (out-Step s.1) (meaning_of measures made (out-Step s.1).process) in
      let entries : List (Name × Partly) = entries_of measures (out-Step s.1).inputs inputs env in
      ap (λ (w : Walk). out_under name (Some w.outs)) (walk_is env s)
      ∙ ap (λ (o : Option Fields). out_under name (Some (entered one s.0 place (faults_in (step_place place s.0 []) entries) o).outs)) (none_together env (out-Step s.1).inputs (Some []) waits)
      ∙ unknown_under name (out-Step s.1).outputs

  -- ---- where the same is known

  module _ (env one : Env) (same : SaysSame one env) where
    source_alike : (source : Source) → source_value inputs env source ≡ source_value inputs one source
    source_alike source = by source.step
      where
        by : (step : Option Name) → value_from step source.name inputs env ≡ value_from step source.name inputs one
        by None = refl
        by (Some step) = same step source.name

    linked_alike : (sources : List Source) → linked_values inputs env sources ≡ linked_values inputs one sources
    linked_alike [] = refl
    linked_alike (s ∷ ss) = ap₂ (λ (v : Option Value) (rest : Option (List Value)). with_first v rest) (source_alike s) (linked_alike ss)

    entries_alike : (ins : List (Name × StepInput)) → entries_of measures ins inputs env ≡ entries_of measures ins inputs one
    entries_alike [] = refl
    entries_alike (i ∷ is) =
        ap₂ (λ (p : Partly) (rest : List (Name × Partly)). (i.0, p) ∷ rest) (ap (entry_from i.1) (linked_alike (sources_in i.1))) (entries_alike is)

    output_alike : (links : Links) → output_value inputs env links ≡ output_value inputs one links
    output_alike links = by links.sources
      where
        by : (sources : Option (List Source)) → output_from inputs env links sources ≡ output_from inputs one links sources
        by None = refl
        by (Some sources) = ap (once_known (λ values. by_link (picked links.pick (merged links.merge values)))) (linked_alike sources)

    abbrev met_by : Env → List (Name × Step) → List Met
    met_by known some = flat_map (λ s. (step_walk place inputs known s).met) (map_values (step_meaning_of measures made) some)

    met_alike : (some : List (Name × Step)) → met_by env some ≡ met_by one some
    met_alike [] = refl
    met_alike (s ∷ ss) = ap₂ (λ (w : Walk) (rest : List Met). w.met ++ rest) (walk_by env one s (entries_alike (out-Step s.1).inputs)) (met_alike ss)

    abbrev faults_by : Env → List (Name × WorkflowOutput) → List Met
    faults_by known outputs = flat_map (λ o. fault_at place (output_value inputs known o.1.links)) outputs

    faults_alike : (outputs : List (Name × WorkflowOutput)) → faults_by env outputs ≡ faults_by one outputs
    faults_alike [] = refl
    faults_alike (o ∷ os) = ap₂ (λ (p : Partly) (rest : List Met). fault_at place p ++ rest) (output_alike o.1.links) (faults_alike os)

    abbrev outs_by_links : Env → List (Name × WorkflowOutput) → Outs
    outs_by_links known outputs = map {B = Name × Option Value} (λ o. (o.0, given (output_value inputs known o.1.links))) outputs

    outs_alike : (outputs : List (Name × WorkflowOutput)) → outs_by_links env outputs ≡ outs_by_links one outputs
    outs_alike [] = refl
    outs_alike (o ∷ os) = ap₂ (λ (p : Partly) (rest : Outs). (o.0, given p) ∷ rest) (output_alike o.1.links) (outs_alike os)

    -- the walk of a workflow is the same
    pub walks_alike : (outputs : List (Name × WorkflowOutput)) (steps : List (Name × Step)) →
        workflow_walk (record { inputs = []; outputs = outputs; steps = map_values (step_meaning_of measures made) steps }) place inputs env
        ≡ workflow_walk (record { inputs = []; outputs = outputs; steps = map_values (step_meaning_of measures made) steps }) place inputs one
    walks_alike outputs steps =
        ap₂ (λ (m : List Met) (o : Outs). record { met = m; outs = o }) (ap₂ (λ (a b : List Met). a ++ b) (met_alike steps) (faults_alike outputs)) (outs_alike outputs)

-- ---- what is kept while steps are walked

module _ (facts : Facts) (place : JobPlace) (inputs : Fields) (steps : List (Name × Step)) where
  abbrev F : Step → StepMeaning
  F = step_meaning_of facts.measures (made_from facts)

  abbrev E : ℕ → Env
  E n = env_after n (steps_of facts steps) place inputs

  abbrev at : Env → Name × Step → Walk
  at env s = walk_at facts place inputs env s

  abbrev no_job : Job → Type 0
  no_job job = ⊥

  pub grows_on : (a b c : Env) → EnvGrows a b → EnvGrows b c → EnvGrows a c
  grows_on a b c one other = λ step name.
      stays_on (out_under name (value_at step a)) (out_under name (value_at step b)) (out_under name (value_at step c)) (one step name) (other step name)

  rises : (n : ℕ) → EnvGrows (E n) (E (suc n))
  rises n = round_rises no_job F F place inputs steps (steps_rise facts.measures (made_from facts) steps) n

  up_by : (d n m : ℕ) → m ≡ n + d → EnvGrows (E n) (E m)
  up_by zero n m is =
      let same : n ≡ m = omega (arith, is) in
      subst (λ (k : ℕ). EnvGrows (E n) (E k)) same (λ step name. stays_itself (out_under name (value_at step (E n))))
  up_by (suc d) n m is =
      let next : m ≡ suc n + d = omega (arith, is) in
      grows_on (E n) (E (suc n)) (E m) (rises n) (up_by d (suc n) m next)

  pub up_to : (n m : ℕ) → n ≤ m → EnvGrows (E n) (E m)
  up_to n m less = let is : m ≡ n + (m - n) = omega (arith, less) in up_by (m - n) n m is

  pub none_meet : (env : Env) (some : List (Name × Step)) → AllMeet facts place inputs env some (replicate (length some) None)
  none_meet env [] = tt
  none_meet env (s ∷ ss) = (tt, none_meet env ss)

  -- before any step is walked
  pub nothing_held : (kept : List (Option (List KeptMet))) → kept ≡ replicate (length steps) None → Holds facts place inputs steps [] kept
  nothing_held kept is = record {
    keeps = record { stands = λ s at. tt; below = λ step name. tt; early = λ s at. tt };
    met = subst (AllMeet facts place inputs [] steps) (sym is) (none_meet [] steps);
  }

  pub meets_on : (env later : Env) → EnvGrows env later → (s : Name × Step) (met : Option (List KeptMet)) → MeetsBy facts place inputs env s met → MeetsBy facts place inputs later s met
  meets_on env later grows s None meets = tt
  meets_on env later grows s (Some met) meets = (
    ready_stays facts.measures (made_from facts) place inputs env later grows s meets.0,
    meets.1 ∙ ap (λ (w : Walk). w.met) (walk_stays facts.measures (made_from facts) place inputs env later grows s meets.0),
  )

  pub all_on : (env later : Env) → EnvGrows env later → (some : List (Name × Step)) (kept : List (Option (List KeptMet))) → AllMeet facts place inputs env some kept → AllMeet facts place inputs later some kept
  all_on env later grows [] [] all = tt
  all_on env later grows [] (met ∷ kept) all = absurd all
  all_on env later grows (s ∷ ss) [] all = absurd all
  all_on env later grows (s ∷ ss) (met ∷ kept) all = (meets_on env later grows s met all.0, all_on env later grows ss kept all.1)

  pub all_set : (env : Env) (some : List (Name × Step)) (kept : List (Option (List KeptMet))) (i : ℕ) (t : Name × Step) (met : Option (List KeptMet)) → i < length some → t ≡ get_or some i t
      → MeetsBy facts place inputs env t met → AllMeet facts place inputs env some kept → AllMeet facts place inputs env some (set kept i met)
  all_set env [] kept i t met below is meets all = absurd (omega (arith, below))
  all_set env (s ∷ ss) [] i t met below is meets all = absurd all
  all_set env (s ∷ ss) (k ∷ ks) zero t met below is meets all = (subst (λ (u : Name × Step). MeetsBy facts place inputs env u met) is meets, all.1)
  all_set env (s ∷ ss) (k ∷ ks) (suc i) t met below is meets all = let less : i < length ss = omega (arith, below) in (all.0, all_set env ss ks i t met less is meets all.1)

  -- as many as there are steps
  pub as_many : (env : Env) (some : List (Name × Step)) (kept : List (Option (List KeptMet))) → AllMeet facts place inputs env some kept → length kept ≡ length some
  as_many env [] [] all = refl
  as_many env [] (met ∷ kept) all = absurd all
  as_many env (s ∷ ss) [] all = absurd all
  as_many env (s ∷ ss) (met ∷ kept) all = ap suc (as_many env ss kept all.1)

  pub keeps : (env later : Env) → EnvGrows env later → (s : Name × Step) (found : Option Outs) → StandsBy facts place inputs env s found → StandsBy facts place inputs later s found
  keeps env later grows s None stands = tt
  keeps env later grows s (Some outs) stands = (
    ready_stays facts.measures (made_from facts) place inputs env later grows s stands.0,
    stands.1 ∙ ap (λ (w : Walk). w.outs) (walk_stays facts.measures (made_from facts) place inputs env later grows s stands.0),
  )

  not_false : (b : Bool) → not b ≡ false → b ≡ true
  not_false true is = refl
  not_false false is = absurd cc

  module _ (apart : differ (keys_of steps) ≡ true) (env : Env) (kept : List (Option (List KeptMet))) (i : ℕ) (t : Name × Step) (inside : i < length steps) (here_is : t ≡ get_or steps i t)
      (free : is_stuck env t ≡ false) (holds : Holds facts place inputs steps env kept) where
    there : IsIn t steps
    there = is_element steps i t inside here_is

    abbrev outs : Outs
    outs = (at env t).outs

    abbrev later : Env
    later = with_value t.0 outs env

    none : value_at t.0 env ≡ None
    none = no_value facts.measures (made_from facts) place inputs (value_at t.0 env) (neither_one (is_some (value_at t.0 env)) (not (is_ready env t.1)) free)

    ready : is_ready env t.1 ≡ true
    ready = not_false (is_ready env t.1) (neither_other (is_some (value_at t.0 env)) (not (is_ready env t.1)) free)

    here : (step : Name) → bytes_eq step t.0 ≡ true → value_at step later ≡ Some outs
    here step is = value_at-with_value step t.0 outs env ∙ ap (λ (b : Bool). cond b (Some outs) (value_at step env)) is

    elsewhere : (step : Name) → bytes_eq step t.0 ≡ false → value_at step later ≡ value_at step env
    elsewhere step is = value_at-with_value step t.0 outs env ∙ ap (λ (b : Bool). cond b (Some outs) (value_at step env)) is

    pub grows : EnvGrows env later
    grows = λ step name. by step name (bytes_eq step t.0) refl
      where
        by : (step name : Name) (b : Bool) → bytes_eq step t.0 ≡ b → Stays (out_under name (value_at step env)) (out_under name (value_at step later))
        by step name true is =
            let gone : value_at step env ≡ None = ap (λ (id : Name). value_at id env) ((bytes_eq-Decides step t.0).0 is) ∙ none in
            subst (λ (o : Option Outs). Stays (out_under name o) (out_under name (value_at step later))) (sym gone) tt
        by step name false is =
            subst (λ (o : Option Outs). Stays (out_under name (value_at step env)) (out_under name o)) (sym (elsewhere step is)) (stays_itself (out_under name (value_at step env)))

    stands_then : (s : Name × Step) → IsIn s steps → StandsBy facts place inputs later s (value_at s.0 later)
    stands_then s among = by (bytes_eq s.0 t.0) refl
      where
        by : (b : Bool) → bytes_eq s.0 t.0 ≡ b → StandsBy facts place inputs later s (value_at s.0 later)
        by true is =
            let walked : StandsBy facts place inputs later t (Some outs) = keeps env later grows t (Some outs) (ready, refl) in
            subst (StandsBy facts place inputs later s) (sym (here s.0 is))
            (subst (λ (u : Name × Step). StandsBy facts place inputs later u (Some outs)) (sym (one_step s t steps apart among there is)) walked)
        by false is = subst (StandsBy facts place inputs later s) (sym (elsewhere s.0 is)) (keeps env later grows s (value_at s.0 env) (holds.keeps.stands s among))

    abbrev n : ℕ
    n = count env steps

    in_round : value_at t.0 (E (suc n)) ≡ Some (at (E n) t).outs
    in_round =
        put_at (made_from facts) facts.measures F (record { inputs = []; outputs = []; steps = steps }) place inputs (E n) [] steps (ap differ (sym (same_ids steps)) ∙ apart) t there

    below_next : EnvGrows later (E (suc n))
    below_next = λ step name. by step name (bytes_eq step t.0) refl
      where
        by : (step name : Name) (b : Bool) → bytes_eq step t.0 ≡ b → Stays (out_under name (value_at step later)) (out_under name (value_at step (E (suc n))))
        by step name true is =
            let now : value_at step (E (suc n)) ≡ Some (at (E n) t).outs = ap (λ (id : Name). value_at id (E (suc n))) ((bytes_eq-Decides step t.0).0 is) ∙ in_round in
            let same : Some outs ≡ Some (at (E n) t).outs =
            ap (λ (w : Walk). Some w.outs) (walk_stays facts.measures (made_from facts) place inputs env (E n) holds.keeps.below t ready) in
            subst₂ (λ (a b : Option Outs). Stays (out_under name a) (out_under name b)) (sym (here step is)) (same ∙ sym now) (stays_itself (out_under name (Some outs)))
        by step name false is =
            subst (λ (o : Option Outs). Stays (out_under name o) (out_under name (value_at step (E (suc n))))) (sym (elsewhere step is))
            (stays_on (out_under name (value_at step env)) (out_under name (value_at step (E n))) (out_under name (value_at step (E (suc n)))) (holds.keeps.below step name) (rises n step name))

    more : count env steps < count later steps
    more = count_grows t outs env steps none there

    was_more : (s : Name × Step) (found : Option Outs) → WasReady facts place inputs steps env s found → WasReady facts place inputs steps later s found
    was_more s None was = tt
    was_more s (Some found) was = let below : was.0 < count later steps = omega (arith, was.1, more) in (was.0, below, was.2)

    early_then : (s : Name × Step) → IsIn s steps → WasReady facts place inputs steps later s (value_at s.0 later)
    early_then s among = by (bytes_eq s.0 t.0) refl
      where
        by : (b : Bool) → bytes_eq s.0 t.0 ≡ b → WasReady facts place inputs steps later s (value_at s.0 later)
        by true is =
            let in_time : is_ready (E n) t.1 ≡ true = ready_stays facts.measures (made_from facts) place inputs env (E n) holds.keeps.below t ready in
            subst (WasReady facts place inputs steps later s) (sym (here s.0 is))
            (n, more, subst (λ (u : Name × Step). is_ready (E n) u.1 ≡ true) (sym (one_step s t steps apart among there is)) in_time)
        by false is = subst (WasReady facts place inputs steps later s) (sym (elsewhere s.0 is)) (was_more s (value_at s.0 env) (holds.keeps.early s among))

    -- one more step is walked
    pub holds_then : (met : List KeptMet) → map met_of met ≡ (at env t).met → Holds facts place inputs steps later (set kept i (Some met))
    holds_then met is = record {
      keeps = record {
        stands = stands_then;
        below = let fits : suc n ≤ count later steps = omega (arith, more) in grows_on later (E (suc n)) (E (count later steps)) below_next (up_to (suc n) (count later steps) fits);
        early = early_then;
      };
      met = all_set later steps kept i t (Some met) inside here_is (meets_on env later grows t (Some met) (ready, is)) (all_on env later grows steps kept holds.met);
    }

    pub one_more : count env steps < count later steps
    one_more = more

  -- ---- once each step is stuck

  module _ (env : Env) (keeps : Keeps facts place inputs steps env) (stuck : list_all (is_stuck env) steps ≡ true) where
    settled_at : (s : Name × Step) → IsIn s steps → (name : Name) → out_under name (value_at s.0 env) ≡ out_under name (Some (at env s).outs)
    settled_at s among name = by (value_at s.0 env) (keeps.stands s among) (each_of (is_stuck env) steps stuck s among)
      where
        by : (found : Option Outs) → StandsBy facts place inputs env s found → (is_some found || not (is_ready env s.1)) ≡ true → out_under name found ≡ out_under name (Some (at env s).outs)
        by None stands waits = sym (waits_unknown facts.measures (made_from facts) place inputs env s name (not_true (is_ready env s.1) waits))
        by (Some found) stands waits = ap (λ (o : Outs). out_under name (Some o)) stands.1

    abbrev outs_by : Env → List (Name × Step) → Env
    outs_by before some = map (λ s. (s.0, (step_walk place inputs before s).outs)) (map_values F some)

    put_below : (before : Env) → EnvGrows before env → (some : List (Name × Step)) → ((s : Name × Step) → IsIn s some → IsIn s steps) → (now : Env) → EnvGrows now env
        → EnvGrows (put_from now (outs_by before some)) env
    put_below before risen [] among now below = below
    put_below before risen (s ∷ ss) among now below = put_below before risen ss (λ u later. among u (inr later)) (with_value s.0 (at before s).outs now) one
      where
        one : EnvGrows (with_value s.0 (at before s).outs now) env
        one = λ step name. by step name (bytes_eq step s.0) refl
          where
            by : (step name : Name) (b : Bool) → bytes_eq step s.0 ≡ b → Stays (out_under name (value_at step (with_value s.0 (at before s).outs now))) (out_under name (value_at step env))
            by step name true is =
                let put : value_at step (with_value s.0 (at before s).outs now) ≡ Some (at before s).outs =
                value_at-with_value step s.0 (at before s).outs now ∙ ap (λ (b : Bool). cond b (Some (at before s).outs) (value_at step now)) is in
                let found : out_under name (Some (at env s).outs) ≡ out_under name (value_at step env) =
                sym (settled_at s (among s (inl refl)) name) ∙ ap (λ (id : Name). out_under name (value_at id env)) (sym ((bytes_eq-Decides step s.0).0 is)) in
                subst₂ Stays (ap (out_under name) (sym put)) found ((step_rises facts.measures (made_from facts) s.1 s.0 place inputs before env risen).outs name)
            by step name false is =
                let past : value_at step (with_value s.0 (at before s).outs now) ≡ value_at step now =
                value_at-with_value step s.0 (at before s).outs now ∙ ap (λ (b : Bool). cond b (Some (at before s).outs) (value_at step now)) is in
                subst (λ (o : Option Outs). Stays (out_under name o) (out_under name (value_at step env))) (sym past) (below step name)

    above : (m : ℕ) → EnvGrows (E m) env
    above zero = λ step name. tt
    above (suc m) = put_below (E m) (above m) steps (λ s here. here) [] (λ step name. tt)

    -- the same is known as after as many rounds as there are steps
    pub says_same : SaysSame (E (length steps)) env
    says_same = λ step name.
        stays_both (out_under name (value_at step env)) (out_under name (value_at step (E (length steps))))
        (stays_on (out_under name (value_at step env)) (out_under name (value_at step (E (count env steps)))) (out_under name (value_at step (E (length steps)))) (keeps.below step name)
        (up_to (count env steps) (length steps) (count_within env steps) step name))
        (above (length steps) step name)
