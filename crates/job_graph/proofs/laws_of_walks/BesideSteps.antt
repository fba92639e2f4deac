-- Where a job ends while one beside it is open, the whole walk is the same as before.
use Rattle.std.proofs.Common.{◌≡◌, ◌∙◌, ⊎_elim, ℕ, zero, suc, List, [], ◌∷◌, ◌++◌, map, length, true, not, Option, Some, None, Result, Ok, Err, bytes_eq, refl, sym, ap, ap₂, subst, subst₂}
use Rattle.std.specs.Prelude.{◌&&◌}
use Rattle.std.specs.List.{AllByRecursion, flat_map, list_all, list_any}
use Rattle.cwl_value.specs.declared.place.Segment.{Segment}
use Rattle.cwl_process.specs.declared.tool.Tool.{Tool}
use Rattle.cwl_process.specs.declared.workflow.WorkflowOutput.{WorkflowOutput}
use Rattle.document_links.specs.declared.process.Process.{Process}
use Rattle.document_links.specs.declared.process.Process.TheViews.{roll-out-Step}
use Rattle.document_links.specs.declared.process.Step.{Step, out-Step, roll-Step}
use Rattle.document_links.specs.declared.process.Workflow.{Workflow}
use Rattle.input_files.specs.Measured.{Measures}
use Rattle.plain_data.specs.ByName.{map_values}
use Rattle.job_graph.specs.declared.cause.Cause.{Cause}
use Rattle.job_graph.specs.Apart.{differ, ids_differ, step_ids_differ, workflow_ids_differ}
use Rattle.job_graph.specs.Words.{Name, Fields, JobPlace, last_by_name}
use Rattle.job_graph.specs.Inputs.{tool_inputs_for, workflow_inputs_for}
use Rattle.job_graph.specs.Jobs.{Job, Met, Made, Walk, outs_of, output_names, tool_walk}
use Rattle.job_graph.specs.Links.{Env, out_under, output_value, given}
use Rattle.job_graph.specs.Equations.{Meaning, StepMeaning, fault_at, meaning_of, step_meaning_of, workflow_meaning_of, next_env, workflow_walk, workflow_at}
use Rattle.job_graph.specs.inner.Rounds.{EnvGrows}
use Rattle.job_graph.proofs.laws_of_walks.Processes.{StepLevel, WorkflowLevel, workflow_of, Cases, induction, tool_level, workflow_in, step_level, workflow_level}
use Rattle.job_graph.proofs.laws_of_walks.Part.{AllIn, and_left, and_right, each_part, stays_itself, stays_on, weaker}
use Rattle.job_graph.proofs.laws_of_walks.Places.{IsAt, IsBeyond, Fans, IsAmong, OfStep, StepFans, no_job, faults_none, ids_of, among_any, not_both, step_fan, steps_fan, workflow_fans, walk_places, workflow_differs, step_differs, steps_differ, step_is as step_is_apart}
use Rattle.job_graph.proofs.laws_of_walks.Same.{Agree, StepAgrees, step_agrees, outs_agree, met_agree, workflow_agrees, tool_agrees, agrees}
use Rattle.job_graph.proofs.laws_of_walks.Steps.{unknown_under}
use Rattle.job_graph.proofs.laws_of_walks.Rounds.{StepRises, met_in, outs_in, round, met_rises, round_rises, length_values}
use Rattle.job_graph.proofs.laws_of_walks.Grown.{steps_rise}
use Rattle.job_graph.proofs.laws_of_walks.Beside.{Beside, at_end, below, HasAt, has_append, has_holds, first_segment, not_longer, Elsewhere, NotAbove, AreStill, StepStill, step_still, elsewhere_by}

-- both go on by a job of one step
record IsByStep (p q : JobPlace) : Type 0 where
  ended : Segment
  waits : Segment
  after_ended : JobPlace
  after_open : JobPlace
  one : p ≡ ended ∷ after_ended
  other : q ≡ waits ∷ after_open
  alike : ended.step ≡ waits.step

by_step : (p q : JobPlace) → Beside p q → IsByStep p q
by_step p q (at_end id t u differ) = record { ended = record { step = id; index = t }; waits = record { step = id; index = u }; after_ended = []; after_open = []; one = refl; other = refl; alike = refl }
by_step p q (below s p1 q1 beside) = record { ended = s; waits = s; after_ended = p1; after_open = q1; one = refl; other = refl; alike = refl }

-- as many rounds more
abbrev further : ℕ → ℕ → ℕ
further zero k = k
further (suc m) k = suc (further m k)

further_suc : (m k : ℕ) → further m (suc k) ≡ suc (further m k)
further_suc zero k = refl
further_suc (suc m) k = ap suc (further_suc m k)

module _ (r w : JobPlace) where
  abbrev G : Job → Type 0
  G = Elsewhere r w

  -- ---- the steps of a workflow

  module _ (F H : Step → StepMeaning) (place : JobPlace) (inputs : Fields) (p q : JobPlace) (beside : Beside p q) (at_r : r ≡ place ++ p) (at_w : w ≡ place ++ q) where
    abbrev by : IsByStep p q
    by = by_step p q beside

    r_by : r ≡ place ++ by.ended ∷ by.after_ended
    r_by = at_r ∙ ap (λ (rest : JobPlace). place ++ rest) by.one

    w_by : w ≡ place ++ by.waits ∷ by.after_open
    w_by = at_w ∙ ap (λ (rest : JobPlace). place ++ rest) by.other

    abbrev pub met : (Step → StepMeaning) → Env → List (Name × Step) → List Met
    met means env steps = met_in G F H place inputs means env steps

    abbrev pub outs : (Step → StepMeaning) → Env → List (Name × Step) → Env
    outs means env steps = outs_in G F H place inputs means env steps

    abbrev at : (Step → StepMeaning) → List (Name × Step) → ℕ → Env
    at means steps n = round G F H place inputs means steps n

    -- no other step has the id
    not_again : (id other : Name) (steps : List (Name × Step)) → differ (id ∷ ids_of steps) ≡ true → IsAmong other (ids_of steps) → id ≡ other → ⊥
    not_again id other steps apart among is =
        not_both (list_any (bytes_eq id) (ids_of steps)) (and_left (not (list_any (bytes_eq id) (ids_of steps))) (differ (ids_of steps)) apart) (among_any id other (ids_of steps) among is)

    module _ (env later : Env) (grows : EnvGrows env later) where
      -- the open job is met in this step, or in a later one
      id_there : (x : Name × Step) → StepFans (F x.1) → HasAt w (F x.1 x.0 place inputs later).met → by.ended.step ≡ x.0
      id_there x fans here =
          let found : (job : Job) × IsBeyond place (OfStep x.0) job × (job.place ≡ w) = has_holds (IsBeyond place (OfStep x.0)) w (F x.1 x.0 place inputs later).met (fans x.0 place inputs later).0 here in
          by.alike ∙ ap (λ (s : Segment). s.step) (first_segment place w by.waits found.1.0 by.after_open found.1.1 w_by (sym found.2 ∙ found.1.3)) ∙ found.1.2

      among_later : (xs : List (Name × Step)) → differ (ids_of xs) ≡ true → AllByRecursion (λ (e : Name × Step). StepFans (F e.1)) xs → HasAt w (met F later xs) → IsAmong by.ended.step (ids_of xs)
      among_later xs apart fans there =
          let found : (job : Job) × IsBeyond place (λ s. IsAmong s.step (ids_of xs)) job × (job.place ≡ w) =
          has_holds (IsBeyond place (λ s. IsAmong s.step (ids_of xs))) w (met F later xs) (steps_fan F place inputs later xs apart fans).0 there in
          subst (λ (id : Name). IsAmong id (ids_of xs)) (ap (λ (s : Segment). s.step) (first_segment place w found.1.0 by.waits found.1.1 by.after_open (sym found.2 ∙ found.1.3) w_by) ∙ sym by.alike) found.1.2

      abbrev pub AreSame : List (Name × Step) → Type 0
      AreSame steps = (outs F env steps ≡ outs H env steps) × (met F env steps ≡ met H env steps)

      -- the steps meet and give the same
      pub steps_same : (steps : List (Name × Step)) → differ (ids_of steps) ≡ true
          → AllByRecursion (λ (e : Name × Step). StepFans (F e.1)) steps → AllByRecursion (λ (e : Name × Step). StepRises (F e.1)) steps
          → AllByRecursion (λ (e : Name × Step). StepAgrees G (F e.1) (H e.1)) steps → AllByRecursion (λ (e : Name × Step). StepStill r w (F e.1) (H e.1)) steps
          → HasAt w (met F later steps) → AreSame steps
      steps_same [] apart fans rise agree still there = (refl, refl)
      steps_same (x ∷ xs) apart fans rise agree still there = ⊎_elim (λ here. by_first here) (λ more. by_rest more (steps_same xs (and_right (not (list_any (bytes_eq x.0) (ids_of xs))) (differ (ids_of xs)) apart) fans.1 rise.1 agree.1 still.1 more)) (has_append w (F x.1 x.0 place inputs later).met (met F later xs) there)
        where
          others : differ (ids_of xs) ≡ true
          others = and_right (not (list_any (bytes_eq x.0) (ids_of xs))) (differ (ids_of xs)) apart

          both : F x.1 x.0 place inputs env ≡ H x.1 x.0 place inputs env → AreSame xs → AreSame (x ∷ xs)
          both first rest = (
            ap₂ (λ (v : Walk) (vs : Env). (x.0, v.outs) ∷ vs) first rest.0,
            ap₂ (λ (v : Walk) (vs : List Met). v.met ++ vs) first rest.1,
          )

          by_first : HasAt w (F x.1 x.0 place inputs later).met → AreSame (x ∷ xs)
          by_first here =
              let id : by.ended.step ≡ x.0 = id_there x fans.0 here in
              let elsewhere : AllIn G (met F later xs) =
              elsewhere_by r w place by.ended by.after_ended r_by (λ s. IsAmong s.step (ids_of xs)) (λ among. not_again x.0 by.ended.step xs apart among (sym id)) (met F later xs) (steps_fan F place inputs later xs others fans.1) in
              let before : AllIn G (met F env xs) = each_part G (met F env xs) (met F later xs) (met_rises G F H place inputs env later grows xs rise.1) elsewhere in
              both (still.0 x.0 place inputs env later grows p q beside at_r at_w here)
              (outs_agree G F H place inputs env xs agree.1 before, met_agree G F H place inputs env xs agree.1 before)

          by_rest : HasAt w (met F later xs) → AreSame xs → AreSame (x ∷ xs)
          by_rest more rest =
              let among : IsAmong by.ended.step (ids_of xs) = among_later xs others fans.1 more in
              let elsewhere : AllIn G (F x.1 x.0 place inputs later).met =
              elsewhere_by r w place by.ended by.after_ended r_by (OfStep x.0) (λ is. not_again x.0 by.ended.step xs apart among (sym is)) (F x.1 x.0 place inputs later).met (fans.0 x.0 place inputs later) in
              let before : AllIn G (F x.1 x.0 place inputs env).met =
              each_part G (F x.1 x.0 place inputs env).met (F x.1 x.0 place inputs later).met (rise.0 x.0 place inputs env later grows).met elsewhere in
              both (agree.0 x.0 place inputs env before) rest

    -- ---- the rounds

    module _ (steps : List (Name × Step)) (apart : differ (ids_of steps) ≡ true)
        (fans : AllByRecursion (λ (e : Name × Step). StepFans (F e.1)) steps) (rise : AllByRecursion (λ (e : Name × Step). StepRises (F e.1)) steps)
        (agree : AllByRecursion (λ (e : Name × Step). StepAgrees G (F e.1) (H e.1)) steps) (still : AllByRecursion (λ (e : Name × Step). StepStill r w (F e.1) (H e.1)) steps) where
      later_round : (m k : ℕ) → EnvGrows (at F steps k) (at F steps (further m k))
      later_round zero k = λ step name. stays_itself _
      later_round (suc m) k = λ step name. stays_on _ _ _ (later_round m k step name) (round_rises G F H place inputs steps rise (further m k) step name)

      module _ (n : ℕ) (there : HasAt w (met F (at F steps n) steps)) where
        rounds_same : (k m : ℕ) → further m k ≡ n → at F steps k ≡ at H steps k
        rounds_same zero m is = refl
        rounds_same (suc k) m is =
            let more : further (suc m) k ≡ n = sym (further_suc m k) ∙ is in
            let grows : EnvGrows (at F steps k) (at F steps n) = subst (λ (j : ℕ). EnvGrows (at F steps k) (at F steps j)) more (later_round (suc m) k) in
            ap last_by_name (steps_same (at F steps k) (at F steps n) grows steps apart fans rise agree still there).0
            ∙ ap (next_env (map_values H steps) place inputs) (rounds_same k (suc m) more)

        walk_still : (workflow : WorkflowLevel) → workflow_walk (workflow_of workflow (map_values F steps)) place inputs (at F steps n) ≡ workflow_walk (workflow_of workflow (map_values H steps)) place inputs (at H steps n)
        walk_still workflow =
            ap (λ (found : List Met). record {
              met = found ++ flat_map (λ o. fault_at place (output_value inputs (at F steps n) o.1.links)) workflow.outputs;
              outs = map (λ o. (o.0, given (output_value inputs (at F steps n) o.1.links))) workflow.outputs;
            }) (steps_same (at F steps n) (at F steps n) (λ step name. stays_itself _) steps apart fans rise agree still there).1
            ∙ ap (workflow_walk (workflow_of workflow (map_values H steps)) place inputs) (rounds_same n zero refl)

  workflow_still : (F H : Step → StepMeaning) (workflow : WorkflowLevel) → differ (ids_of workflow.steps) ≡ true
      → AllByRecursion (λ (e : Name × Step). StepFans (F e.1)) workflow.steps → AllByRecursion (λ (e : Name × Step). StepRises (F e.1)) workflow.steps
      → AllByRecursion (λ (e : Name × Step). StepAgrees G (F e.1) (H e.1)) workflow.steps → AllByRecursion (λ (e : Name × Step). StepStill r w (F e.1) (H e.1)) workflow.steps
      → (place : JobPlace) (found : Result Fields Cause) (p q : JobPlace) → Beside p q → r ≡ place ++ p → w ≡ place ++ q
      → HasAt w (workflow_at (workflow_of workflow (map_values F workflow.steps)) place found).met
      → workflow_at (workflow_of workflow (map_values F workflow.steps)) place found ≡ workflow_at (workflow_of workflow (map_values H workflow.steps)) place found
  workflow_still F H workflow apart fans rise agree still place (Err cause) p q beside at_r at_w there = refl
  workflow_still F H workflow apart fans rise agree still place (Ok inputs) p q beside at_r at_w there =
      let n : ℕ = length (map_values F workflow.steps) in
      let env : Env = round G F H place inputs F workflow.steps n in
      let faults : List Met = flat_map (λ o. fault_at place (output_value inputs env o.1.links)) workflow.outputs in
      let of_steps : HasAt w (met_in G F H place inputs F env workflow.steps) =
      ⊎_elim (λ one. one)
      (λ other. absurd (has_holds no_job w faults (faults_none place (λ (o : Name × WorkflowOutput). output_value inputs env o.1.links) workflow.outputs) other).1)
      (has_append w (met_in G F H place inputs F env workflow.steps) faults there) in
      walk_still F H place inputs p q beside at_r at_w workflow.steps apart fans rise agree still n of_steps workflow
      ∙ ap (λ (n : ℕ). workflow_walk (workflow_of workflow (map_values H workflow.steps)) place inputs (round G F H place inputs H workflow.steps n))
      (length_values F workflow.steps ∙ sym (length_values H workflow.steps))

-- ---- any process

module _ (measures : Measures) (made more : Made) (r w : JobPlace) (same : (job : Job) → Elsewhere r w job → made job ≡ more job)
    (waits : (job : Job) → job.place ≡ w → made job ≡ None) (open_more : (job : Job) → job.place ≡ w → more job ≡ None) where
  abbrev E : Job → Type 0
  E = Elsewhere r w

  -- ---- a tool

  tool_blank : (any : Made) → ((job : Job) → job.place ≡ w → any job ≡ None) → (tool : Tool) (found : Result Fields Cause) → HasAt w (tool_walk tool w found any).met → (name : Name) → out_under name (Some (tool_walk tool w found any).outs) ≡ None
  tool_blank any none tool (Err cause) there name = absurd there
  tool_blank any none tool (Ok inputs) there name =
      ap (λ (o : Option Fields). out_under name (Some (outs_of (output_names tool) o))) (none (record { place = w; tool = tool; inputs = inputs }) refl)
      ∙ unknown_under name (output_names tool)

  tool_meets : (tool : Tool) (place : JobPlace) (found : Result Fields Cause) → (tool_walk tool place found made).met ≡ (tool_walk tool place found more).met
  tool_meets tool place (Err cause) = refl
  tool_meets tool place (Ok inputs) = refl

  tool_elsewhere : (tool : Tool) (place : JobPlace) (s : Segment) (rest : JobPlace) → r ≡ place ++ s ∷ rest → (found : Result Fields Cause) → AllIn E (tool_walk tool place found made).met
  tool_elsewhere tool place s rest at_r (Err cause) = (tt, tt)
  tool_elsewhere tool place s rest at_r (Ok inputs) = (λ is. not_longer place s rest (is ∙ at_r), tt)

  tool_still : (tool : Tool) → AreStill r w (λ place fields. tool_walk tool place (tool_inputs_for measures tool.inputs fields) made) (λ place fields. tool_walk tool place (tool_inputs_for measures tool.inputs fields) more)
  tool_still tool = record {
    blank = λ fields. tool_blank made waits tool (tool_inputs_for measures tool.inputs fields);
    blank_other = λ fields. tool_blank more open_more tool (tool_inputs_for measures tool.inputs fields);
    meets = λ place fields apart. tool_meets tool place (tool_inputs_for measures tool.inputs fields);
    still = λ place fields p q beside at_r at_w there.
        let by : IsByStep p q = by_step p q beside in
        tool_agrees measures made more E same tool place (tool_inputs_for measures tool.inputs fields)
        (tool_elsewhere tool place by.ended by.after_ended (at_r ∙ ap (λ (rest : JobPlace). place ++ rest) by.one) (tool_inputs_for measures tool.inputs fields));
  }

  -- ---- a workflow

  not_at : (place : JobPlace) (met : List Met) → Fans place (λ s. Unit {0}) met → HasAt place met → ⊥
  not_at place met fans there =
      let found : (job : Job) × IsBeyond place (λ s. Unit {0}) job × (job.place ≡ place) = has_holds (IsBeyond place (λ s. Unit {0})) place met fans.0 there in
      not_longer place found.1.0 found.1.1 (sym found.2 ∙ found.1.3)

  not_met : (place : JobPlace) → NotAbove r w place → (met : List Met) → Fans place (λ s. Unit {0}) met → AllIn E met
  not_met place apart met fans = weaker (IsBeyond place (λ s. Unit {0})) E (λ job at is. apart at.0 at.1 (sym is ∙ at.3)) met fans.0

  pub record StepIs (s : Step) : Type 0 where
    pub fans : StepFans (step_meaning_of measures made s)
    pub fans_more : StepFans (step_meaning_of measures more s)
    pub agree : StepAgrees E (step_meaning_of measures made s) (step_meaning_of measures more s)
    pub still : StepStill r w (step_meaning_of measures made s) (step_meaning_of measures more s)

  abbrev P : Process → Type 0
  P p = ids_differ p ≡ true → AreStill r w (meaning_of measures made p) (meaning_of measures more p)

  abbrev S : Step → Type 0
  S s = step_ids_differ s ≡ true → StepIs s

  abbrev W : Workflow → Type 0
  W v = workflow_ids_differ v ≡ true → AreStill r w (workflow_meaning_of measures made v) (workflow_meaning_of measures more v)

  each_is : (steps : List (Name × Step)) → list_all (λ e. e.1) (map_values step_ids_differ steps) ≡ true → AllByRecursion (λ (e : Name × Step). S e.1) steps → AllByRecursion (λ (e : Name × Step). StepIs e.1) steps
  each_is [] apart all = tt
  each_is (e ∷ es) apart all = (
    all.0 (and_left (step_ids_differ e.1) (list_all (λ x. x.1) (map_values step_ids_differ es)) apart),
    each_is es (and_right (step_ids_differ e.1) (list_all (λ x. x.1) (map_values step_ids_differ es)) apart) all.1,
  )

  pub each_has : (Q : Step → Type 0) → ((s : Step) → StepIs s → Q s) → (steps : List (Name × Step)) → AllByRecursion (λ (e : Name × Step). StepIs e.1) steps → AllByRecursion (λ (e : Name × Step). Q e.1) steps
  each_has Q has [] all = tt
  each_has Q has (e ∷ es) all = (has e.1 all.0, each_has Q has es all.1)

  step_is : (step : StepLevel) → P step.process → ids_differ step.process ≡ true → StepIs (roll-Step step)
  step_is step are apart =
      let one : Meaning = meaning_of measures made step.process in
      let other : Meaning = meaning_of measures more step.process in
      let places : ((place : JobPlace) (fields : Fields) → IsAt place (one place fields).met) = walk_places measures made step.process apart in
      let places_other : ((place : JobPlace) (fields : Fields) → IsAt place (other place fields).met) = walk_places measures more step.process apart in
      let agree : Agree E one other = agrees measures made more E same step.process in
      record {
        fans = subst StepFans (sym (step_level measures made step)) (step_fan step one places measures);
        fans_more = subst StepFans (sym (step_level measures more step)) (step_fan step other places_other measures);
        agree = subst₂ (StepAgrees E) (sym (step_level measures made step)) (sym (step_level measures more step)) (step_agrees E step one other agree measures);
        still = subst₂ (StepStill r w) (sym (step_level measures made step)) (sym (step_level measures more step)) (step_still r w step one other places places_other agree (are apart) measures);
      }

  level_is : (v : WorkflowLevel) → differ (ids_of v.steps) ≡ true → AllByRecursion (λ (e : Name × Step). StepIs e.1) v.steps
      → AreStill r w (λ place fields. workflow_at (workflow_of v (map_values (step_meaning_of measures made) v.steps)) place (workflow_inputs_for measures v.inputs fields))
      (λ place fields. workflow_at (workflow_of v (map_values (step_meaning_of measures more) v.steps)) place (workflow_inputs_for measures v.inputs fields))
  level_is v apart each =
      let F : (Step → StepMeaning) = step_meaning_of measures made in
      let H : (Step → StepMeaning) = step_meaning_of measures more in
      let fans : AllByRecursion (λ (e : Name × Step). StepFans (F e.1)) v.steps = each_has (λ s. StepFans (F s)) (λ s is. is.fans) v.steps each in
      let fans_more : AllByRecursion (λ (e : Name × Step). StepFans (H e.1)) v.steps = each_has (λ s. StepFans (H s)) (λ s is. is.fans_more) v.steps each in
      let agree : AllByRecursion (λ (e : Name × Step). StepAgrees E (F e.1) (H e.1)) v.steps = each_has (λ s. StepAgrees E (F s) (H s)) (λ s is. is.agree) v.steps each in
      let still : AllByRecursion (λ (e : Name × Step). StepStill r w (F e.1) (H e.1)) v.steps = each_has (λ s. StepStill r w (F s) (H s)) (λ s is. is.still) v.steps each in
      let rise : AllByRecursion (λ (e : Name × Step). StepRises (F e.1)) v.steps = steps_rise measures made v.steps in
      record {
        blank = λ fields there name. absurd (not_at w (workflow_at (workflow_of v (map_values F v.steps)) w (workflow_inputs_for measures v.inputs fields)).met (workflow_fans F v apart fans w (workflow_inputs_for measures v.inputs fields)) there);
        blank_other = λ fields there name. absurd (not_at w (workflow_at (workflow_of v (map_values H v.steps)) w (workflow_inputs_for measures v.inputs fields)).met (workflow_fans H v apart fans_more w (workflow_inputs_for measures v.inputs fields)) there);
        meets = λ place fields above.
            ap (λ (walk : Walk). walk.met)
            (workflow_agrees E F H v rise agree place (workflow_inputs_for measures v.inputs fields)
            (not_met place above (workflow_at (workflow_of v (map_values F v.steps)) place (workflow_inputs_for measures v.inputs fields)).met (workflow_fans F v apart fans place (workflow_inputs_for measures v.inputs fields))));
        still = λ place fields p q beside at_r at_w there. workflow_still r w F H v apart fans rise agree still place (workflow_inputs_for measures v.inputs fields) p q beside at_r at_w there;
      }

  cases : Cases P S W
  cases = record {
    tool = λ tool apart. subst₂ (AreStill r w) (sym (tool_level measures made tool)) (sym (tool_level measures more tool)) (tool_still tool);
    workflow = λ v are apart. subst₂ (AreStill r w) (sym (workflow_in measures made v)) (sym (workflow_in measures more v)) (are (sym (workflow_differs v) ∙ apart));
    a_step = λ step are apart. step_is step are (sym (step_differs step) ∙ apart);
    a_workflow = λ v steps apart.
        let both : (differ (ids_of v.steps) && list_all (λ e. e.1) (map_values step_ids_differ v.steps)) ≡ true = sym (steps_differ v) ∙ apart in
        subst₂ (AreStill r w) (sym (workflow_level measures made v)) (sym (workflow_level measures more v))
        (level_is v (and_left (differ (ids_of v.steps)) (list_all (λ e. e.1) (map_values step_ids_differ v.steps)) both)
        (each_is v.steps (and_right (differ (ids_of v.steps)) (list_all (λ e. e.1) (map_values step_ids_differ v.steps)) both) steps));
  }

  pub all_still : (p : Process) → ids_differ p ≡ true → AreStill r w (meaning_of measures made p) (meaning_of measures more p)
  all_still p = induction cases p

  -- each of these steps
  pub all_steps_still : (steps : List (Name × Step)) → list_all (λ s. step_ids_differ s.1) steps ≡ true → AllByRecursion (λ (e : Name × Step). StepIs e.1) steps
  all_steps_still [] apart = tt
  all_steps_still (e ∷ es) apart =
      let inside : ids_differ (out-Step e.1).process ≡ true =
      sym (step_is_apart e.1) ∙ and_left (step_ids_differ e.1) (list_all (λ (s : Name × Step). step_ids_differ s.1) es) apart in (
        subst StepIs (roll-out-Step e.1) (step_is (out-Step e.1) (all_still (out-Step e.1).process) inside),
        all_steps_still es (and_right (step_ids_differ e.1) (list_all (λ (s : Name × Step). step_ids_differ s.1) es) apart),
      )
