-- Where a job ends while one beside it is open, its step meets and gives the same as before.
use Rattle.std.proofs.Common.{◌≡◌, ◌∙◌, ◌⊎◌, ◌≢◌, inl, inr, ⊎_elim, ℕ, List, [], ◌∷◌, ◌++◌, map, Bool, true, false, cond, Option, Some, None, Result, Ok, Err, option_map, refl, sym, ap, ap₂, subst, append_assoc, append-nil}
use Rattle.std.specs.Prelude.{nat_le, length}
use Rattle.std.specs.List.{flat_map}
use Rattle.std.proofs.lemmas.List.{append_cancel_left}
use Rattle.cwl_value.specs.declared.value.Value.{Value}
use Rattle.cwl_value.specs.declared.place.Segment.{Segment}
use Rattle.cwl_process.specs.declared.workflow.StepInput.{StepInput}
use Rattle.input_files.specs.Measured.{Measures}
use Rattle.link_values.specs.StepInputs.{value_froms}
use Rattle.scatter_shape.specs.Gathered.{gathered}
use Rattle.scatter_shape.specs.Tuples.{tuples_of}
use Rattle.scatter_shape.specs.declared.tuples.TheConstants.{MOST_TUPLES}
use Rattle.scatter_shape.specs.declared.shape.Method.{Method}
use Rattle.scatter_shape.proofs.Rising.{Rises, tuples_rise}
use Rattle.job_graph.specs.declared.cause.Cause.{Cause}
use Rattle.job_graph.specs.Words.{Name, Fields, JobPlace}
use Rattle.job_graph.specs.Jobs.{Job, Met, met_job, met_fault, Walk, with_first, all_there}
use Rattle.job_graph.specs.Links.{Env, by_link, out_under, entry_value, all_given}
use Rattle.job_graph.specs.Scatter.{are_in_step, lengths_under, method_of, at_tuple}
use Rattle.job_graph.specs.Equations.{Meaning, StepMeaning, StepOf, goes_on, run_where, instance_from, instance, step_place, out_gathered, all_instances, over_tuples, over_lengths, scattered, entered, step_meaning}
use Rattle.job_graph.specs.More.{Stays}
use Rattle.job_graph.specs.inner.Rounds.{EnvGrows}
use Rattle.job_graph.proofs.laws_of_walks.Processes.{StepLevel, step_of}
use Rattle.job_graph.proofs.laws_of_walks.Part.{AllIn, weaker}
use Rattle.job_graph.proofs.laws_of_walks.Places.{IsUnder, IsAt, IsBeyond, Fans, IsAmong, segment, beyond, not_among, OfTuples, instance_at, tuples_fan}
use Rattle.job_graph.proofs.laws_of_walks.Same.{Agree, instance_agrees, all_agree}
use Rattle.job_graph.proofs.laws_of_walks.Steps.{entries_of, faults_in, entry_settles, all_stay}

-- two places that differ in the tuple of their last segments alone
pub data Beside : JobPlace → JobPlace → Type 0 where
  at_end : (id : Name) (t u : List ℕ) → t ≢ u → Beside (segment id t ∷ []) (segment id u ∷ [])
  below : (s : Segment) (p q : JobPlace) → Beside p q → Beside (s ∷ p) (s ∷ q)

-- ---- a job is met at a place

abbrev pub HasAt : JobPlace → List Met → Type 0
HasAt w [] = ⊥
HasAt w (met_job job ∷ met) = (job.place ≡ w) ⊎ HasAt w met
HasAt w (met_fault place cause ∷ met) = HasAt w met

pub has_append : (w : JobPlace) (xs ys : List Met) → HasAt w (xs ++ ys) → HasAt w xs ⊎ HasAt w ys
has_append w [] ys at = inr at
has_append w (met_job job ∷ xs) ys (inl here) = inl (inl here)
has_append w (met_job job ∷ xs) ys (inr later) = ⊎_elim (λ one. inl (inr one)) (λ other. inr other) (has_append w xs ys later)
has_append w (met_fault place cause ∷ xs) ys at = has_append w xs ys at

-- what holds of each job holds of that one
pub has_holds : (G : Job → Type 0) (w : JobPlace) (met : List Met) → AllIn G met → HasAt w met → (job : Job) × G job × (job.place ≡ w)
has_holds G w [] all at = absurd at
has_holds G w (met_job job ∷ met) all (inl here) = (job, all.0, here)
has_holds G w (met_job job ∷ met) all (inr later) = has_holds G w met all.1 later
has_holds G w (met_fault place cause ∷ met) all at = has_holds G w met all.1 at

-- ---- places that begin alike

-- the place of a tuple, and what follows
pub after_step : (place : JobPlace) (id : Name) (tuple : List ℕ) (rest : JobPlace) → step_place place id tuple ++ rest ≡ place ++ segment id tuple ∷ rest
after_step place id tuple rest = append_assoc place (segment id tuple ∷ []) rest

-- two that go on from one place go on alike
pub goes_alike : (place : JobPlace) (s t : Segment) (p q : JobPlace) → place ++ s ∷ p ≡ place ++ t ∷ q → s ∷ p ≡ t ∷ q
goes_alike place s t p q is = append_cancel_left place (s ∷ p) (t ∷ q) is

heads_alike : (s t : Segment) (p q : JobPlace) → s ∷ p ≡ t ∷ q → s ≡ t
heads_alike s t p q is = cc

rest_alike : (s t : Segment) (p q : JobPlace) → s ∷ p ≡ t ∷ q → p ≡ q
rest_alike s t p q is = cc

-- a place does not go on from itself
pub not_longer : (place : JobPlace) (s : Segment) (rest : JobPlace) → place ≡ place ++ s ∷ rest → ⊥
not_longer place s rest is =
    let none : [] ≡ s ∷ rest = append_cancel_left place [] (s ∷ rest) (append-nil place ∙ is) in absurd cc

-- the first segment behind a place
pub first_segment : (place w : JobPlace) (s t : Segment) (p q : JobPlace) → w ≡ place ++ s ∷ p → w ≡ place ++ t ∷ q → s ≡ t
first_segment place w s t p q one other = heads_alike s t p q (goes_alike place s t p q (sym one ∙ other))

pub none_first : {T : Type 0} (o : Option (List T)) → with_first None o ≡ None
none_first None = refl
none_first (Some vs) = refl

pub none_later : {T : Type 0} (o : Option T) → with_first o None ≡ None
none_later None = refl
none_later (Some v) = refl

-- ---- a job ends at r, and one is open at w

module _ (r w : JobPlace) where
  abbrev pub Elsewhere : Job → Type 0
  Elsewhere job = job.place ≢ r

  -- nothing is given where a job is open
  abbrev pub Blank : Meaning → Type 0
  Blank meaning = (fields : Fields) → HasAt w (meaning w fields).met → (name : Name) → out_under name (Some (meaning w fields).outs) ≡ None

  abbrev pub NotAbove : JobPlace → Type 0
  NotAbove place = (s : Segment) (rest : JobPlace) → r ≢ place ++ s ∷ rest

  -- the same is met at a place that is not above r
  abbrev pub MeetsSame : Meaning → Meaning → Type 0
  MeetsSame one other = (place : JobPlace) (fields : Fields) → NotAbove place → (one place fields).met ≡ (other place fields).met

  -- above both, where the open job is met, the walks are one
  abbrev pub Still : Meaning → Meaning → Type 0
  Still one other = (place : JobPlace) (fields : Fields) (p q : JobPlace) → Beside p q → r ≡ place ++ p → w ≡ place ++ q → HasAt w (one place fields).met → one place fields ≡ other place fields

  pub record AreStill (one other : Meaning) : Type 0 where
    pub blank : Blank one
    pub blank_other : Blank other
    pub meets : MeetsSame one other
    pub still : Still one other

  abbrev pub StepStill : StepMeaning → StepMeaning → Type 0
  StepStill one other = (id : Name) (place : JobPlace) (inputs : Fields) (env later : Env) → EnvGrows env later → (p q : JobPlace) → Beside p q → r ≡ place ++ p → w ≡ place ++ q
      → HasAt w (one id place inputs later).met → one id place inputs env ≡ other id place inputs env

  -- jobs that go on by another segment than r
  pub elsewhere_by : (place : JobPlace) (next : Segment) (p : JobPlace) → r ≡ place ++ next ∷ p → (Q : Segment → Type 0) → (Q next → ⊥) → (met : List Met) → Fans place Q met → AllIn Elsewhere met
  elsewhere_by place next p at_r Q apart met fans =
      weaker (IsBeyond place Q) Elsewhere
      (λ job at is. apart (subst Q (first_segment place r at.0 next at.1 p (sym is ∙ at.3) at_r) at.2)) met fans.0

  -- ---- one value of a step gives nothing where a job is open

  module _ (step : StepLevel) (meaning : Meaning) (places : (place : JobPlace) (fields : Fields) → IsAt place (meaning place fields).met) (blank : Blank meaning) where
    abbrev m : StepOf
    m = step_of step meaning

    run_blank : (fields : Fields) (is_run : Result Bool Cause) → HasAt w (run_where m w fields is_run).met → (name : Name) → out_under name (Some (run_where m w fields is_run).outs) ≡ None
    run_blank fields (Ok true) at = blank fields at
    run_blank fields (Ok false) at = absurd at
    run_blank fields (Err cause) at = absurd at

    from_blank : (found : Result Fields Cause) → HasAt w (instance_from m w found).met → (name : Name) → out_under name (Some (instance_from m w found).outs) ≡ None
    from_blank (Err cause) at = absurd at
    from_blank (Ok fields) at = run_blank fields (goes_on step.when fields) at

    instance_blank : (fields : Fields) → HasAt w (instance m w fields).met → (name : Name) → out_under name (Some (instance m w fields).outs) ≡ None
    instance_blank fields at = from_blank (by_link (value_froms step.inputs fields)) at

    module _ (id : Name) (place : JobPlace) (fields : Fields) where
      abbrev of : List ℕ → Walk
      of tuple = instance m (step_place place id tuple) (at_tuple step.scatter tuple fields)

      abbrev pub mets : List (List ℕ) → List Met
      mets tuples = flat_map (λ w. w.met) (map of tuples)

      -- the tuple at which a job is met
      pub tuple_there : (s : Segment) (q : JobPlace) → w ≡ place ++ s ∷ q → (x : List ℕ) → HasAt w (of x).met → s ≡ segment id x
      tuple_there s q is x at =
          let found : (job : Job) × IsUnder (step_place place id x) job × (job.place ≡ w) = has_holds (IsUnder (step_place place id x)) w (of x).met (instance_at step meaning places (step_place place id x) (at_tuple step.scatter x fields)).0 at in
          first_segment place w s (segment id x) q found.1.0 is (sym found.2 ∙ found.1.1 ∙ after_step place id x found.1.0)

      tuple_blank : (s : Segment) → w ≡ place ++ s ∷ [] → (x : List ℕ) → HasAt w (of x).met → (name : Name) → out_under name (Some (of x).outs) ≡ None
      tuple_blank s is x at =
          let there : w ≡ step_place place id x = is ∙ ap (λ (t : Segment). place ++ t ∷ []) (tuple_there s [] is x at) in
          subst (λ (here : JobPlace). HasAt w (instance m here (at_tuple step.scatter x fields)).met → (name : Name) → out_under name (Some (instance m here (at_tuple step.scatter x fields)).outs) ≡ None)
          there (instance_blank (at_tuple step.scatter x fields)) at

      pub none_there : (s : Segment) → w ≡ place ++ s ∷ [] → (tuples : List (List ℕ)) → HasAt w (mets tuples) → (name : Name) → all_there (map (λ w. out_under name (Some w.outs)) (map of tuples)) ≡ None
      none_there s is [] at name = absurd at
      none_there s is (x ∷ xs) at name =
          let rest : Option (List Value) = all_there (map (λ w. out_under name (Some w.outs)) (map of xs)) in
          ⊎_elim
          (λ here. ap (λ (o : Option Value). with_first o rest) (tuple_blank s is x here name) ∙ none_first rest)
          (λ later. ap (with_first (out_under name (Some (of x).outs))) (none_there s is xs later name) ∙ none_later (out_under name (Some (of x).outs)))
          (has_append w (of x).met (mets xs) at)

  -- ---- a step

  module _ (step : StepLevel) (one other : Meaning)
      (places : (place : JobPlace) (fields : Fields) → IsAt place (one place fields).met) (places_other : (place : JobPlace) (fields : Fields) → IsAt place (other place fields).met)
      (agree : Agree Elsewhere one other) (are : AreStill one other) where
    abbrev s : StepOf
    s = step_of step one

    abbrev t : StepOf
    t = step_of step other

    run_meets : (place : JobPlace) (fields : Fields) (is_run : Result Bool Cause) → NotAbove place → (run_where s place fields is_run).met ≡ (run_where t place fields is_run).met
    run_meets place fields (Ok true) apart = are.meets place fields apart
    run_meets place fields (Ok false) apart = refl
    run_meets place fields (Err cause) apart = refl

    from_meets : (place : JobPlace) (found : Result Fields Cause) → NotAbove place → (instance_from s place found).met ≡ (instance_from t place found).met
    from_meets place (Err cause) apart = refl
    from_meets place (Ok fields) apart = run_meets place fields (goes_on step.when fields) apart

    instance_meets : (place : JobPlace) (fields : Fields) → NotAbove place → (instance s place fields).met ≡ (instance t place fields).met
    instance_meets place fields apart = from_meets place (by_link (value_froms step.inputs fields)) apart

    run_still : (place : JobPlace) (fields : Fields) (p q : JobPlace) → Beside p q → r ≡ place ++ p → w ≡ place ++ q → (is_run : Result Bool Cause)
        → HasAt w (run_where s place fields is_run).met → run_where s place fields is_run ≡ run_where t place fields is_run
    run_still place fields p q beside at_r at_w (Ok true) at = are.still place fields p q beside at_r at_w at
    run_still place fields p q beside at_r at_w (Ok false) at = refl
    run_still place fields p q beside at_r at_w (Err cause) at = refl

    from_still : (place : JobPlace) (p q : JobPlace) → Beside p q → r ≡ place ++ p → w ≡ place ++ q → (found : Result Fields Cause)
        → HasAt w (instance_from s place found).met → instance_from s place found ≡ instance_from t place found
    from_still place p q beside at_r at_w (Err cause) at = refl
    from_still place p q beside at_r at_w (Ok fields) at = run_still place fields p q beside at_r at_w (goes_on step.when fields) at

    instance_still : (place : JobPlace) (fields : Fields) (p q : JobPlace) → Beside p q → r ≡ place ++ p → w ≡ place ++ q → HasAt w (instance s place fields).met → instance s place fields ≡ instance t place fields
    instance_still place fields p q beside at_r at_w at = from_still place p q beside at_r at_w (by_link (value_froms step.inputs fields)) at

    module _ (id : Name) (place : JobPlace) (fields : Fields) where
      abbrev of_s : List ℕ → Walk
      of_s tuple = instance s (step_place place id tuple) (at_tuple step.scatter tuple fields)

      abbrev of_t : List ℕ → Walk
      of_t tuple = instance t (step_place place id tuple) (at_tuple step.scatter tuple fields)

      abbrev mets_of : (List ℕ → Walk) → List (List ℕ) → List Met
      mets_of of tuples = flat_map (λ w. w.met) (map of tuples)

      -- ---- both are jobs of this step

      not_above : (id_r : Name) (t_r : List ℕ) → r ≡ place ++ segment id_r t_r ∷ [] → (x : List ℕ) → NotAbove (step_place place id x)
      not_above id_r t_r at_r x = λ next rest is.
          let more : [] ≡ next ∷ rest = rest_alike (segment id_r t_r) (segment id x) [] (next ∷ rest) (goes_alike place (segment id_r t_r) (segment id x) [] (next ∷ rest) (sym at_r ∙ is ∙ after_step place id x (next ∷ rest))) in
          absurd cc

      mets_same : (id_r : Name) (t_r : List ℕ) → r ≡ place ++ segment id_r t_r ∷ [] → (tuples : List (List ℕ)) → mets_of of_s tuples ≡ mets_of of_t tuples
      mets_same id_r t_r at_r [] = refl
      mets_same id_r t_r at_r (x ∷ xs) =
          ap₂ (λ (a b : List Met). a ++ b) (instance_meets (step_place place id x) (at_tuple step.scatter x fields) (not_above id_r t_r at_r x)) (mets_same id_r t_r at_r xs)

      abbrev gather : Method → List ℕ → (List ℕ → Walk) → List (List ℕ) → Name → Name × Option Value
      gather method lengths of tuples name = (name, out_gathered method lengths (map of tuples) name)

      outs_same : (waits : Segment) → w ≡ place ++ waits ∷ [] → (method : Method) (lengths : List ℕ) (tuples : List (List ℕ)) → HasAt w (mets_of of_s tuples) → HasAt w (mets_of of_t tuples) → (names : List Name)
          → map (gather method lengths of_s tuples) names ≡ map (gather method lengths of_t tuples) names
      outs_same waits at_w method lengths tuples at_s at_t [] = refl
      outs_same waits at_w method lengths tuples at_s at_t (n ∷ ns) =
          let none_s : all_there (map (λ w. out_under n (Some w.outs)) (map of_s tuples)) ≡ None = none_there step one places are.blank id place fields waits at_w tuples at_s n in
          let none_t : all_there (map (λ w. out_under n (Some w.outs)) (map of_t tuples)) ≡ None = none_there step other places_other are.blank_other id place fields waits at_w tuples at_t n in
          ap₂ (λ (o : Option Value) (rest : List (Name × Option Value)). (n, o) ∷ rest)
          (ap (option_map (gathered method lengths)) (none_s ∙ sym none_t)) (outs_same waits at_w method lengths tuples at_s at_t ns)

      end_still : (id_r : Name) (t_r : List ℕ) → r ≡ place ++ segment id_r t_r ∷ [] → (waits : Segment) → w ≡ place ++ waits ∷ [] → (lengths : List ℕ) (tuples : List (List ℕ))
          → HasAt w (mets_of of_s tuples) → all_instances s lengths (map of_s tuples) ≡ all_instances t lengths (map of_t tuples)
      end_still id_r t_r at_r waits at_w lengths tuples at =
          let same : mets_of of_s tuples ≡ mets_of of_t tuples = mets_same id_r t_r at_r tuples in
          ap₂ (λ (met : List Met) (outs : List (Name × Option Value)). record { met = met; outs = outs }) same
          (outs_same waits at_w (method_of step.method) lengths tuples at (subst (HasAt w) same at) step.outputs)

      -- ---- both are below one job of this step

      below_still : (next : Segment) (p q : JobPlace) → Beside p q → r ≡ place ++ next ∷ p → w ≡ place ++ next ∷ q → (tuples : List (List ℕ)) → Rises tuples
          → HasAt w (mets_of of_s tuples) → map of_s tuples ≡ map of_t tuples
      below_still next p q beside at_r at_w [] rises at = refl
      below_still next p q beside at_r at_w (x ∷ xs) rises at =
          ⊎_elim (λ here. by_first here) (λ later. by_rest later (below_still next p q beside at_r at_w xs rises.1 later)) (has_append w (of_s x).met (mets_of of_s xs) at)
        where
          after_x : (rest : JobPlace) → next ≡ segment id x → place ++ next ∷ rest ≡ step_place place id x ++ rest
          after_x rest is = ap (λ (s : Segment). place ++ s ∷ rest) is ∙ sym (after_step place id x rest)

          by_first : HasAt w (of_s x).met → map of_s (x ∷ xs) ≡ map of_t (x ∷ xs)
          by_first here =
              let is : next ≡ segment id x = tuple_there step one places are.blank id place fields next q at_w x here in
              ap₂ (λ (v : Walk) (vs : List Walk). v ∷ vs)
              (instance_still (step_place place id x) (at_tuple step.scatter x fields) p q beside (at_r ∙ after_x p is) (at_w ∙ after_x q is) here)
              (all_agree Elsewhere step one other agree id place fields xs
              (elsewhere_by place next p at_r (OfTuples id xs) (λ among. not_among x next.index xs rises.0 among.1 (ap (λ (s : Segment). s.index) is)) (mets_of of_s xs) (tuples_fan step one places id place fields xs rises.1)))

          by_rest : HasAt w (mets_of of_s xs) → map of_s xs ≡ map of_t xs → map of_s (x ∷ xs) ≡ map of_t (x ∷ xs)
          by_rest later rest =
              let found : (job : Job) × IsBeyond place (OfTuples id xs) job × (job.place ≡ w) = has_holds (IsBeyond place (OfTuples id xs)) w (mets_of of_s xs) (tuples_fan step one places id place fields xs rises.1).0 later in
              let same : found.1.0 ≡ next = first_segment place w found.1.0 next found.1.1 q (sym found.2 ∙ found.1.3) at_w in
              let among : IsAmong next.index xs = subst (λ (s : Segment). IsAmong s.index xs) same found.1.2.1 in
              ap₂ (λ (v : Walk) (vs : List Walk). v ∷ vs)
              (instance_agrees Elsewhere step one other agree (step_place place id x) (at_tuple step.scatter x fields)
              (elsewhere_by place next p at_r (λ s. s ≡ segment id x) (λ is. not_among x next.index xs rises.0 among (ap (λ (s : Segment). s.index) is)) (of_s x).met
              (beyond place id x (of_s x).met (instance_at step one places (step_place place id x) (at_tuple step.scatter x fields)))))
              rest

      -- ---- all values of the step

      tuples_still : (p q : JobPlace) → Beside p q → r ≡ place ++ p → w ≡ place ++ q → (lengths : List ℕ) (tuples : List (List ℕ)) → Rises tuples
          → HasAt w (mets_of of_s tuples) → all_instances s lengths (map of_s tuples) ≡ all_instances t lengths (map of_t tuples)
      tuples_still p q (at_end id_r t_r u differ) at_r at_w lengths tuples rises at = end_still id_r t_r at_r (segment id_r u) at_w lengths tuples at
      tuples_still p q (below next p1 q1 beside) at_r at_w lengths tuples rises at = ap (all_instances s lengths) (below_still next p1 q1 beside at_r at_w tuples rises at)

      checked_still : (p q : JobPlace) → Beside p q → r ≡ place ++ p → w ≡ place ++ q → (lengths : List ℕ) (in_step within : Bool) (many unequal : Cause)
          → HasAt w (over_tuples s id place fields lengths (cond in_step (cond within (Ok (tuples_of (method_of step.method) lengths)) (Err many)) (Err unequal))).met
          → over_tuples s id place fields lengths (cond in_step (cond within (Ok (tuples_of (method_of step.method) lengths)) (Err many)) (Err unequal))
          ≡ over_tuples t id place fields lengths (cond in_step (cond within (Ok (tuples_of (method_of step.method) lengths)) (Err many)) (Err unequal))
      checked_still p q beside at_r at_w lengths true true many unequal at =
          tuples_still p q beside at_r at_w lengths (tuples_of (method_of step.method) lengths) (tuples_rise (method_of step.method) lengths) at
      checked_still p q beside at_r at_w lengths true false many unequal at = refl
      checked_still p q beside at_r at_w lengths false within many unequal at = refl

      lengths_still : (p q : JobPlace) → Beside p q → r ≡ place ++ p → w ≡ place ++ q → (lengths : Result (List ℕ) Cause)
          → HasAt w (over_lengths s id place fields lengths).met → over_lengths s id place fields lengths ≡ over_lengths t id place fields lengths
      lengths_still p q beside at_r at_w (Err cause) at = refl
      lengths_still p q beside at_r at_w (Ok lengths) at =
          checked_still p q beside at_r at_w lengths (are_in_step (method_of step.method) lengths) (nat_le (length (tuples_of (method_of step.method) lengths)) MOST_TUPLES) _ _ at

      -- a step that is not scattered has one tuple, which is empty
      alone_still : (p q : JobPlace) → Beside p q → r ≡ place ++ p → w ≡ place ++ q → HasAt w (instance s (step_place place id []) fields).met
          → instance s (step_place place id []) fields ≡ instance t (step_place place id []) fields
      alone_still p q (at_end id_r t_r u differ) at_r at_w at =
          let found : (job : Job) × IsUnder (step_place place id []) job × (job.place ≡ w) = has_holds (IsUnder (step_place place id [])) w (instance s (step_place place id []) fields).met (instance_at step one places (step_place place id []) fields).0 at in
          let is : segment id_r u ≡ segment id [] = first_segment place w (segment id_r u) (segment id []) [] found.1.0 at_w (sym found.2 ∙ found.1.1 ∙ after_step place id [] found.1.0) in
          let none : u ≡ [] = ap (λ (s : Segment). s.index) is in
          instance_agrees Elsewhere step one other agree (step_place place id []) fields
          (elsewhere_by place (segment id_r t_r) [] at_r (λ s. s ≡ segment id []) (λ same. differ (ap (λ (s : Segment). s.index) same ∙ sym none)) (instance s (step_place place id []) fields).met
          (beyond place id [] (instance s (step_place place id []) fields).met (instance_at step one places (step_place place id []) fields)))
      alone_still p q (below next p1 q1 beside) at_r at_w at =
          let found : (job : Job) × IsUnder (step_place place id []) job × (job.place ≡ w) = has_holds (IsUnder (step_place place id [])) w (instance s (step_place place id []) fields).met (instance_at step one places (step_place place id []) fields).0 at in
          let is : next ≡ segment id [] = first_segment place w next (segment id []) q1 found.1.0 at_w (sym found.2 ∙ found.1.1 ∙ after_step place id [] found.1.0) in
          instance_still (step_place place id []) fields p1 q1 beside
          (at_r ∙ ap (λ (s : Segment). place ++ s ∷ p1) is ∙ sym (after_step place id [] p1))
          (at_w ∙ ap (λ (s : Segment). place ++ s ∷ q1) is ∙ sym (after_step place id [] q1)) at

      scatter_still : (p q : JobPlace) → Beside p q → r ≡ place ++ p → w ≡ place ++ q → (names : List Name) → HasAt w (scattered s id place fields names).met → scattered s id place fields names ≡ scattered t id place fields names
      scatter_still p q beside at_r at_w [] at = alone_still p q beside at_r at_w at
      scatter_still p q beside at_r at_w (n ∷ ns) at = lengths_still p q beside at_r at_w (lengths_under (n ∷ ns) fields) at

    enters_still : (id : Name) (place : JobPlace) (p q : JobPlace) → Beside p q → r ≡ place ++ p → w ≡ place ++ q → (faults laters : List Met) (o later : Option Fields) → Stays o later
        → HasAt w (entered s id place laters later).met → entered s id place faults o ≡ entered t id place faults o
    enters_still id place p q beside at_r at_w faults laters None later stays at = refl
    enters_still id place p q beside at_r at_w faults laters (Some fields) later stays at =
        scatter_still id place fields p q beside at_r at_w step.scatter (subst (λ (o : Option Fields). HasAt w (entered s id place laters o).met) stays at)

    pub step_still : (measures : Measures) → StepStill (step_meaning measures s) (step_meaning measures t)
    step_still measures id place inputs env later grows p q beside at_r at_w at =
        enters_still id place p q beside at_r at_w
        (faults_in (step_place place id []) (entries_of measures step.inputs inputs env)) (faults_in (step_place place id []) (entries_of measures step.inputs inputs later))
        (all_given (entries_of measures step.inputs inputs env)) (all_given (entries_of measures step.inputs inputs later))
        (all_stay (λ (i : Name × StepInput). i.0) (λ i. entry_value measures inputs env i.1) (λ i. entry_value measures inputs later i.1) (λ i. entry_settles inputs env later grows measures i.1) (Some []) (Some []) refl step.inputs)
        at
