-- Which jobs of the graph of the plan in force cost there what they cost now, by what is touched.
use Rattle.std.specs.Prelude.{◌&&◌, ◌<◌, ◌≤◌, not, length, slice_get}
use Rattle.std.proofs.Common.{◌≡◌, ◌≢◌, ◌∙◌, ◌∷◌, ◌+◌, ℕ, zero, suc, Bool, true, List, [], Option, Some, None, map, refl, sym, ap, ap₂, subst, arith}
use Rattle.std.proofs.Props.{props}
use Rattle.std.specs.List.{zip}
use Rattle.job_graph.specs.Jobs.{Job}
use Rattle.job_graph.specs.PresentJobGraph.{present_job_graph, vertex_of}
use Rattle.job_graph.specs.Unfold.{Known, Resolved, known_from}
use Rattle.job_graph.specs.Words.{Fields}
use Rattle.job_graph.specs.declared.costs.Costs.{Costs}
use Rattle.job_graph.specs.declared.unfolding.Unfolding.{Unfolding}
use Rattle.job_rows.specs.declared.row.Row.{Row}
use Rattle.plan_checker.specs.Graph.{vertex}
use Rattle.plan_checker.specs.declared.vertex.Vertex.{Vertex}
use Rattle.plan_keeper.specs.declared.planned.Planned.{Planned}
use Rattle.run_plan.specs.Costs.{LoadRates, costs_of}
use Rattle.run_plan.specs.Touched.{AreOfFirst, costs_in, graph_in}
use Rattle.run_plan.proofs.First.{present_first}
use Rattle.run_rules.specs.declared.outcome.PlanNote.{PlanNote}
use Rattle.run_rules.specs.declared.request.RecordAnswer.{RecordAnswer}
use Rattle.run_core.specs.declared.counts.PlanCounts.{PlanCounts}
use Rattle.run_core.specs.declared.job_states.JobState.{JobState}
use Rattle.run_core.specs.declared.state.Course.{Course}
use Rattle.run_core.specs.declared.state.Given.{Given}
use Rattle.run_core.specs.inner.Archives.{archived_in}
use Rattle.run_core.specs.inner.Fits.{Fits, costs_by}
use Rattle.run_core.specs.inner.FoundRows.{row_in, rows_after}
use Rattle.run_core.specs.inner.Known.{known_in}
use Rattle.run_core.specs.inner.JobStates.{brought_in, loaded_in, staged_in, state_at, waits_in}
use Rattle.run_core.specs.inner.Planning.{IsPlanAt}
use Rattle.run_core.specs.inner.Touched.{IsTouched, Touches, TouchesBelow}
use Rattle.run_core.proofs.FoundRows.{set_elsewhere}

-- The states and the rows of the other jobs

staged_elsewhere : (states : List JobState) (number folder m : ℕ) → m ≢ number → state_at (staged_in number folder states) m ≡ state_at states m
staged_elsewhere [] zero folder zero differ = absurd (differ refl)
staged_elsewhere [] zero folder (suc m) differ = refl
staged_elsewhere [] (suc number) folder zero differ = refl
staged_elsewhere [] (suc number) folder (suc m) differ = staged_elsewhere [] number folder m (λ same. differ (ap suc same))
staged_elsewhere (x ∷ states) zero folder zero differ = absurd (differ refl)
staged_elsewhere (x ∷ states) zero folder (suc m) differ = refl
staged_elsewhere (x ∷ states) (suc number) folder zero differ = refl
staged_elsewhere (x ∷ states) (suc number) folder (suc m) differ = staged_elsewhere states number folder m (λ same. differ (ap suc same))

loaded_elsewhere : (states : List JobState) (number folder m : ℕ) → m ≢ number → state_at (loaded_in number folder states) m ≡ state_at states m
loaded_elsewhere [] zero folder zero differ = absurd (differ refl)
loaded_elsewhere [] zero folder (suc m) differ = refl
loaded_elsewhere [] (suc number) folder zero differ = refl
loaded_elsewhere [] (suc number) folder (suc m) differ = loaded_elsewhere [] number folder m (λ same. differ (ap suc same))
loaded_elsewhere (x ∷ states) zero folder zero differ = absurd (differ refl)
loaded_elsewhere (x ∷ states) zero folder (suc m) differ = refl
loaded_elsewhere (x ∷ states) (suc number) folder zero differ = refl
loaded_elsewhere (x ∷ states) (suc number) folder (suc m) differ = loaded_elsewhere states number folder m (λ same. differ (ap suc same))

brought_waits : (states : List JobState) (number m : ℕ) → waits_in (brought_in number states) m ≡ waits_in states m
brought_waits [] zero m = refl
brought_waits [] (suc number) m = refl
brought_waits (x ∷ states) zero zero = refl
brought_waits (x ∷ states) zero (suc m) = refl
brought_waits (x ∷ states) (suc number) zero = refl
brought_waits (x ∷ states) (suc number) (suc m) = brought_waits states number m

answered_elsewhere : (rows : List (Option Row)) (number m : ℕ) (answer : RecordAnswer) → m ≢ number → row_in (rows_after number answer rows) m ≡ row_in rows m
answered_elsewhere rows number m (RecordAnswer.Found (Some row)) differ = set_elsewhere rows number m row (λ same. differ (sym same))
answered_elsewhere rows number m (RecordAnswer.Found None) differ = refl
answered_elsewhere rows number m (RecordAnswer.Put gone) differ = refl
answered_elsewhere rows number m RecordAnswer.Done differ = refl
answered_elsewhere rows number m (RecordAnswer.Refused refusal) differ = refl

module _ (rates : LoadRates) (keep : Bool) where
  -- any job is touched
  pub fits_any : (jobs : List JobState) (lost : List (List ℕ)) (rows : List (Option Row)) (touched : Option (List ℕ)) (planned : Option Planned) → touched ≡ None →
      Fits rates keep jobs lost rows touched planned
  fits_any jobs lost rows touched planned any n within left = absurd (left (subst (λ (t : Option (List ℕ)). IsTouched t n) (sym any) tt))

  -- the costs of one job have changed at the most, and it is touched where the graph has it
  fits_but : (jobs new_jobs : List JobState) (lost : List (List ℕ)) (rows new_rows : List (Option Row)) (number : ℕ) (before after : Option (List ℕ)) (planned : Option Planned) →
      ((m : ℕ) → m ≢ number → costs_by rates keep new_jobs lost new_rows m ≡ costs_by rates keep jobs lost rows m) →
      ((n : ℕ) → IsTouched before n → IsTouched after n) → (number < length (graph_in planned) → IsTouched after number) →
      Fits rates keep jobs lost rows before planned → Fits rates keep new_jobs lost new_rows after planned
  fits_but jobs new_jobs lost rows new_rows number before after planned same others it fits n within left =
      let was = fits n within (λ t. left (others n t)) in
      let is = same n (λ e. left (subst (IsTouched after) (sym e) (it (subst (λ (m : ℕ). m < length (graph_in planned)) e within)))) in
      (was.0 ∙ ap (λ (c : Costs). c.load) (sym is), was.1 ∙ ap (λ (c : Costs). c.compute) (sym is))

  pub fits_staged : (jobs new : List JobState) (lost : List (List ℕ)) (rows : List (Option Row)) (number folder : ℕ) (before after : Option (List ℕ)) (planned : Option Planned) →
      new ≡ staged_in number folder jobs → Touches number before after → Fits rates keep jobs lost rows before planned → Fits rates keep new lost rows after planned
  fits_staged jobs new lost rows number folder before after planned is touches fits =
      subst (λ (states : List JobState). Fits rates keep states lost rows after planned) (sym is)
      (fits_but jobs (staged_in number folder jobs) lost rows rows number before after planned
      (λ m differ. ap (λ (state : JobState). costs_of rates (not state.waits) (keep && archived_in lost (row_in rows m)) (row_in rows m)) (staged_elsewhere jobs number folder m differ))
      touches.others (λ within. touches.it) fits)

  pub fits_loaded : (jobs new : List JobState) (lost : List (List ℕ)) (rows : List (Option Row)) (number folder : ℕ) (before after : Option (List ℕ)) (planned : Option Planned) →
      new ≡ loaded_in number folder jobs → Touches number before after → Fits rates keep jobs lost rows before planned → Fits rates keep new lost rows after planned
  fits_loaded jobs new lost rows number folder before after planned is touches fits =
      subst (λ (states : List JobState). Fits rates keep states lost rows after planned) (sym is)
      (fits_but jobs (loaded_in number folder jobs) lost rows rows number before after planned
      (λ m differ. ap (λ (state : JobState). costs_of rates (not state.waits) (keep && archived_in lost (row_in rows m)) (row_in rows m)) (loaded_elsewhere jobs number folder m differ))
      touches.others (λ within. touches.it) fits)

  -- what is at hand waits or not as before
  pub fits_brought : (jobs new : List JobState) (lost : List (List ℕ)) (rows : List (Option Row)) (number : ℕ) (touched : Option (List ℕ)) (planned : Option Planned) →
      new ≡ brought_in number jobs → Fits rates keep jobs lost rows touched planned → Fits rates keep new lost rows touched planned
  fits_brought jobs new lost rows number touched planned is fits n within left =
      let was = fits n within left in
      let same : costs_by rates keep new lost rows n ≡ costs_by rates keep jobs lost rows n =
      ap (λ (states : List JobState). costs_by rates keep states lost rows n) is
      ∙ ap (λ (waits : Bool). costs_of rates (not waits) (keep && archived_in lost (row_in rows n)) (row_in rows n)) (brought_waits jobs number n) in
      (was.0 ∙ ap (λ (c : Costs). c.load) (sym same), was.1 ∙ ap (λ (c : Costs). c.compute) (sym same))

  -- the same jobs
  pub fits_same : (jobs new : List JobState) (lost : List (List ℕ)) (rows : List (Option Row)) (touched : Option (List ℕ)) (planned : Option Planned) →
      new ≡ jobs → Fits rates keep jobs lost rows touched planned → Fits rates keep new lost rows touched planned
  fits_same jobs new lost rows touched planned is fits = subst (λ (states : List JobState). Fits rates keep states lost rows touched planned) (sym is) fits

  -- the record has told of a job, which is touched where the graph has it
  pub fits_told : (jobs : List JobState) (lost : List (List ℕ)) (rows new : List (Option Row)) (number : ℕ) (answer : RecordAnswer) (before after : Option (List ℕ)) (planned : Option Planned) →
      new ≡ rows_after number answer rows → TouchesBelow (length (graph_in planned)) number before after → Fits rates keep jobs lost rows before planned →
      Fits rates keep jobs lost new after planned
  fits_told jobs lost rows new number answer before after planned is touches fits =
      subst (λ (found : List (Option Row)). Fits rates keep jobs lost found after planned) (sym is)
      (fits_but jobs jobs lost rows (rows_after number answer rows) number before after planned
      (λ m differ. ap (λ (row : Option Row). costs_of rates (not (waits_in jobs m)) (keep && archived_in lost row) row) (answered_elsewhere rows number m answer differ))
      touches.others touches.it fits)

-- A plan that was just made

costs_there : (learned : List Resolved) (outs : Fields) (known : List Known) (costs : List Costs) (n : ℕ) (c : Costs) → n < length (map (vertex_of learned outs) (zip known costs)) →
    slice_get costs n ≡ Some c → Some (costs_in (vertex (map (vertex_of learned outs) (zip known costs)) n)) ≡ Some c
costs_there learned outs [] costs n c within is = absurd (omega (arith, within))
costs_there learned outs (k ∷ known) [] n c within is = absurd (omega (arith, within))
costs_there learned outs (k ∷ known) (x ∷ costs) zero c within is = is
costs_there learned outs (k ∷ known) (x ∷ costs) (suc n) c within is = costs_there learned outs known costs n c (omega (arith, within)) is

costs_long : (learned : List Resolved) (outs : Fields) (known : List Known) (costs : List Costs) → length (map (vertex_of learned outs) (zip known costs)) ≤ length costs
costs_long learned outs [] costs = omega arith
costs_long learned outs (k ∷ known) [] = omega arith
costs_long learned outs (k ∷ known) (c ∷ costs) = let more = costs_long learned outs known costs in omega (arith, more)

pub fits_planned : (given : Given) (course : Course) (made : Planned) → IsPlanAt given course made →
    Fits given.rates given.options.keep course.jobs course.lost.items course.rows (Some []) (Some made)
fits_planned given course made plan n within left =
    let kept = plan.kept in
    let graph = present_job_graph kept.learned kept.known kept.outs plan.costs in
    let its = plan.planned.its_graph in
    let there : n < length graph = subst (λ (g : List Vertex). n < length g) its within in
    let few = costs_long kept.learned kept.outs (known_from [] kept.known) plan.costs in
    let paid = costs_there kept.learned kept.outs (known_from [] kept.known) plan.costs n (costs_by given.rates given.options.keep course.jobs course.lost.items course.rows n) there
    (plan.its_costs.each n (omega (arith, there, few, plan.its_costs.as_many))) in
    (ap (λ (g : List Vertex). (vertex g n).load) its ∙ ap load_of paid, ap (λ (g : List Vertex). (vertex g n).compute) its ∙ ap compute_of paid)
  where
    load_of : Option Costs → Option ℕ
    load_of None = None
    load_of (Some c) = c.load

    compute_of : Option Costs → ℕ
    compute_of None = 0
    compute_of (Some c) = c.compute

-- and its parents are those of the jobs that are known
pub first_planned : (given : Given) (old new : Course) (made : Planned) → IsPlanAt given old made → new.known ≡ old.known → AreOfFirst made.graph (known_in new.known)
first_planned given old new made plan same =
    let kept = plan.kept in
    subst (λ (known : Option Unfolding). AreOfFirst made.graph (known_in known)) (sym (same ∙ plan.known))
    (subst (λ (graph : List Vertex). AreOfFirst graph kept.known) (sym plan.planned.its_graph) (present_first kept.learned kept.known kept.outs plan.costs))

-- two proofs of it are the same
fits_once : (rates : LoadRates) (keep : Bool) (jobs : List JobState) (lost : List (List ℕ)) (rows : List (Option Row)) (touched : Option (List ℕ)) (planned : Option Planned)
    (some other : Fits rates keep jobs lost rows touched planned) → some ≡ other
fits_once rates keep jobs lost rows touched planned = Prim.hlevel props

first_once : (is_first : Bool) (graph : List Vertex) (jobs : List Job) (some other : is_first ≡ true → AreOfFirst graph jobs) → some ≡ other
first_once is_first graph jobs = Prim.hlevel props

counted_once : (counts : PlanCounts) (plans : List PlanNote) (some other : counts.brought + counts.anew ≡ length plans) → some ≡ other
counted_once counts plans = Prim.hlevel props

-- a course is the same where its jobs are
pub same_course : (course : Course) (jobs : List JobState) (fits : Fits course.rates course.keep jobs course.lost.items course.rows course.touched course.planned)
    (counted : course.counts.brought + course.counts.anew ≡ length course.plans.items) (first : course.of_first ≡ true → AreOfFirst (graph_in course.planned) (known_in course.known)) →
    jobs ≡ course.jobs → record course { jobs = jobs; fits = fits; counted = counted; first = first } ≡ course
same_course course jobs fits counted first is =
    subst
    (λ (states : List JobState).
    (its : Fits course.rates course.keep states course.lost.items course.rows course.touched course.planned) →
    record course { jobs = states; fits = its; counted = counted; first = first } ≡ course)
    (sym is)
    (λ its.
    ap₂ (λ (f : Fits course.rates course.keep course.jobs course.lost.items course.rows course.touched course.planned)
    (g : course.of_first ≡ true → AreOfFirst (graph_in course.planned) (known_in course.known)). record course { fits = f; counted = counted; first = g })
    (fits_once course.rates course.keep course.jobs course.lost.items course.rows course.touched course.planned its course.fits)
    (first_once course.of_first (graph_in course.planned) (known_in course.known) first course.first)
    ∙ ap (λ (c : course.counts.brought + course.counts.anew ≡ length course.plans.items). record course { counted = c })
    (counted_once course.counts course.plans.items counted course.counted))
    fits
