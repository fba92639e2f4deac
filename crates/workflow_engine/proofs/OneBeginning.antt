-- Runs that begin with the same looks have come to the same after them, and so they have the same first plan.
use Rattle.std.specs.Prelude.{not}
use Rattle.std.specs.List.{list_any}
use Rattle.std.proofs.Common.{◌≡◌, ◌∙◌, true, false, List, [], ◌∷◌, ◌++◌, Some, None, refl, sym, ap, subst}
use Rattle.job_graph.specs.Jobs.{Job}
use Rattle.job_graph.specs.Words.{JobPlace}
use Rattle.job_reuse.specs.Sound.{IsSound}
use Rattle.job_rows.specs.declared.refusal.RecordRefusal.TheVariants.{NotARecord}
use Rattle.job_rows.specs.declared.row.Row.{Row}
use Rattle.plan_checker.proofs.OneLeast.{least_plans_are_equal}
use Rattle.plan_checker.specs.Least.{IsLeast}
use Rattle.plan_checker.specs.declared.plan.Mark.{Mark}
use Rattle.plan_checker.specs.declared.vertex.Vertex.{Vertex}
use Rattle.proc_host.specs.Answers.{fault_of}
use Rattle.proc_host.specs.declared.call.HostAnswer.{HostAnswer}
use Rattle.proc_host.specs.declared.call.HostFault.{HostFault}
use Rattle.proc_host.specs.declared.call.HostRequest.{HostRequest}
use Rattle.run_rules.specs.Allowed.{Allowed}
use Rattle.run_rules.specs.Costs.{graph_at}
use Rattle.run_rules.specs.Events.{Event, Progress, Work, at_first, file_measured, find_failed, host_failed, is_at_hand, job_at, no_row, row_found}
use Rattle.run_rules.specs.PlannedFirst.{PlansFirst, are_looks, is_look, jobs_planned, no_jobs}
use Rattle.run_rules.specs.Plans.{InForce, PlansSoFar, is_planning, no_plans}
use Rattle.run_rules.specs.Run.{Goes, IsRunSoFar, asks, begins}
use Rattle.run_rules.specs.Scene.{Scene, scene_of}
use Rattle.run_rules.specs.Steps.{Steps, call_fails, call_fails_late, find_fails, finds, finds_none, finds_wrong, measures_file, progress_with}
use Rattle.run_rules.specs.declared.request.Answer.{Answer}
use Rattle.run_rules.specs.declared.request.Pair.{Pair}
use Rattle.run_rules.specs.declared.request.RecordAnswer.{RecordAnswer}
use Rattle.run_rules.specs.declared.request.RecordRequest.{RecordRequest}
use Rattle.run_rules.specs.declared.request.Request.{Request}
use Rattle.run_rules.specs.declared.setting.Setting.{Setting}
use Rattle.run_rules.proofs.events.Planned.{PlansAt, no_plan_when_all_there, planned_now}
use Rattle.workflow_engine.proofs.Looked.{Brings, brings, looks_parts, never_late, unplanned}

-- ---- the last of some pairs

no_last : (t : List Pair) (p : Pair) → [] ≡ t ++ p ∷ [] → ⊥
no_last [] p is = cc
no_last (x ∷ t) p is = cc

same_last : (t u : List Pair) (p q : Pair) → t ++ p ∷ [] ≡ u ++ q ∷ [] → (t ≡ u) × (p ≡ q)
same_last [] [] p q is = (refl, cc)
same_last [] (y ∷ u) p q is = let rest : [] ≡ u ++ q ∷ [] = cc in absurd (no_last u q rest)
same_last (x ∷ t) [] p q is = let rest : t ++ p ∷ [] ≡ [] = cc in absurd (no_last t p (sym rest))
same_last (x ∷ t) (y ∷ u) p q is =
    let first : x ≡ y = cc in
    let later : t ++ p ∷ [] ≡ u ++ q ∷ [] = cc in
    let both = same_last t u p q later in
    (ap (λ (ps : List Pair). x ∷ ps) both.0 ∙ ap (λ (one : Pair). one ∷ u) first, both.1)

module _ (s : Scene) where
  -- ---- one answer

  -- a row that is found is one of the job's tool, or is refused
  data TakesRow (f : Progress) (place : JobPlace) (row : Row) (new : List Event) : Type 0 where
    takes : (job : Job) → job_at s f.events place ≡ Some job → IsSound job.tool row → new ≡ row_found place row ∷ [] → TakesRow f place row new
    refuses : (job : Job) → job_at s f.events place ≡ Some job → (IsSound job.tool row → ⊥) → new ≡ find_failed place NotARecord ∷ [] → TakesRow f place row new

  -- what the answer to a look brings about
  abbrev Says : Progress → Request → Answer → List Event → Type 0
  Says f (Request.Host place (HostRequest.Measure path)) (Answer.Host (HostAnswer.Measured measure)) new = new ≡ file_measured path measure ∷ []
  Says f (Request.Host place (HostRequest.Measure path)) (Answer.Host (HostAnswer.Failed fault)) new = new ≡ host_failed place HostFault.Measure ∷ []
  Says f (Request.Record place (RecordRequest.Find key)) (Answer.Record (RecordAnswer.Found None)) new = new ≡ no_row place ∷ []
  Says f (Request.Record place (RecordRequest.Find key)) (Answer.Record (RecordAnswer.Found (Some row))) new = TakesRow f place row new
  Says f (Request.Record place (RecordRequest.Find key)) (Answer.Record (RecordAnswer.Refused refusal)) new = new ≡ find_failed place refusal ∷ []
  Says f request answer new = ⊥

  fails_so : (f : Progress) (place : JobPlace) (request : HostRequest) → is_look (Request.Host place request) ≡ true →
      Says f (Request.Host place request) (Answer.Host (HostAnswer.Failed (fault_of request))) (host_failed place (fault_of request) ∷ [])
  fails_so f place (HostRequest.Measure path) look = refl
  fails_so f place _ look = absurd cc

  says : (f : Progress) (marks : List Mark) {p : Pair} {work : Work} {new : List Event} → is_look p.request ≡ true → Allowed s f marks p.request → Steps s f p work new →
      Says f p.request p.answer new
  says f marks look may (measures_file path measure) = refl
  says f marks look may (finds_none place its_key) = refl
  says f marks look may (finds place its_key row job known sound) = takes job known sound refl
  says f marks look may (finds_wrong place its_key row job known unsound) = refuses job known unsound refl
  says f marks look may (find_fails place its_key refusal) = refl
  says f marks look may (call_fails place request other unsettled) = fails_so f place request look
  says f marks look may (call_fails_late place request end other over) = absurd (never_late s f marks place request end look may over)
  says f marks look may _ = absurd cc

  one_row : {f : Progress} {place : JobPlace} {row : Row} {one other : List Event} → TakesRow f place row one → TakesRow f place row other → one ≡ other
  one_row (takes job known sound is) (takes job2 known2 sound2 is2) = is ∙ sym is2
  one_row (refuses job known unsound is) (refuses job2 known2 unsound2 is2) = is ∙ sym is2
  one_row {row = row} (takes job known sound is) (refuses job2 known2 unsound is2) =
      let both : Some job ≡ Some job2 = sym known ∙ known2 in
      let same : job ≡ job2 = cc in absurd (unsound (subst (λ (j : Job). IsSound j.tool row) same sound))
  one_row {row = row} (refuses job known unsound is) (takes job2 known2 sound is2) =
      let both : Some job ≡ Some job2 = sym known ∙ known2 in
      let same : job ≡ job2 = cc in absurd (unsound (subst (λ (j : Job). IsSound j.tool row) (sym same) sound))

  one_answer : (f : Progress) (request : Request) (answer : Answer) (one other : List Event) → Says f request answer one → Says f request answer other → one ≡ other
  one_answer f (Request.Host place (HostRequest.Measure path)) (Answer.Host (HostAnswer.Measured measure)) one other is too = is ∙ sym too
  one_answer f (Request.Host place (HostRequest.Measure path)) (Answer.Host (HostAnswer.Failed fault)) one other is too = is ∙ sym too
  one_answer f (Request.Record place (RecordRequest.Find key)) (Answer.Record (RecordAnswer.Found None)) one other is too = is ∙ sym too
  one_answer f (Request.Record place (RecordRequest.Find key)) (Answer.Record (RecordAnswer.Found (Some row))) one other is too = one_row is too
  one_answer f (Request.Record place (RecordRequest.Find key)) (Answer.Record (RecordAnswer.Refused refusal)) one other is too = is ∙ sym too
  one_answer f _ _ one other is too = absurd is

  -- ---- one after another

  record HasLast (t : List Pair) (p : Pair) (f : Progress) : Type 0 where
    old : Progress
    plans : PlansSoFar
    goes : Goes s (InForce s) t old plans
    work : Work
    new : List Event
    may : Allowed s old plans.marks p.request
    steps : Steps s old p work new
    is : f ≡ progress_with old work new

  last_of : {whole : List Pair} {f : Progress} {plans : PlansSoFar} → Goes s (InForce s) whole f plans → (t : List Pair) (p : Pair) → whole ≡ t ++ p ∷ [] → HasLast t p f
  last_of (begins plans its) t p is = absurd (no_last t p is)
  last_of (asks u f old q work new plans goes may steps its) t p is =
      let both = same_last u t q p is in
      record {
        old = f;
        plans = old;
        goes = subst (λ (ps : List Pair). Goes s (InForce s) ps f old) both.0 goes;
        work = work;
        new = new;
        may = subst (λ (one : Pair). Allowed s f old.marks one.request) both.1 may;
        steps = subst (λ (one : Pair). Steps s f one work new) both.1 steps;
        is = refl;
      }

  first_is : {whole : List Pair} {f : Progress} {plans : PlansSoFar} → Goes s (InForce s) whole f plans → whole ≡ [] → at_first ≡ f
  first_is (begins plans its) is = refl
  first_is (asks t f old p work new plans goes may steps its) is = absurd (no_last t p (sym is))

  one_course : {t : List Pair} {f g : Progress} {plans more : PlansSoFar} → Goes s (InForce s) t f plans → are_looks t ≡ true → Goes s (InForce s) t g more → f ≡ g
  one_course (begins plans its) looks other = first_is other refl
  one_course (asks t f old p work new plans goes may steps its) looks other =
      let both = looks_parts t p looks in
      let last : HasLast t p _ = last_of other t p refl in
      let same : f ≡ last.old = one_course goes both.0 last.goes in
      let now : Brings work new = brings s f old.marks both.1 may steps in
      let then : Brings last.work last.new = brings s last.old last.plans.marks both.1 last.may last.steps in
      let events : new ≡ last.new =
      one_answer f p.request p.answer new last.new (says f old.marks both.1 may steps)
      (subst (λ (g : Progress). Says g p.request p.answer last.new) (sym same) (says last.old last.plans.marks both.1 last.may last.steps)) in
      ap (λ (g : Progress). progress_with g work new) same
      ∙ ap (λ (w : Work). progress_with last.old w new) (now.idle ∙ sym then.idle)
      ∙ ap (λ (es : List Event). progress_with last.old last.work es) events ∙ sym last.is

-- ---- the plan in force

module _ (setting : Setting) where
  abbrev s : Scene
  s = scene_of setting

  pub begins_so : (t : List Pair) (f : Progress) (plans : PlansSoFar) {places : List JobPlace} {graph : List Vertex} {marks : List Mark} → IsRunSoFar setting t f plans →
      PlansFirst setting t places graph marks → (plans.graph ≡ graph) × (plans.marks ≡ marks)
  begins_so t f plans goes (jobs_planned g first looks run planning) =
      let same : g ≡ f = one_course s run looks goes in
      let at : PlansAt s g first = planned_now s run planning in
      let now : PlansAt s f plans = planned_now s goes (subst (λ (h : Progress). is_planning s h ≡ true) same planning) in
      let graph : graph_at s f.events ≡ graph_at s g.events = ap (λ (h : Progress). graph_at s h.events) (sym same) in (
        now.graph ∙ graph ∙ sym at.graph,
        least_plans_are_equal (graph_at s g.events) plans.marks first.marks (subst (λ (vertices : List Vertex). IsLeast vertices plans.marks) graph now.least) at.least,
      )
  begins_so t f plans goes (no_jobs g first looks run free empty) =
      let same : g ≡ f = one_course s run looks goes in
      let none : is_planning s g ≡ false =
      no_plan_when_all_there s g (ap (λ (jobs : List Job). list_any (λ (j : Job). not (is_at_hand g.events j.place)) jobs) empty) in
      let nothing : plans ≡ no_plans = unplanned s goes looks (subst (λ (h : Progress). is_planning s h ≡ false) same none) in
      (ap (λ (p : PlansSoFar). p.graph) nothing, ap (λ (p : PlansSoFar). p.marks) nothing)
