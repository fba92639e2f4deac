-- The record has told what it has of a job: the run goes on, or the answer settles its end.
use Rattle.std.specs.Prelude.{IsSome, Result, Err, is_some}
use Rattle.std.proofs.Common.{◌≡◌, false, true, ℕ, List, [], ◌∷◌, ◌++◌, Option, Some, None, subst, sym, refl, ◌∙◌, ap}
use Rattle.job_graph.specs.Jobs.{Job}
use Rattle.job_key.specs.Key.{key}
use Rattle.job_rows.specs.declared.refusal.RecordRefusal.{RecordRefusal}
use Rattle.job_rows.specs.declared.refusal.RecordRefusal.TheVariants.{NotARecord}
use Rattle.job_graph.specs.Unfold.{or_else}
use Rattle.run_rules.specs.declared.outcome.Outcome.{Outcome}
use Rattle.run_rules.specs.declared.outcome.RunFault.{RunFault}
use Rattle.run_rules.specs.declared.request.Pair.{Pair}
use Rattle.run_rules.specs.declared.request.RecordAnswer.{RecordAnswer}
use Rattle.run_rules.specs.declared.request.RecordRequest.{RecordRequest}
use Rattle.run_rules.specs.Events.{Event, Progress, find_failed, job_at, measures, no_row, nothing_due, resolved, row_found}
use Rattle.run_rules.specs.Plans.{InForce, PlansSoFar}
use Rattle.run_rules.specs.Run.{Goes}
use Rattle.run_rules.specs.Scene.{Scene}
use Rattle.run_rules.specs.Steps.{Steps, command, find_fails, finds, finds_none, finds_wrong, progress_with}
use Rattle.run_rules.proofs.events.Grows.{comes_on}
use Rattle.run_core.specs.declared.state.Course.{Course}
use Rattle.run_core.specs.declared.state.Given.{Given}
use Rattle.run_core.specs.declared.state.Turn.{Turn}
use Rattle.run_core.specs.inner.Course.{Past, known_in, past_of, place_at, with_answer, with_end}
use Rattle.run_core.specs.inner.Keeps.{Reflects}
use Rattle.run_core.specs.inner.Picks.{AfterFind, LearnsRow, Picks, Tells, has_none, has_row, has_wrong_row, refuses}
use Rattle.run_core.specs.inner.Standing.{FindsNext, KeepsPlans, Runs}
use Rattle.run_core.specs.inner.Knows.{IsKnown}
use Rattle.job_graph.specs.declared.unfolding.Unfolding.{Unfolding}
use Rattle.run_core.proofs.PlansKept.{answer_planned, row_planned, some_known}
use Rattle.run_core.proofs.events.Numbers.{job_there, place_there}
use Rattle.run_core.proofs.events.Learning.{row_teaches, taught}
use Rattle.run_core.proofs.events.Reflecting.{Laws, answer_reflects, find_failed_reflects, known_there, none_is_told}
use Rattle.run_core.proofs.job_steps.Turns.{PicksNext}
use Rattle.run_rules.proofs.events.Places.{one_job}
use Rattle.run_core.proofs.FoundRows.{no_row_found}
use Rattle.job_graph.specs.Words.{JobPlace}

module _ (s : Scene) (given : Given) (laws : Laws s) (t : List Pair) (picks : PicksNext s given t) (f : Progress) (plans : PlansSoFar) (goes : Goes s (InForce s) t f plans) (old : Course) (n : ℕ)
    (job : Job) (planned : KeepsPlans plans (past_of old)) (r : Reflects s f.events old None) (next : FindsNext s f old n job) where
  abbrev asked : RecordRequest
  asked = RecordRequest.Find (key job.tool job.inputs)

  -- with this event more
  by_event : (answer : RecordAnswer) (e : Event) → Steps s f (command job.place asked answer) nothing_due (e ∷ []) → (noted : Course) → KeepsPlans plans (past_of noted) → Reflects s (f.events ++ e ∷ []) noted None →
      (turn : Turn) (new : Course) → Picks given noted turn new → Runs s (t ++ command job.place asked answer ∷ []) new turn
  by_event answer e steps noted kept reflects turn new picked =
      picks (command job.place asked answer) (progress_with f nothing_due (e ∷ [])) plans (comes_on s (command job.place asked answer) nothing_due (e ∷ []) goes next.may steps)
      refl noted turn new kept reflects picked

  known : job_at s f.events job.place ≡ Some job
  known = known_there s f.events old None n job next.it r

  never_open : {o : Option (Result Outcome RunFault)} → IsSome o → o ≡ None → ⊥
  never_open {o = None} some none = let never : false ≡ true = some in cc
  never_open {o = Some x} some none = cc

  settled_by_it : (end : Option (Result Outcome RunFault)) (refusal : RecordRefusal) → is_some (or_else end (Some (Err (RunFault.Record refusal)))) ≡ true
  settled_by_it None refusal = refl
  settled_by_it (Some end) refusal = refl

  settled_now : (noted : Course) (refusal : RecordRefusal) → past_of noted ≡ with_end (Err (RunFault.Record refusal)) (past_of old) → IsSome noted.end
  settled_now noted refusal past = ap (λ (p : Past). is_some p.end) past ∙ settled_by_it old.end refusal

  open_before : (answer : RecordAnswer) (refusal : Option RecordRefusal) (noted : Course) → past_of noted ≡ with_answer n answer refusal (past_of old) → noted.end ≡ None → old.end ≡ None
  open_before answer None noted past going = ap (λ (p : Past). p.end) (sym past) ∙ going
  open_before answer (Some refusal) noted past going = absurd (never_open (settled_now noted refusal past) going)

  told_by : (noted learned : Course) (turn : Turn) (new : Course) {answer : RecordAnswer} {refusal : Option RecordRefusal} → Tells job.tool answer refusal →
      past_of noted ≡ with_answer n answer refusal (past_of old) → noted.known ≡ old.known → LearnsRow job.place answer noted learned → KeepsPlans plans (past_of learned) → Picks given learned turn new →
      Runs s (t ++ command job.place asked answer ∷ []) new turn
  told_by noted learned turn new has_none past still learns kept picked =
      by_event (RecordAnswer.Found None) (no_row job.place) (finds_none job.place (key job.tool job.inputs)) learned kept
      (answer_reflects s f.events old learned n job (no_row job.place) (none_is_told job.place) next.it next.left next.first (RecordAnswer.Found None)
      (no_row_found (known_in old.known) f.events old.rows old.looked_up r.rows n job next.it r.keeps.books.apart next.left r.looks) (learns.0 ∙ past) (learns.1 ∙ still) r) turn new picked
  told_by noted learned turn new (has_row row sound) past still learns kept picked =
      by_event (RecordAnswer.Found (Some row)) (row_found job.place row) (finds job.place (key job.tool job.inputs) row job known sound) learned kept
      (taught s laws f.events old None (row_found job.place row) (record { place = job.place; outputs = row.outputs }) (with_answer n (RecordAnswer.Found (Some row)) None (past_of old)) r
      (row_teaches s f.events old n job next.it row r next.left next.first) noted past still learned learns) turn new picked
  told_by noted learned turn new (has_wrong_row row unsound) past still learns kept picked =
      by_event (RecordAnswer.Found (Some row)) (find_failed job.place NotARecord) (finds_wrong job.place (key job.tool job.inputs) row job known unsound) learned kept
      (find_failed_reflects s f.events old learned None job.place NotARecord (learns.settled (settled_now noted NotARecord past) ∙ past) (learns.unlearned (settled_now noted NotARecord past) ∙ still) r) turn new picked
  told_by noted learned turn new (refuses refusal) past still learns kept picked =
      by_event (RecordAnswer.Refused refusal) (find_failed job.place refusal) (find_fails job.place (key job.tool job.inputs) refusal) learned kept
      (find_failed_reflects s f.events old learned None job.place refusal (learns.0 ∙ past) (learns.1 ∙ still) r) turn new picked

  pub answer_goes_on : (answer : RecordAnswer) (turn : Turn) (new : Course) → AfterFind given old n answer turn new → Runs s (t ++ command job.place asked answer ∷ []) new turn
  answer_goes_on answer turn new after =
      let same : after.job ≡ job = one_job (known_in old.known) n n after.job job refl (job_there (known_in old.known) n after.job after.is_job) next.it in
      told_by after.noted after.learned turn new (subst (λ (j : Job). Tells j.tool answer after.refusal) same after.tells) after.past after.known
      (subst (λ (place : JobPlace). LearnsRow place answer after.noted after.learned) (place_there (known_in old.known) n job next.it) after.learns)
      (row_planned plans (place_at (known_in old.known) n) answer after.noted after.learned
      (λ going. some_known (s.walker (measures f.events)) (resolved f.events) after.noted
      (subst (λ (k : Option Unfolding). IsKnown (s.walker (measures f.events)) (resolved f.events) k) (sym after.known)
      (r.knows (open_before answer after.refusal after.noted after.past going)))) after.learns
      (subst (λ (p : Past). KeepsPlans plans p) (sym after.past) (answer_planned plans n answer after.refusal (past_of old) planned))) after.picks
