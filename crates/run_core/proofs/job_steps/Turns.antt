-- A job that goes on, has failed or gave its outputs: the machine is at its next turn.
use Rattle.std.proofs.Common.{◌≡◌, ◌∙◌, ℕ, Bool, true, false, List, [], ◌∷◌, ◌++◌, Option, Some, None, length, refl, sym, ap, subst, append-nil, Err}
use Rattle.proc_host.specs.declared.call.HostRequest.{HostRequest}
use Rattle.job_graph.specs.declared.unfolding.Unfolding.{Unfolding}
use Rattle.job_graph.specs.Jobs.{Job}
use Rattle.job_graph.specs.Words.{JobPlace, Fields, Name}
use Rattle.run_rules.specs.declared.request.Pair.{Pair}
use Rattle.run_rules.specs.Events.{Event, Progress, Work, job_failed, job_repeated, job_succeeded, measures, nothing_due, put_due, resolved, row_differs, store_due, folder_at, is_fetched, number_at}
use Rattle.run_rules.specs.declared.setting.Options.{Options}
use Rattle.run_rules.specs.Folders.{left_folder, out_folder}
use Rattle.run_rules.specs.Keeps.{work_to_keep}
use Rattle.run_rules.specs.Plans.{PlansSoFar, is_idle}
use Rattle.run_rules.specs.Scene.{Scene}
use Rattle.run_rules.proofs.events.Grows.{Comes}
use Rattle.run_rules.proofs.events.Places.{IsJob}
use Rattle.run_rules.proofs.events.Planned.{no_plan_when_due, stays_in_force}
use Rattle.run_rules.proofs.events.Readings.{fetched_after, number_after}
use Rattle.run_core.specs.declared.state.Course.{Course}
use Rattle.run_core.specs.declared.state.Given.{Given}
use Rattle.run_core.specs.declared.state.JobNext.{JobNext}
use Rattle.run_core.specs.declared.state.JobPhase.{JobPhase}
use Rattle.run_core.specs.declared.job_states.JobState.{JobState}
use Rattle.run_core.specs.declared.state.Turn.{Turn}
use Rattle.run_core.specs.inner.Course.{Past, known_in, past_of, place_at, with_end, with_hand, failure_in}
use Rattle.run_core.specs.inner.Due.{Calls, CallsNext, events_next, work_next, work_of}
use Rattle.run_core.specs.inner.Keeps.{Reflects}
use Rattle.run_core.specs.inner.Knows.{LearnsUnlessOver}
use Rattle.run_core.specs.inner.Picks.{Picks, Turns, asks, fails, gives, Puts, PutsOrPicks, mismatches, repeats}
use Rattle.run_core.specs.inner.Standing.{IsAt, KeepsPlans, Runs, WorksOn, working, putting, storing}
use Rattle.run_core.specs.inner.Turn.{keeps_row, puts, stores, works}
use Rattle.run_core.proofs.PlansKept.{learned_planned, planned_same, some_known}
use Rattle.run_core.proofs.events.Numbers.{place_there}
use Rattle.run_core.proofs.standing.Leaving.{known_still}
use Rattle.run_core.proofs.events.Learning.{Teaches, job_is_still_known, outputs_teach, taught}
use Rattle.run_core.proofs.events.Reflecting.{Laws, job_failed_reflects, reflects_same, repeated_reflects, mismatch_reflects, staged_there}
use Rattle.run_core.specs.inner.JobStates.{state_at}
use Rattle.job_rows.specs.declared.row.Row.{Row}
use Rattle.run_rules.specs.declared.outcome.RunFault.{RunFault}

-- where nothing is due, the run is made whole by a plan, where one is due, and the machine is at what it turns to
abbrev pub PicksAt : Scene → Given → List Pair → Type 0
PicksAt s given t =
    (f : Progress) (plans : PlansSoFar) → Comes s t f plans → f.work ≡ nothing_due → (old : Course) (turn : Turn) (new : Course) → KeepsPlans plans (past_of old) →
    Reflects s f.events old None → Picks given old turn new → Runs s t new turn

-- after one more pair
abbrev pub PicksNext : Scene → Given → List Pair → Type 0
PicksNext s given t = (p : Pair) → PicksAt s given (t ++ p ∷ [])

-- where something is due, the plan stays
pub runs_due : (s : Scene) (t : List Pair) (f : Progress) (plans : PlansSoFar) → Comes s t f plans → (work : Work) → f.work ≡ work → is_idle work ≡ false → (turn : Turn) (new : Course) →
    KeepsPlans plans (past_of new) → IsAt s f plans.marks new turn → Runs s t new turn
runs_due s t f plans comes work is due turn new planned at = record {
  happened = f;
  plans = plans;
  goes = comes plans (stays_in_force s f (length t) plans (no_plan_when_due s f work is due));
  planned = planned;
  at = at;
}

work_is_due : (options : Options) (folder : ℕ) (place : JobPlace) (call : HostRequest) (phase : JobPhase) → Calls options folder call phase → is_idle (work_of place call phase) ≡ false
work_is_due options folder place call (JobPhase.Filling filling) calls = refl
work_is_due options folder place (HostRequest.Start launch) (JobPhase.Starting kept) calls = refl
work_is_due options folder place call (JobPhase.Starting kept) calls = absurd (let never : None ≡ Some call = calls.due in cc)
work_is_due options folder place call (JobPhase.Scanning kept millis) calls = refl
work_is_due options folder place call (JobPhase.Reading kept reading) calls = refl

-- of a job that goes on after its child has ended is kept what the child was started by
abbrev pub WorksNext : List Event → JobPlace → JobNext → Type 0
WorksNext es place (JobNext.Asks call phase) = WorksOn es place phase
WorksNext es place next = Unit {0}

module _ (s : Scene) (given : Given) (same_options : given.options ≡ s.options) (laws : Laws s) (t : List Pair) (picks : PicksAt s given t) (f : Progress) (plans : PlansSoFar) (comes : Comes s t f plans)
    (es : List Event) (old : Course) (n : ℕ) (job : Job) (planned : KeepsPlans plans (past_of old)) (r : Reflects s es old (Some n)) (it : IsJob (known_in old.known) n job) where
  there : place_at (known_in old.known) n ≡ job.place
  there = place_there (known_in old.known) n job it

  -- it goes on
  goes_on_at : (call : HostRequest) (phase : JobPhase) (new : Course) → past_of new ≡ past_of old → new.known ≡ old.known → f.work ≡ work_of job.place call phase →
      f.events ≡ es → Calls s.options (state_at old.jobs n).folder call phase → WorksOn es job.place phase → Runs s t new (works (place_at (known_in old.known) n) n call phase)
  goes_on_at call phase new same known work events calls on =
      runs_due s t f plans comes (work_of job.place call phase) work (work_is_due s.options (state_at old.jobs n).folder job.place call phase calls)
      (works (place_at (known_in old.known) n) n call phase) new (planned_same plans (past_of old) (past_of new) same planned)
      (subst (λ (place : JobPlace). IsAt s f plans.marks new (works place n call phase)) (sym there)
      (working n job call phase
      (subst (λ (happened : List Event). Reflects s happened new (Some n)) (sym events) (reflects_same s es old new (Some n) same known r))
      (record {
        it = subst (λ (k : Option Unfolding). IsJob (known_in k) n job) (sym known) it;
        due = work;
        calls = subst (λ (states : List JobState). Calls s.options (state_at states n).folder call phase) (sym (ap (λ (p : Past). p.jobs) same)) calls;
        on = subst (λ (happened : List Event). WorksOn happened job.place phase) (sym events) on;
      })))

  -- nothing of it is due any more
  turns_by : (e : Event) (over : Course) (turn : Turn) (new : Course) → f.work ≡ nothing_due → f.events ≡ es ++ e ∷ [] → KeepsPlans plans (past_of over) →
      Reflects s (es ++ e ∷ []) over None → Picks given over turn new → Runs s t new turn
  turns_by e over turn new work events kept reflects picked =
      picks f plans comes work over turn new kept (subst (λ (happened : List Event). Reflects s happened over None) (sym events) reflects) picked

  -- its row is kept next
  kept_by : (keep : Bool) (row : Row) (new : Course) → f.work ≡ work_to_keep keep job.place row → KeepsPlans plans (past_of new) → Reflects s f.events new None →
      IsJob (known_in new.known) n job → Runs s t new (keeps_row keep (folder_at s f.events job.place) job.place n row)
  kept_by true row new work kept reflects its =
      runs_due s t f plans comes (store_due job.place row) work refl (stores job.place n (folder_at s f.events job.place) row) new kept (storing n job row reflects its work)
  kept_by false row new work kept reflects its = runs_due s t f plans comes (put_due job.place row) work refl (puts job.place n row) new kept (putting n job row reflects its work)

  -- its outputs are still where it was staged last, after an event that stages nothing
  folder_still : (e : Event) → number_at (es ++ e ∷ []) job.place ≡ number_at es job.place → is_fetched (es ++ e ∷ []) job.place ≡ is_fetched es job.place → f.events ≡ es ++ e ∷ [] →
      folder_at s f.events job.place ≡ out_folder s.options.work (state_at old.jobs n).folder
  folder_still e stages_none fetches_none events =
      ap (λ (happened : List Event). folder_at s happened job.place) events
      ∙ ap (λ b. left_folder s.options.work b (number_at (es ++ e ∷ []) job.place)) (fetches_none ∙ (staged_there s es old n job it r).1)
      ∙ ap (λ (k : ℕ). out_folder s.options.work k) (stages_none ∙ (staged_there s es old n job it r).0)

  -- after such an event its row is kept next
  keeping_at : (e : Event) (row : Row) (over : Course) (turn : Turn) (new : Course) → f.work ≡ work_to_keep s.options.keep job.place row →
      number_at (es ++ e ∷ []) job.place ≡ number_at es job.place → is_fetched (es ++ e ∷ []) job.place ≡ is_fetched es job.place → f.events ≡ es ++ e ∷ [] →
      KeepsPlans plans (past_of over) → Reflects s (es ++ e ∷ []) over None →
      IsJob (known_in over.known) n job → Puts given (place_at (known_in old.known) n) (state_at old.jobs n).folder over n row turn new → Runs s t new turn
  keeping_at e row over turn new work stages_none fetches_none events kept reflects still put =
      subst (λ (its : Turn). Runs s t new its)
      (ap (λ (folder : Name). keeps_row s.options.keep folder job.place n row) (folder_still e stages_none fetches_none events)
      ∙ ap (λ (o : Options). keeps_row o.keep (out_folder o.work (state_at old.jobs n).folder) job.place n row) (sym same_options)
      ∙ ap (λ (place : JobPlace). keeps_row given.options.keep (out_folder given.options.work (state_at old.jobs n).folder) place n row) (sym there) ∙ sym put.is)
      (kept_by s.options.keep row new work (planned_same plans (past_of over) (past_of new) put.past kept)
      (subst (λ (happened : List Event). Reflects s happened new None) (sym events)
      (reflects_same s (es ++ e ∷ []) over new None put.past put.known reflects))
      (subst (λ (k : Option Unfolding). IsJob (known_in k) n job) (sym put.known) still))

  -- its outputs are there: its row is kept next, if one is made of it
  gives_by : (outputs : Fields) (row : Option Row) (over : Course) (turn : Turn) (new : Course) → f.work ≡ work_next s.options.keep job.place (JobNext.Gives outputs row) →
      f.events ≡ es ++ job_succeeded job.place outputs ∷ [] → KeepsPlans plans (past_of over) → Reflects s (es ++ job_succeeded job.place outputs ∷ []) over None →
      IsJob (known_in over.known) n job → PutsOrPicks given (place_at (known_in old.known) n) (state_at old.jobs n).folder over n row turn new → Runs s t new turn
  gives_by outputs None over turn new work events kept reflects still picked = turns_by (job_succeeded job.place outputs) over turn new work events kept reflects picked
  gives_by outputs (Some row) over turn new work events kept reflects still put =
      keeping_at (job_succeeded job.place outputs) row over turn new work (number_after es (job_succeeded job.place outputs ∷ []) job.place) (fetched_after es (job_succeeded job.place outputs ∷ []) job.place) events kept reflects still put

  pub turns_at : (next : JobNext) (turn : Turn) (new : Course) → f.work ≡ work_next s.options.keep job.place next → f.events ≡ es ++ events_next job.place next →
      CallsNext s.options (state_at old.jobs n).folder next → WorksNext es job.place next → Turns given old n next turn new → Runs s t new turn
  turns_at next turn new work events calls on (asks call phase same_but past known) =
      goes_on_at call phase same_but past known work (events ∙ append-nil es) calls on
  turns_at next turn new work events calls on (fails cause failed next_turn course past known picked) =
      turns_by (job_failed job.place cause) failed next_turn course work events (subst (λ (p : Past). KeepsPlans plans p) (sym past) planned)
      (job_failed_reflects s es old failed (Some n) n job cause it (past ∙ ap (λ (place : JobPlace). with_end (failure_in (past_of old) n place cause) (past_of old)) there) known r)
      picked
  turns_at next turn new work events calls on (gives outputs row learned next_turn course given_it picked) =
      let its : LearnsUnlessOver (record { place = job.place; outputs = outputs }) given_it.there learned =
      subst (λ (place : JobPlace). LearnsUnlessOver (record { place = place; outputs = outputs }) given_it.there learned) there given_it.learns in
      let teaches : Teaches s es old (Some n) (job_succeeded job.place outputs) (record { place = job.place; outputs = outputs }) (with_hand n (past_of old)) r =
      outputs_teach s es old n job it outputs r in
      gives_by outputs row learned next_turn course work events
      (learned_planned plans given_it.there learned (record { place = job.place; outputs = outputs })
      (known_still old given_it.there (ap (λ (p : Past). p.end) given_it.past) given_it.known (λ going. some_known (s.walker (measures es)) (resolved es) old (r.knows going))) its
      (subst (λ (p : Past). KeepsPlans plans p) (sym given_it.past) planned))
      (taught s laws es old (Some n) (job_succeeded job.place outputs) (record { place = job.place; outputs = outputs }) (with_hand n (past_of old)) r teaches
      given_it.there given_it.past given_it.known learned its)
      (job_is_still_known s laws es old (Some n) (job_succeeded job.place outputs) (record { place = job.place; outputs = outputs }) (with_hand n (past_of old)) r teaches
      given_it.there given_it.past given_it.known learned its n job it) picked
  turns_at next turn new work events calls on (repeats row brought next_turn course past known put) =
      keeping_at (job_repeated job.place) row brought next_turn course work (number_after es (job_repeated job.place ∷ []) job.place) (fetched_after es (job_repeated job.place ∷ []) job.place) events
      (subst (λ (p : Past). KeepsPlans plans p) (sym past) planned) (repeated_reflects s es old brought n job it past known r)
      (subst (λ (k : Option Unfolding). IsJob (known_in k) n job) (sym known) it) put
  turns_at next turn new work events calls on (mismatches outputs failed next_turn course past known picked) =
      turns_by (row_differs job.place outputs) failed next_turn course work events (subst (λ (p : Past). KeepsPlans plans p) (sym past) planned)
      (mismatch_reflects s es old failed (Some n) job.place outputs (past ∙ ap (λ (place : JobPlace). with_end (Err (RunFault.Mismatch place)) (past_of old)) there) known r)
      picked
