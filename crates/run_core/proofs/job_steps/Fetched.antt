-- The files of a job's row were fetched, and its archive is used, or others were, whose archive is dropped and discarded: the run goes on.
use Rattle.std.proofs.Common.{◌≡◌, ◌∙◌, ◌+◌, ℕ, false, List, [], ◌∷◌, ◌++◌, Option, Some, None, refl, sym, ap, subst, append-nil}
use Rattle.std.specs.Option.{option_map_or}
use Rattle.proc_host.specs.declared.call.HostAnswer.{HostAnswer}
use Rattle.proc_host.specs.declared.call.HostRequest.{HostRequest}
use Rattle.staging.specs.declared.found.Found.{Found}
use Rattle.job_graph.specs.Jobs.{Job}
use Rattle.job_graph.specs.Words.{JobPlace, Name}
use Rattle.job_rows.specs.declared.row.Row.{Row}
use Rattle.run_rules.specs.declared.request.Pair.{Pair}
use Rattle.run_rules.specs.declared.request.RecordAnswer.{RecordAnswer}
use Rattle.run_rules.specs.declared.request.RecordRequest.{RecordRequest}
use Rattle.run_rules.specs.declared.request.Request.{Request}
use Rattle.run_rules.specs.Answers.{CanTell, is_dropped, is_refused, is_touched}
use Rattle.run_rules.specs.Events.{Event, Progress, Work, archive_differs, discard_due, drop_due, drop_failed, files_fetched, nothing_due, row_at, touch_due, touch_failed}
use Rattle.run_rules.specs.Plans.{InForce, PlansSoFar, is_idle}
use Rattle.run_rules.specs.Run.{Goes}
use Rattle.run_rules.specs.Scene.{Scene}
use Rattle.run_rules.specs.Steps.{Steps, call, command, drop_fails, drops, fetches, fetches_other, progress_with, touch_fails, touches}
use Rattle.run_rules.proofs.events.Asks.{due_when}
use Rattle.run_rules.proofs.events.Grows.{comes_on}
use Rattle.run_rules.proofs.events.Places.{IsJob}
use Rattle.run_core.specs.declared.state.Course.{Course}
use Rattle.run_core.specs.declared.state.Given.{Given}
use Rattle.run_core.specs.declared.state.Phase.{Phase}
use Rattle.run_core.specs.declared.state.Turn.{Turn}
use Rattle.run_core.specs.inner.Course.{Past, drop_note, key_in, known_in, past_of, place_at, touch_note, with_note}
use Rattle.run_core.specs.inner.Discards.{AfterDrop}
use Rattle.run_core.specs.inner.Fetches.{AreOf}
use Rattle.run_core.specs.inner.Keeps.{Reflects}
use Rattle.run_core.specs.inner.Picks.{AfterFetch, AfterTouch, Picks, agrees, differs}
use Rattle.run_core.specs.inner.Standing.{FetchesNext, IsAt, KeepsPlans, Runs, discarding, dropping, touching}
use Rattle.run_core.specs.inner.Turn.{discards, tells_record}
use Rattle.run_core.proofs.PlansKept.{planned_same}
use Rattle.run_core.proofs.events.Numbers.{place_there}
use Rattle.run_core.proofs.events.Reflecting.{drop_failed_reflects, loaded_reflects, missed_reflects, reflects_same, touch_failed_reflects}
use Rattle.run_core.proofs.job_steps.Turns.{PicksNext, runs_due}

-- the record is told of the archive of the row of a job
told_at : (old : Course) (n : ℕ) (job : Job) (key : Name) (tells : Name → RecordRequest) (phase : Phase) → IsJob (known_in old.known) n job → key_in old.rows n ≡ key →
    tells_record (place_at (known_in old.known) n) (tells (key_in old.rows n)) phase ≡ tells_record job.place (tells key) phase
told_at old n job key tells phase it its_key =
    ap (λ (place : JobPlace). tells_record place (tells (key_in old.rows n)) phase) (place_there (known_in old.known) n job it)
    ∙ ap (λ (k : Name). tells_record job.place (tells k) phase) its_key

module _ (s : Scene) (t : List Pair) (f : Progress) (plans : PlansSoFar) (goes : Goes s (InForce s) t f plans) (old : Course) (n : ℕ) (job : Job)
    (row : Row) (planned : KeepsPlans plans (past_of old)) (r : Reflects s f.events old None) (next : FetchesNext s f plans.marks old n job row) where
  abbrev its_fetch : HostRequest
  its_fetch = HostRequest.Fetch row.key (old.folders + 1) row.files

  found_so : row_at f.events job.place ≡ Some row
  found_so = r.rows.each n job next.it ∙ next.found

  its_key : key_in old.rows n ≡ row.key
  its_key = ap (λ (o : Option Row). option_map_or (λ (x : Row). x.key) o []) next.found

  -- the record is told next
  told_next : (found : List Found) (work : Work) (e : Event) → is_idle work ≡ false → Steps s f (call job.place its_fetch (HostAnswer.Fetched found)) work (e ∷ []) → (turn its : Turn) (new : Course) →
      turn ≡ its → KeepsPlans plans (past_of new) → IsAt s (progress_with f work (e ∷ [])) plans.marks new its → Runs s (t ++ call job.place its_fetch (HostAnswer.Fetched found) ∷ []) new turn
  told_next found work e due steps turn its new is kept at =
      let pair : Pair = call job.place its_fetch (HostAnswer.Fetched found) in
      runs_due s (t ++ pair ∷ []) (progress_with f work (e ∷ [])) plans (comes_on s pair work (e ∷ []) goes next.may steps) work refl due turn new kept
      (subst (λ (turn : Turn). IsAt s (progress_with f work (e ∷ [])) plans.marks new turn) (sym is) at)

  pub fetch_goes_on : (found : List Found) (turn : Turn) (new : Course) → AfterFetch old n found turn new → Runs s (t ++ call job.place its_fetch (HostAnswer.Fetched found) ∷ []) new turn
  fetch_goes_on found turn new (agrees its turn_is past known) =
      told_next found (touch_due job.place row.key) (files_fetched job.place (old.folders + 1)) refl
      (fetches job.place row.key (old.folders + 1) row.files found row found_so (subst (λ (o : Option Row). AreOf o found) next.found its)) turn _ new
      (turn_is ∙ told_at old n job row.key RecordRequest.Touch (Phase.Touching n) next.it its_key)
      (subst (λ (p : Past). KeepsPlans plans p) (sym past) planned)
      (touching n job row.key (loaded_reflects s f.events old new n job row next.it next.waits next.found past known r)
      (subst (λ (jobs : List Job). IsJob jobs n job) (ap known_in (sym known)) next.it) refl)
  fetch_goes_on found turn new (differs other turn_is past known) =
      told_next found (drop_due job.place row.key) (archive_differs job.place row.key (old.folders + 1)) refl
      (fetches_other job.place row.key (old.folders + 1) row.files found row found_so (λ its. other (subst (λ (o : Option Row). AreOf o found) (sym next.found) its))) turn _ new
      (turn_is ∙ told_at old n job row.key RecordRequest.DropArchive (Phase.Dropping n) next.it its_key)
      (subst (λ (p : Past). KeepsPlans plans p) (sym past) planned)
      (dropping n job row.key (missed_reflects s f.events old new n job row next.it next.found past known r)
      (subst (λ (jobs : List Job). IsJob jobs n job) (ap known_in (sym known)) next.it) refl
      (sym its_key ∙ ap (λ (p : Past). key_in p.rows n) (sym past)))

-- The record has answered whether it is noted that an archive was used
module _ (s : Scene) (given : Given) (t : List Pair) (picks : PicksNext s given t) (f : Progress) (plans : PlansSoFar) (goes : Goes s (InForce s) t f plans) (old : Course) (n : ℕ) (job : Job)
    (its_key : Name) (planned : KeepsPlans plans (past_of old)) (r : Reflects s f.events old None) (it : IsJob (known_in old.known) n job) (due : f.work ≡ touch_due job.place its_key) where
  abbrev its_touch : RecordRequest
  its_touch = RecordRequest.Touch its_key

  touch_by : (answer : RecordAnswer) (new_events : List Event) → Steps s f (command job.place its_touch answer) nothing_due new_events → (noted : Course) →
      KeepsPlans plans (past_of noted) → Reflects s (f.events ++ new_events) noted None → (turn : Turn) (new : Course) → Picks given noted turn new → Runs s (t ++ command job.place its_touch answer ∷ []) new turn
  touch_by answer new_events steps noted kept reflects turn new picked =
      picks (command job.place its_touch answer) (progress_with f nothing_due new_events) plans
      (comes_on s (command job.place its_touch answer) nothing_due new_events goes
      (due_when s f plans.marks (touch_due job.place its_key) (Request.Record job.place its_touch) due refl) steps)
      refl noted turn new kept reflects picked

  pub touch_goes_on : (answer : RecordAnswer) → CanTell its_touch answer → (turn : Turn) (new : Course) → AfterTouch given old n answer turn new →
      Runs s (t ++ command job.place its_touch answer ∷ []) new turn
  touch_goes_on answer (is_touched key) turn new after =
      touch_by RecordAnswer.Done [] (touches job.place its_key) after.noted (planned_same plans (past_of old) (past_of after.noted) after.past planned)
      (subst (λ (happened : List Event). Reflects s happened after.noted None) (sym (append-nil f.events)) (reflects_same s f.events old after.noted None after.past after.known r))
      turn new after.picks
  touch_goes_on answer (is_refused request refusal) turn new after =
      touch_by (RecordAnswer.Refused refusal) (touch_failed job.place refusal ∷ []) (touch_fails job.place its_key refusal) after.noted (subst (λ (p : Past). KeepsPlans plans p) (sym after.past) planned)
      (touch_failed_reflects s f.events old after.noted job.place refusal
      (after.past ∙ ap (λ (place : JobPlace). with_note (touch_note place refusal) (past_of old)) (place_there (known_in old.known) n job it)) after.known r)
      turn new after.picks

-- The record has answered whether it is noted that an archive is gone
module _ (s : Scene) (t : List Pair) (f : Progress) (plans : PlansSoFar) (goes : Goes s (InForce s) t f plans) (old : Course) (n : ℕ) (job : Job)
    (its_key : Name) (planned : KeepsPlans plans (past_of old)) (r : Reflects s f.events old None) (it : IsJob (known_in old.known) n job) (due : f.work ≡ drop_due job.place its_key)
    (own : its_key ≡ key_in old.rows n) where
  abbrev its_drop : RecordRequest
  its_drop = RecordRequest.DropArchive its_key

  drop_by : (answer : RecordAnswer) (new_events : List Event) → Steps s f (command job.place its_drop answer) (discard_due job.place its_key []) new_events → (turn : Turn) (new : Course) →
      turn ≡ discards (place_at (known_in old.known) n) n (key_in old.rows n) [] → KeepsPlans plans (past_of new) → Reflects s (f.events ++ new_events) new None → new.known ≡ old.known →
      Runs s (t ++ command job.place its_drop answer ∷ []) new turn
  drop_by answer new_events steps turn new is kept reflects known =
      let pair : Pair = command job.place its_drop answer in
      let later : Progress = progress_with f (discard_due job.place its_key []) new_events in
      runs_due s (t ++ pair ∷ []) later plans
      (comes_on s pair (discard_due job.place its_key []) new_events goes
      (due_when s f plans.marks (drop_due job.place its_key) (Request.Record job.place its_drop) due refl) steps)
      (discard_due job.place its_key []) refl refl turn new kept
      (subst (λ (turn : Turn). IsAt s later plans.marks new turn)
      (ap (λ (place : JobPlace). discards place n its_key []) (sym (place_there (known_in old.known) n job it))
      ∙ ap (λ (key : Name). discards (place_at (known_in old.known) n) n key []) own ∙ sym is)
      (discarding n job its_key [] reflects (subst (λ (jobs : List Job). IsJob jobs n job) (ap known_in (sym known)) it) refl))

  pub drop_goes_on : (answer : RecordAnswer) → CanTell its_drop answer → (turn : Turn) (new : Course) → AfterDrop old n answer turn new →
      Runs s (t ++ command job.place its_drop answer ∷ []) new turn
  drop_goes_on answer (is_dropped key) turn new after =
      drop_by RecordAnswer.Done [] (drops job.place its_key) turn new after.is (planned_same plans (past_of old) (past_of new) after.past planned)
      (subst (λ (happened : List Event). Reflects s happened new None) (sym (append-nil f.events)) (reflects_same s f.events old new None after.past after.known r)) after.known
  drop_goes_on answer (is_refused request refusal) turn new after =
      drop_by (RecordAnswer.Refused refusal) (drop_failed job.place refusal ∷ []) (drop_fails job.place its_key refusal) turn new after.is
      (subst (λ (p : Past). KeepsPlans plans p) (sym after.past) planned)
      (drop_failed_reflects s f.events old new job.place refusal
      (after.past ∙ ap (λ (place : JobPlace). with_note (drop_note place refusal) (past_of old)) (place_there (known_in old.known) n job it)) after.known r) after.known
