-- What the machine keeps of its run is a course of the run's events: each function on it goes on as the event does.
use Rattle.std.specs.Prelude.{◌<◌, Contains, is_some, option_map, slice_get}
use Rattle.std.specs.List.{remove}
use Rattle.std.proofs.Common.{◌≡◌, ◌∙◌, ◌==◌, ◌+◌, ℕ, zero, suc, Bool, true, false, cond, List, [], ◌∷◌, length, Option, Some, None, Result, refl, sym, ap, subst, arith}
use Rattle.std.proofs.Math.Dec.{eqb-suc-suc, eqb-suc-zero, eqb-zero-suc}
use Rattle.std.proofs.lemmas.Bool.{eqb-true}
use Rattle.std.proofs.lemmas.List.{map-append}
use Rattle.std.proofs.lemmas.Option.{get_or_from_slice_get, slice_get-map, slice_get_within}
use Rattle.command_line.specs.declared.launch.Launch.{Launch}
use Rattle.proc_host.specs.Tickets.{IsFresh, without}
use Rattle.run_rules.specs.declared.outcome.Outcome.{Outcome}
use Rattle.run_rules.specs.declared.outcome.RunFault.{RunFault}
use Rattle.job_graph.specs.Words.{Fields}
use Rattle.job_graph.specs.Jobs.{Job}
use Rattle.job_graph.specs.Unfold.{or_else}
use Rattle.run_rules.specs.Events.{archive_differs, child_exited, files_fetched, job_failed_for_now, job_repeated, job_staged, job_started}
use Rattle.run_rules.proofs.events.Course.{Keeps as AreKept, gives_over, keeps_at_hand, keeps_gave_up, keeps_given_back, keeps_landed, keeps_loaded, keeps_missed, keeps_staged, keeps_started, when_landed}
use Rattle.run_rules.proofs.events.Places.{IsJob}
use Rattle.run_rules.proofs.events.Tally.{Readings, reads_after}
use Rattle.run_rules.proofs.events.Turns.{FliesAt, flies_taken, flight_of, tickets_left}
use Rattle.run_core.specs.declared.state.Flight.{Flight}
use Rattle.run_core.specs.declared.job_states.JobState.{JobState}
use Rattle.run_core.specs.declared.state.Kept.{Kept}
use Rattle.run_core.specs.inner.Course.{Past, TakesOut, with_end, with_giving_up, with_hand, with_load, with_loss, with_staging, with_start}
use Rattle.run_core.specs.inner.Keeps.{course_of, numbers_of}
use Rattle.run_core.specs.inner.JobStates.{brought_in, given_up_in, is_there, load_state, loaded_in, missed_in, staged_in, state_at, untouched, waits_in}
use Rattle.job_graph.specs.Words.{JobPlace}

-- A job is staged

state_staged : (states : List JobState) (n folder m : ℕ) →
    state_at (staged_in n folder states) m ≡ cond (n == m) (record (state_at states n) { waits = false; folder = folder; fetched = false }) (state_at states m)
state_staged [] zero folder zero = refl
state_staged [] zero folder (suc m) = sym (ap (λ b. cond b (record untouched { waits = false; folder = folder; fetched = false }) untouched) (eqb-zero-suc m))
state_staged [] (suc n) folder zero = sym (ap (λ b. cond b (record untouched { waits = false; folder = folder; fetched = false }) untouched) (eqb-suc-zero n))
state_staged [] (suc n) folder (suc m) =
    state_staged [] n folder m ∙ sym (ap (λ b. cond b (record untouched { waits = false; folder = folder; fetched = false }) untouched) (eqb-suc-suc n m))
state_staged (x ∷ states) zero folder zero = refl
state_staged (x ∷ states) zero folder (suc m) = sym (ap (λ b. cond b (record x { waits = false; folder = folder; fetched = false }) (state_at states m)) (eqb-zero-suc m))
state_staged (x ∷ states) (suc n) folder zero = sym (ap (λ b. cond b (record (state_at states n) { waits = false; folder = folder; fetched = false }) x) (eqb-suc-zero n))
state_staged (x ∷ states) (suc n) folder (suc m) =
    state_staged states n folder m
    ∙ sym (ap (λ b. cond b (record (state_at states n) { waits = false; folder = folder; fetched = false }) (state_at states m)) (eqb-suc-suc n m))

waits_if : (b : Bool) (folder : ℕ) (one other : JobState) → (cond b (record one { waits = false; folder = folder; fetched = false }) other).waits ≡ cond b false other.waits
waits_if true folder one other = refl
waits_if false folder one other = refl

folder_if : (b : Bool) (folder : ℕ) (one other : JobState) → (cond b (record one { waits = false; folder = folder; fetched = false }) other).folder ≡ cond b folder other.folder
folder_if true folder one other = refl
folder_if false folder one other = refl

gave_up_if : (b : Bool) (folder : ℕ) (one other : JobState) → (b ≡ true → one ≡ other) →
    (cond b (record one { waits = false; folder = folder; fetched = false }) other).gave_up ≡ other.gave_up
gave_up_if true folder one other same = ap (λ (state : JobState). state.gave_up) (same refl)
gave_up_if false folder one other same = refl

fetched_if : (b : Bool) (folder : ℕ) (one other : JobState) →
    (cond b (record one { waits = false; folder = folder; fetched = false }) other).fetched ≡ cond b false other.fetched
fetched_if true folder one other = refl
fetched_if false folder one other = refl

tried_if : (b : Bool) (folder : ℕ) (one other : JobState) → (b ≡ true → one ≡ other) →
    (cond b (record one { waits = false; folder = folder; fetched = false }) other).tried ≡ other.tried
tried_if true folder one other same = ap (λ (state : JobState). state.tried) (same refl)
tried_if false folder one other same = refl

there_if : (b : Bool) (folder : ℕ) (one other : JobState) → (b ≡ true → one ≡ other) →
    (cond b (record one { waits = false; folder = folder; fetched = false }) other).at_hand ≡ other.at_hand
there_if true folder one other same = ap (λ (state : JobState). state.at_hand) (same refl)
there_if false folder one other same = refl

module _ (past : Past) (n : ℕ) where
  pub waits_staged : (m : ℕ) → waits_in (with_staging n past).jobs m ≡ cond (n == m) false (waits_in past.jobs m)
  waits_staged m =
      ap (λ (state : JobState). state.waits) (state_staged past.jobs n (past.folders + 1) m)
      ∙ waits_if (n == m) (past.folders + 1) (state_at past.jobs n) (state_at past.jobs m)

  pub folder_staged : (m : ℕ) → (state_at (with_staging n past).jobs m).folder ≡ cond (n == m) (past.folders + 1) (state_at past.jobs m).folder
  folder_staged m =
      ap (λ (state : JobState). state.folder) (state_staged past.jobs n (past.folders + 1) m)
      ∙ folder_if (n == m) (past.folders + 1) (state_at past.jobs n) (state_at past.jobs m)

  pub gave_up_staged : (m : ℕ) → (state_at (with_staging n past).jobs m).gave_up ≡ (state_at past.jobs m).gave_up
  gave_up_staged m =
      ap (λ (state : JobState). state.gave_up) (state_staged past.jobs n (past.folders + 1) m)
      ∙ gave_up_if (n == m) (past.folders + 1) (state_at past.jobs n) (state_at past.jobs m) (λ same. ap (state_at past.jobs) (eqb-true n m same))

  pub fetched_staged : (m : ℕ) → (state_at (with_staging n past).jobs m).fetched ≡ cond (n == m) false (state_at past.jobs m).fetched
  fetched_staged m =
      ap (λ (state : JobState). state.fetched) (state_staged past.jobs n (past.folders + 1) m)
      ∙ fetched_if (n == m) (past.folders + 1) (state_at past.jobs n) (state_at past.jobs m)

  pub tried_staged : (m : ℕ) → (state_at (with_staging n past).jobs m).tried ≡ (state_at past.jobs m).tried
  tried_staged m =
      ap (λ (state : JobState). state.tried) (state_staged past.jobs n (past.folders + 1) m)
      ∙ tried_if (n == m) (past.folders + 1) (state_at past.jobs n) (state_at past.jobs m) (λ same. ap (state_at past.jobs) (eqb-true n m same))

  pub there_staged : (m : ℕ) → is_there (with_staging n past).jobs m ≡ is_there past.jobs m
  there_staged m =
      ap (λ (state : JobState). state.at_hand) (state_staged past.jobs n (past.folders + 1) m)
      ∙ there_if (n == m) (past.folders + 1) (state_at past.jobs n) (state_at past.jobs m) (λ same. ap (state_at past.jobs) (eqb-true n m same))

module _ (jobs : List Job) (r : Readings) (past : Past) (g : ℕ → ℕ) (n : ℕ) (job : Job) (it : IsJob jobs n job) where
  one_more : suc past.folders ≡ past.folders + 1
  one_more = omega arith

  pub keeps_staging : AreKept jobs r (course_of past None g) → waits_in past.jobs n ≡ true →
      AreKept jobs (reads_after r (job_staged job.place (past.folders + 1))) (course_of (with_staging n past) (Some n) g)
  keeps_staging k free =
      subst (AreKept jobs (reads_after r (job_staged job.place (past.folders + 1))))
      (λ i. record {
        tickets = past.tickets;
        numbers = numbers_of past.flights;
        waits = λ m. sym (waits_staged past n m) i;
        at_hand = λ m. sym (there_staged past n m) i;
        folder = λ m. sym (folder_staged past n m) i;
        fetched = λ m. sym (fetched_staged past n m) i;
        gave_up = g;
        folders = one_more i;
        at_work = Some n;
        over = is_some past.end;
      })
      (keeps_staged jobs r (course_of past None g) k n job (past.folders + 1) it free refl)

-- Its child is started

module _ (jobs : List Job) (r : Readings) (past : Past) (g : ℕ → ℕ) (n : ℕ) (job : Job) (it : IsJob jobs n job) (k : AreKept jobs r (course_of past (Some n) g)) where
  pub keeps_starting : (inputs : Fields) (launch : Launch) (kept : Kept) (ticket : ℕ) → IsFresh ticket past.tickets →
      AreKept jobs (reads_after r (job_started job.place inputs launch ticket)) (course_of (with_start n kept ticket past) None g)
  keeps_starting inputs launch kept ticket fresh =
      subst (λ (numbers : List ℕ). AreKept jobs (reads_after r (job_started job.place inputs launch ticket)) (record (course_of (with_start n kept ticket past) None g) { numbers = numbers }))
      (sym (map-append (λ (flight : Flight). flight.job) past.flights (record { job = n; kept = kept } ∷ [])))
      (keeps_started jobs r (course_of past (Some n) g) k n job inputs launch ticket it refl fresh)

-- Its child has ended

numbers_removed : (flights : List Flight) (index : ℕ) → remove (numbers_of flights) index ≡ numbers_of (remove flights index)
numbers_removed [] zero = refl
numbers_removed [] (suc index) = refl
numbers_removed (x ∷ flights) zero = refl
numbers_removed (x ∷ flights) (suc index) = ap (λ (ns : List ℕ). x.job ∷ ns) (numbers_removed flights index)

-- the job of the flight that is taken out, and what is kept then
pub record Lands (jobs : List Job) (r : Readings) (g : ℕ → ℕ) (ticket : ℕ) (flight : Flight) (old new : Past) : Type 0 where
  pub job : Job
  pub it : IsJob jobs flight.job job
  pub there : Contains r.flying (ticket, job.place)
  pub left : new.tickets ≡ without ticket old.tickets
  pub keeps : AreKept jobs (reads_after r (child_exited ticket)) (course_of new (Some flight.job) g)

module _ (jobs : List Job) (r : Readings) (g : ℕ → ℕ) (old new : Past) (ticket : ℕ) (flight : Flight) (taken : TakesOut ticket flight old new) (k : AreKept jobs r (course_of old None g)) where
  lands_at : (at : FliesAt jobs r.flying (numbers_of old.flights) taken.index ticket) → at.number ≡ flight.job → Lands jobs r g ticket flight old new
  lands_at at same = record {
    job = at.job;
    it = subst (λ number. IsJob jobs number at.job) same at.it;
    there = (taken.index, at.within, at.flight);
    left = ap (λ (past : Past). past.tickets) taken.is ∙ tickets_left jobs r (course_of old None g) k taken.index ticket at;
    keeps = subst (λ (past : Past). AreKept jobs (reads_after r (child_exited ticket)) (course_of past (Some flight.job) g)) (sym taken.is)
        (subst (λ (numbers : List ℕ). AreKept jobs (reads_after r (child_exited ticket))
        (record (course_of old (Some flight.job) g) { tickets = remove old.tickets taken.index; numbers = numbers })) (numbers_removed old.flights taken.index)
        (subst (λ number. AreKept jobs (reads_after r (child_exited ticket)) (when_landed jobs r (course_of old None g) k taken.index number)) same
        (keeps_landed jobs r (course_of old None g) k taken.index at.number (ticket, at.job.place) at.job at.within at.flight at.it refl refl
        (flies_taken jobs r (course_of old None g) k taken.index ticket at))));
  }

  pub keeps_landing : Lands jobs r g ticket flight old new
  keeps_landing =
      let at : FliesAt jobs r.flying (numbers_of old.flights) taken.index ticket =
      flight_of jobs r (course_of old None g) k taken.index ticket (slice_get_within old.tickets taken.index ticket taken.ticket_there)
      (get_or_from_slice_get old.tickets taken.index ticket ticket taken.ticket_there) in
      let number : slice_get (numbers_of old.flights) taken.index ≡ Some flight.job =
      slice_get-map (λ (f : Flight). f.job) old.flights taken.index ∙ ap (option_map (λ (f : Flight). f.job)) taken.flight_there in
      lands_at at (sym at.numbered ∙ get_or_from_slice_get (numbers_of old.flights) taken.index flight.job at.number number)

-- It gave up, and waits again

state_given_up : (states : List JobState) (n m : ℕ) → n < length states →
    state_at (given_up_in n states) m ≡ cond (n == m) (record (state_at states m) { waits = true; gave_up = (state_at states m).gave_up + 1 }) (state_at states m)
state_given_up [] n m within = absurd (omega (arith, within))
state_given_up (x ∷ states) zero zero within = refl
state_given_up (x ∷ states) zero (suc m) within =
    sym (ap (λ b. cond b (record (state_at states m) { waits = true; gave_up = (state_at states m).gave_up + 1 }) (state_at states m)) (eqb-zero-suc m))
state_given_up (x ∷ states) (suc n) zero within = sym (ap (λ b. cond b (record x { waits = true; gave_up = x.gave_up + 1 }) x) (eqb-suc-zero n))
state_given_up (x ∷ states) (suc n) (suc m) within =
    state_given_up states n m (omega (arith, within))
    ∙ sym (ap (λ b. cond b (record (state_at states m) { waits = true; gave_up = (state_at states m).gave_up + 1 }) (state_at states m)) (eqb-suc-suc n m))

waits_given_up : (b : Bool) (state : JobState) → cond b true state.waits ≡ (cond b (record state { waits = true; gave_up = state.gave_up + 1 }) state).waits
waits_given_up true state = refl
waits_given_up false state = refl

folder_given_up : (b : Bool) (state : JobState) → state.folder ≡ (cond b (record state { waits = true; gave_up = state.gave_up + 1 }) state).folder
folder_given_up true state = refl
folder_given_up false state = refl

there_given_up : (b : Bool) (state : JobState) → state.at_hand ≡ (cond b (record state { waits = true; gave_up = state.gave_up + 1 }) state).at_hand
there_given_up true state = refl
there_given_up false state = refl

fetched_given_up : (b : Bool) (state : JobState) → state.fetched ≡ (cond b (record state { waits = true; gave_up = state.gave_up + 1 }) state).fetched
fetched_given_up true state = refl
fetched_given_up false state = refl

tried_given_up : (b : Bool) (state : JobState) → state.tried ≡ (cond b (record state { waits = true; gave_up = state.gave_up + 1 }) state).tried
tried_given_up true state = refl
tried_given_up false state = refl

gave_up_given_up : (b : Bool) (state : JobState) → cond b (suc state.gave_up) state.gave_up ≡ (cond b (record state { waits = true; gave_up = state.gave_up + 1 }) state).gave_up
gave_up_given_up true state = omega arith
gave_up_given_up false state = refl

module _ (past : Past) (n : ℕ) (within : n < length past.jobs) where
  pub waits_again : (m : ℕ) → cond (n == m) true (waits_in past.jobs m) ≡ waits_in (with_giving_up n past).jobs m
  waits_again m = waits_given_up (n == m) (state_at past.jobs m) ∙ ap (λ (s : JobState). s.waits) (sym (state_given_up past.jobs n m within))

  pub folder_kept : (m : ℕ) → (state_at past.jobs m).folder ≡ (state_at (with_giving_up n past).jobs m).folder
  folder_kept m = folder_given_up (n == m) (state_at past.jobs m) ∙ ap (λ (s : JobState). s.folder) (sym (state_given_up past.jobs n m within))

  pub fetched_kept : (m : ℕ) → (state_at past.jobs m).fetched ≡ (state_at (with_giving_up n past).jobs m).fetched
  fetched_kept m = fetched_given_up (n == m) (state_at past.jobs m) ∙ ap (λ (s : JobState). s.fetched) (sym (state_given_up past.jobs n m within))

  pub tried_kept : (m : ℕ) → (state_at past.jobs m).tried ≡ (state_at (with_giving_up n past).jobs m).tried
  tried_kept m = tried_given_up (n == m) (state_at past.jobs m) ∙ ap (λ (s : JobState). s.tried) (sym (state_given_up past.jobs n m within))

  pub there_kept : (m : ℕ) → is_there past.jobs m ≡ is_there (with_giving_up n past).jobs m
  there_kept m = there_given_up (n == m) (state_at past.jobs m) ∙ ap (λ (s : JobState). s.at_hand) (sym (state_given_up past.jobs n m within))

  pub counted_once_more : (m : ℕ) → cond (n == m) (suc (state_at past.jobs m).gave_up) (state_at past.jobs m).gave_up ≡ (state_at (with_giving_up n past).jobs m).gave_up
  counted_once_more m = gave_up_given_up (n == m) (state_at past.jobs m) ∙ ap (λ (s : JobState). s.gave_up) (sym (state_given_up past.jobs n m within))

-- how often each gave up then
abbrev pub once_more : ℕ → (ℕ → ℕ) → ℕ → ℕ
once_more n g m = cond (n == m) (suc (g m)) (g m)

module _ (jobs : List Job) (r : Readings) (past : Past) (g : ℕ → ℕ) (n : ℕ) (job : Job) (it : IsJob jobs n job) (k : AreKept jobs r (course_of past (Some n) g)) where
  -- whether or not the machine counts it
  pub keeps_failing : AreKept jobs (reads_after r (job_failed_for_now job.place)) (course_of past (Some n) (once_more n g))
  keeps_failing = keeps_gave_up jobs r (course_of past (Some n) g) k n job it refl

  pub keeps_giving_up : n < length past.jobs → AreKept jobs (reads_after r (job_failed_for_now job.place)) (course_of (with_giving_up n past) None (once_more n g))
  keeps_giving_up within =
      subst (AreKept jobs (reads_after r (job_failed_for_now job.place)))
      (λ i. record {
        tickets = past.tickets;
        numbers = numbers_of past.flights;
        waits = λ m. waits_again past n within m i;
        at_hand = λ m. there_kept past n within m i;
        folder = λ m. folder_kept past n within m i;
        fetched = λ m. fetched_kept past n within m i;
        gave_up = once_more n g;
        folders = past.folders;
        at_work = None;
        over = is_some past.end;
      })
      (keeps_given_back jobs (reads_after r (job_failed_for_now job.place)) (course_of past (Some n) (once_more n g)) keeps_failing n job it refl)

-- Its outputs are at hand

state_brought : (states : List JobState) (n m : ℕ) → n < length states →
    state_at (brought_in n states) m ≡ cond (n == m) (record (state_at states m) { at_hand = true }) (state_at states m)
state_brought [] n m within = absurd (omega (arith, within))
state_brought (x ∷ states) zero zero within = refl
state_brought (x ∷ states) zero (suc m) within = sym (ap (λ b. cond b (record (state_at states m) { at_hand = true }) (state_at states m)) (eqb-zero-suc m))
state_brought (x ∷ states) (suc n) zero within = sym (ap (λ b. cond b (record x { at_hand = true }) x) (eqb-suc-zero n))
state_brought (x ∷ states) (suc n) (suc m) within =
    state_brought states n m (omega (arith, within))
    ∙ sym (ap (λ b. cond b (record (state_at states m) { at_hand = true }) (state_at states m)) (eqb-suc-suc n m))

waits_brought : (b : Bool) (state : JobState) → state.waits ≡ (cond b (record state { at_hand = true }) state).waits
waits_brought true state = refl
waits_brought false state = refl

folder_brought : (b : Bool) (state : JobState) → state.folder ≡ (cond b (record state { at_hand = true }) state).folder
folder_brought true state = refl
folder_brought false state = refl

there_brought : (b : Bool) (state : JobState) → cond b true state.at_hand ≡ (cond b (record state { at_hand = true }) state).at_hand
there_brought true state = refl
there_brought false state = refl

fetched_brought : (b : Bool) (state : JobState) → state.fetched ≡ (cond b (record state { at_hand = true }) state).fetched
fetched_brought true state = refl
fetched_brought false state = refl

tried_brought : (b : Bool) (state : JobState) → state.tried ≡ (cond b (record state { at_hand = true }) state).tried
tried_brought true state = refl
tried_brought false state = refl

tries_brought : (b : Bool) (state : JobState) → state.gave_up ≡ (cond b (record state { at_hand = true }) state).gave_up
tries_brought true state = refl
tries_brought false state = refl

module _ (past : Past) (n : ℕ) (within : n < length past.jobs) where
  by_state : {X : Type 0} (part : JobState → X) (m : ℕ) → part (cond (n == m) (record (state_at past.jobs m) { at_hand = true }) (state_at past.jobs m)) ≡ part (state_at (with_hand n past).jobs m)
  by_state part m = ap part (sym (state_brought past.jobs n m within))

  pub tries_with_hand : (m : ℕ) → (state_at past.jobs m).gave_up ≡ (state_at (with_hand n past).jobs m).gave_up
  tries_with_hand m = tries_brought (n == m) (state_at past.jobs m) ∙ by_state (λ state. state.gave_up) m

  pub tried_with_hand : (m : ℕ) → (state_at past.jobs m).tried ≡ (state_at (with_hand n past).jobs m).tried
  tried_with_hand m = tried_brought (n == m) (state_at past.jobs m) ∙ by_state (λ state. state.tried) m

  pub fetched_with_hand : (m : ℕ) → (state_at past.jobs m).fetched ≡ (state_at (with_hand n past).jobs m).fetched
  fetched_with_hand m = fetched_brought (n == m) (state_at past.jobs m) ∙ by_state (λ state. state.fetched) m

  pub there_with_hand : (m : ℕ) → cond (n == m) true (is_there past.jobs m) ≡ is_there (with_hand n past).jobs m
  there_with_hand m = there_brought (n == m) (state_at past.jobs m) ∙ by_state (λ state. state.at_hand) m

  pub keeps_bringing : (jobs : List Job) (r : Readings) (g : ℕ → ℕ) (job : Job) → IsJob jobs n job → AreKept jobs r (course_of past (Some n) g) →
      AreKept jobs (reads_after r (job_repeated job.place)) (course_of (with_hand n past) None g)
  keeps_bringing jobs r g job it k =
      subst (AreKept jobs (reads_after r (job_repeated job.place)))
      (λ i. record {
        tickets = past.tickets;
        numbers = numbers_of past.flights;
        waits = λ m. (waits_brought (n == m) (state_at past.jobs m) ∙ by_state (λ state. state.waits) m) i;
        at_hand = λ m. there_with_hand m i;
        folder = λ m. (folder_brought (n == m) (state_at past.jobs m) ∙ by_state (λ state. state.folder) m) i;
        fetched = λ m. fetched_with_hand m i;
        gave_up = g;
        folders = past.folders;
        at_work = None;
        over = is_some past.end;
      })
      (keeps_at_hand jobs r (course_of past (Some n) g) k n job it refl)

-- Its files were fetched

abbrev loaded_if : Bool → ℕ → JobState → JobState
loaded_if b folder state = cond b (load_state folder state) state

state_loaded : (states : List JobState) (n folder m : ℕ) → state_at (loaded_in n folder states) m ≡ loaded_if (n == m) folder (state_at states m)
state_loaded [] zero folder zero = refl
state_loaded [] zero folder (suc m) = sym (ap (λ b. loaded_if b folder untouched) (eqb-zero-suc m))
state_loaded [] (suc n) folder zero = sym (ap (λ b. loaded_if b folder untouched) (eqb-suc-zero n))
state_loaded [] (suc n) folder (suc m) = state_loaded [] n folder m ∙ sym (ap (λ b. loaded_if b folder untouched) (eqb-suc-suc n m))
state_loaded (x ∷ states) zero folder zero = refl
state_loaded (x ∷ states) zero folder (suc m) = sym (ap (λ b. loaded_if b folder (state_at states m)) (eqb-zero-suc m))
state_loaded (x ∷ states) (suc n) folder zero = sym (ap (λ b. loaded_if b folder x) (eqb-suc-zero n))
state_loaded (x ∷ states) (suc n) folder (suc m) = state_loaded states n folder m ∙ sym (ap (λ b. loaded_if b folder (state_at states m)) (eqb-suc-suc n m))

waits_loaded : (b : Bool) (folder : ℕ) (state : JobState) → cond b false state.waits ≡ (loaded_if b folder state).waits
waits_loaded true folder state = refl
waits_loaded false folder state = refl

there_loaded : (b : Bool) (folder : ℕ) (state : JobState) → cond b true state.at_hand ≡ (loaded_if b folder state).at_hand
there_loaded true folder state = refl
there_loaded false folder state = refl

folder_loaded : (b : Bool) (folder : ℕ) (state : JobState) → cond b folder state.folder ≡ (loaded_if b folder state).folder
folder_loaded true folder state = refl
folder_loaded false folder state = refl

fetched_loaded : (b : Bool) (folder : ℕ) (state : JobState) → cond b true state.fetched ≡ (loaded_if b folder state).fetched
fetched_loaded true folder state = refl
fetched_loaded false folder state = refl

tried_loaded : (b : Bool) (folder : ℕ) (state : JobState) → cond b true state.tried ≡ (loaded_if b folder state).tried
tried_loaded true folder state = refl
tried_loaded false folder state = refl

gave_up_loaded : (b : Bool) (folder : ℕ) (state : JobState) → state.gave_up ≡ (loaded_if b folder state).gave_up
gave_up_loaded true folder state = refl
gave_up_loaded false folder state = refl

module _ (past : Past) (n : ℕ) where
  part_loaded : {X : Type 0} (part : JobState → X) (m : ℕ) → part (loaded_if (n == m) (past.folders + 1) (state_at past.jobs m)) ≡ part (state_at (with_load n past).jobs m)
  part_loaded part m = ap part (sym (state_loaded past.jobs n (past.folders + 1) m))

  pub tried_with_load : (m : ℕ) → cond (n == m) true (state_at past.jobs m).tried ≡ (state_at (with_load n past).jobs m).tried
  tried_with_load m = tried_loaded (n == m) (past.folders + 1) (state_at past.jobs m) ∙ part_loaded (λ state. state.tried) m

  pub fetched_with_load : (m : ℕ) → cond (n == m) true (state_at past.jobs m).fetched ≡ (state_at (with_load n past).jobs m).fetched
  fetched_with_load m = fetched_loaded (n == m) (past.folders + 1) (state_at past.jobs m) ∙ part_loaded (λ state. state.fetched) m

  pub there_with_load : (m : ℕ) → cond (n == m) true (is_there past.jobs m) ≡ is_there (with_load n past).jobs m
  there_with_load m = there_loaded (n == m) (past.folders + 1) (state_at past.jobs m) ∙ part_loaded (λ state. state.at_hand) m

  pub gave_up_with_load : (m : ℕ) → (state_at past.jobs m).gave_up ≡ (state_at (with_load n past).jobs m).gave_up
  gave_up_with_load m = gave_up_loaded (n == m) (past.folders + 1) (state_at past.jobs m) ∙ part_loaded (λ state. state.gave_up) m

  pub keeps_loading : (jobs : List Job) (r : Readings) (g : ℕ → ℕ) (job : Job) → IsJob jobs n job → waits_in past.jobs n ≡ true → AreKept jobs r (course_of past None g) →
      AreKept jobs (reads_after r (files_fetched job.place (past.folders + 1))) (course_of (with_load n past) None g)
  keeps_loading jobs r g job it free k =
      subst (AreKept jobs (reads_after r (files_fetched job.place (past.folders + 1))))
      (λ i. record {
        tickets = past.tickets;
        numbers = numbers_of past.flights;
        waits = λ m. (waits_loaded (n == m) (past.folders + 1) (state_at past.jobs m) ∙ part_loaded (λ state. state.waits) m) i;
        at_hand = λ m. there_with_load m i;
        folder = λ m. (folder_loaded (n == m) (past.folders + 1) (state_at past.jobs m) ∙ part_loaded (λ state. state.folder) m) i;
        fetched = λ m. fetched_with_load m i;
        gave_up = g;
        folders = one_after past.folders i;
        at_work = None;
        over = is_some past.end;
      })
      (keeps_loaded jobs r (course_of past None g) k n job (past.folders + 1) it free refl)
    where
      one_after : (folders : ℕ) → suc folders ≡ folders + 1
      one_after folders = omega arith

-- What was fetched is not what its row has

abbrev missed_if : Bool → JobState → JobState
missed_if b state = cond b (record state { tried = true }) state

state_missed : (states : List JobState) (n m : ℕ) → state_at (missed_in n states) m ≡ missed_if (n == m) (state_at states m)
state_missed [] zero zero = refl
state_missed [] zero (suc m) = sym (ap (λ b. missed_if b untouched) (eqb-zero-suc m))
state_missed [] (suc n) zero = sym (ap (λ b. missed_if b untouched) (eqb-suc-zero n))
state_missed [] (suc n) (suc m) = state_missed [] n m ∙ sym (ap (λ b. missed_if b untouched) (eqb-suc-suc n m))
state_missed (x ∷ states) zero zero = refl
state_missed (x ∷ states) zero (suc m) = sym (ap (λ b. missed_if b (state_at states m)) (eqb-zero-suc m))
state_missed (x ∷ states) (suc n) zero = sym (ap (λ b. missed_if b x) (eqb-suc-zero n))
state_missed (x ∷ states) (suc n) (suc m) = state_missed states n m ∙ sym (ap (λ b. missed_if b (state_at states m)) (eqb-suc-suc n m))

missed_same : {X : Type 0} (part : JobState → X) → ((state : JobState) → part (record state { tried = true }) ≡ part state) → (b : Bool) (state : JobState) →
    part state ≡ part (missed_if b state)
missed_same part same true state = sym (same state)
missed_same part same false state = refl

tried_missed : (b : Bool) (state : JobState) → cond b true state.tried ≡ (missed_if b state).tried
tried_missed true state = refl
tried_missed false state = refl

module _ (past : Past) (n : ℕ) where
  part_missed : {X : Type 0} (part : JobState → X) → ((state : JobState) → part (record state { tried = true }) ≡ part state) → (m : ℕ) →
      part (state_at past.jobs m) ≡ part (state_at (with_loss n past).jobs m)
  part_missed part same m = missed_same part same (n == m) (state_at past.jobs m) ∙ ap part (sym (state_missed past.jobs n m))

  pub tried_with_loss : (m : ℕ) → cond (n == m) true (state_at past.jobs m).tried ≡ (state_at (with_loss n past).jobs m).tried
  tried_with_loss m = tried_missed (n == m) (state_at past.jobs m) ∙ ap (λ (state : JobState). state.tried) (sym (state_missed past.jobs n m))

  pub fetched_with_loss : (m : ℕ) → (state_at past.jobs m).fetched ≡ (state_at (with_loss n past).jobs m).fetched
  fetched_with_loss m = part_missed (λ state. state.fetched) (λ state. refl) m

  pub there_with_loss : (m : ℕ) → is_there past.jobs m ≡ is_there (with_loss n past).jobs m
  there_with_loss m = part_missed (λ state. state.at_hand) (λ state. refl) m

  pub gave_up_with_loss : (m : ℕ) → (state_at past.jobs m).gave_up ≡ (state_at (with_loss n past).jobs m).gave_up
  gave_up_with_loss m = part_missed (λ state. state.gave_up) (λ state. refl) m

  pub keeps_missing : (jobs : List Job) (r : Readings) (g : ℕ → ℕ) (place : JobPlace) (its_key : List ℕ) → AreKept jobs r (course_of past None g) →
      AreKept jobs (reads_after r (archive_differs place its_key (past.folders + 1))) (course_of (with_loss n past) None g)
  keeps_missing jobs r g place its_key k =
      subst (AreKept jobs (reads_after r (archive_differs place its_key (past.folders + 1))))
      (λ i. record {
        tickets = past.tickets;
        numbers = numbers_of past.flights;
        waits = λ m. part_missed (λ state. state.waits) (λ state. refl) m i;
        at_hand = λ m. there_with_loss m i;
        folder = λ m. part_missed (λ state. state.folder) (λ state. refl) m i;
        fetched = λ m. part_missed (λ state. state.fetched) (λ state. refl) m i;
        gave_up = g;
        folders = one_after past.folders i;
        at_work = None;
        over = is_some past.end;
      })
      (keeps_missed jobs r (course_of past None g) k place its_key (past.folders + 1))
    where
      one_after : (folders : ℕ) → suc folders ≡ folders + 1
      one_after folders = omega arith

-- The end is settled

some_end : (first : Option (Result Outcome RunFault)) (end : Result Outcome RunFault) → true ≡ is_some (or_else first (Some end))
some_end None end = refl
some_end (Some first) end = refl

pub keeps_end : (jobs : List Job) (r : Readings) (past : Past) (at_work : Option ℕ) (g : ℕ → ℕ) (end : Result Outcome RunFault) → AreKept jobs r (course_of past at_work g) →
    AreKept jobs r (course_of (with_end end past) None g)
keeps_end jobs r past at_work g end k =
    subst (λ over. AreKept jobs r (record (course_of past None g) { over = over })) (some_end past.end end) (gives_over jobs r (course_of past at_work g) k)
