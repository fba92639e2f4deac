-- What the machine keeps goes on with each event: a lemma for each.
use Rattle.std.specs.Prelude.{Ok, ◌<◌, ◌≤◌, ◌||◌, Contains, nat_lt, option_map, slice_get, slice_index_or}
use Rattle.std.specs.List.{remove}
use Rattle.std.proofs.Common.{IsSome, ◌≡◌, ◌∙◌, ◌⊎◌, inl, inr, ◌==◌, ◌+◌, ℕ, zero, suc, Bool, true, false, cond, List, [], ◌∷◌, ◌++◌, length, filter, Option, Some, None, refl, sym, ap, subst, arith, length-append}
use Rattle.std.proofs.lemmas.Bool.{eqb-true, lt-ltb, le-ltb, or_parts}
use Rattle.std.proofs.lemmas.List.Edits.{length-remove}
use Rattle.std.proofs.lemmas.List.Elements.{Contains-append_cases}
use Rattle.std.proofs.lemmas.Option.{get_or_from_slice_get, slice_get_within}
use Rattle.command_line.specs.declared.launch.Launch.{Launch}
use Rattle.proc_host.specs.Tickets.{IsFresh, without}
use Rattle.job_graph.specs.Jobs.{Job}
use Rattle.job_graph.specs.Unfold.{Unfolded, or_else}
use Rattle.job_graph.specs.Words.{Fields, JobPlace, is_same_place}
use Rattle.run_rules.specs.declared.outcome.Outcome.{Outcome}
use Rattle.run_rules.specs.declared.outcome.RunFault.{RunFault}
use Rattle.std.specs.Prelude.{Result}
use Rattle.run_rules.specs.End.{End, fails_temporarily, gives_up, settled, settled_by, unfold_end}
use Rattle.run_rules.specs.Events.{Event, archive_differs, child_exited, files_fetched, in_flight, job_failed_for_now, job_staged, job_started, started_at, unfolding_at}
use Rattle.run_rules.specs.Reports.{outcome_of}
use Rattle.run_rules.specs.Scene.{Scene}
use Rattle.run_rules.proofs.Places.{same_place}
use Rattle.run_rules.proofs.events.Course.{Course as Books, Keeps as AreKept, keeps_at_first, keeps_learned, gives_over}
use Rattle.run_rules.proofs.events.Flights.{Flight as Flying, is_flying}
use Rattle.run_rules.proofs.events.Known.{IsFront, front_itself, front_of_front, is_measure, known_jobs_stay, numbered_still, teaches, unfolding_stays}
use Rattle.run_rules.proofs.events.Places.{AreApart, IsJob, one_job, same_itself}
use Rattle.run_rules.proofs.events.Readings.{started_after}
use Rattle.run_rules.proofs.events.Settled.{is_quiet, settled_for_now, settled_more, settled_quietly, settled_stays}
use Rattle.run_rules.proofs.events.Tally.{Readings, is_aside, nothing_read, readings, readings_after, reads_after}
use Rattle.run_rules.proofs.events.Turns.{so_many}
use Rattle.run_core.specs.declared.state.Flight.{Flight}
use Rattle.run_core.specs.declared.job_states.JobState.{JobState}
use Rattle.run_core.specs.declared.state.Kept.{Kept}
use Rattle.plan_keeper.specs.declared.planned.Planned.{Planned}
use Rattle.run_core.specs.inner.Course.{Past, TakesOut, nothing_past, with_end, with_giving_up, with_staging, with_start, with_answer, with_hand, with_load, with_loss, with_note, with_plan}
use Rattle.run_core.specs.inner.Due.{IsKept}
use Rattle.run_core.specs.inner.Keeps.{Keeps, KeepsFlight, course_of, worked}
use Rattle.run_core.specs.inner.Standing.{HasStarted}
use Rattle.run_core.proofs.events.Kept.{Lands, counted_once_more, gave_up_staged, gave_up_with_load, gave_up_with_loss, keeps_end, keeps_failing, keeps_giving_up, keeps_landing, keeps_loading, keeps_missing, keeps_staging, keeps_starting, once_more, tries_with_hand}
use Rattle.run_core.proofs.events.Numbers.{Flies, contains_before, flight_flies, state_there}
use Rattle.run_core.specs.inner.JobStates.{given_up_in, state_at, waits_in}
use Rattle.run_core.proofs.States.{brought_length, given_up_length, loaded_few, missed_few, staged_few}
use Rattle.run_rules.specs.declared.outcome.Note.{Note}
use Rattle.run_rules.specs.declared.request.RecordAnswer.{RecordAnswer}

-- what a place that is resolved leaves as it is
pub record KeepsTheRest (past there : Past) : Type 0 where
  pub few : length there.jobs ≡ length past.jobs
  pub tries : (m : ℕ) → (state_at there.jobs m).gave_up ≡ (state_at past.jobs m).gave_up
  pub tickets : there.tickets ≡ past.tickets
  pub flights : there.flights ≡ past.flights
  pub end : there.end ≡ past.end

pub hand_keeps_the_rest : (past : Past) (n : ℕ) → n < length past.jobs → KeepsTheRest past (with_hand n past)
hand_keeps_the_rest past n within =
    record { few = brought_length past.jobs n; tries = λ m. sym (tries_with_hand past n within m); tickets = refl; flights = refl; end = refl }

flights_still : (es es' : List Event) (jobs more : List Job) (flights : List Flight) → ((place : JobPlace) → started_at es' place ≡ started_at es place) → IsFront jobs more →
    ((flight : Flight) → Contains flights flight → KeepsFlight es jobs flight) → (flight : Flight) → Contains flights flight → KeepsFlight es' more flight
flights_still es es' jobs more flights same leads kept flight there =
    let k : KeepsFlight es jobs flight = kept flight there in
    record { job = k.job; it = numbered_still jobs more flight.job k.job leads k.it; started = k.started; at = same k.job.place ∙ k.at; kept = k.kept }

only_one : {X : Type 0} (x y : X) (k : ℕ) → k < length (x ∷ []) → slice_index_or (x ∷ []) k y ≡ y → x ≡ y
only_one x y zero within is = is
only_one x y (suc k) within is = absurd (omega (arith, within))

-- a place in flight is none that is not
differs_by : (test : Bool) (flying : List Flying) (at place : JobPlace) → is_same_place at place ≡ test → is_flying flying at ≡ false → is_flying flying place ≡ true →
    is_same_place at place ≡ false
differs_by true flying at place is none flies =
    let never : true ≡ false = sym flies ∙ ap (is_flying flying) (sym (same_place at place is)) ∙ none in absurd cc
differs_by false flying at place is none flies = is

pub never_none : {T : Type 0} (o : Option T) (x : T) → or_else o (Some x) ≡ None → ⊥
never_none None x none = cc
never_none (Some y) x none = cc

abbrev Outcomes : Type 0
Outcomes = Result Outcome RunFault

settles_by : (before after : Option End) (end : End) (kept : Option Outcomes) → kept ≡ option_map outcome_of before → (before ≡ None → after ≡ Some end) →
    ((old : End) → before ≡ Some old → after ≡ Some old) → or_else kept (Some (outcome_of end)) ≡ option_map outcome_of after
settles_by None after end kept is first stays =
    ap (λ (o : Option Outcomes). or_else o (Some (outcome_of end))) is ∙ sym (ap (option_map outcome_of) (first refl))
settles_by (Some old) after end kept is first stays =
    ap (λ (o : Option Outcomes). or_else o (Some (outcome_of end))) is ∙ sym (ap (option_map outcome_of) (stays old refl))

none_before : (before : Option End) (kept : Option Outcomes) → kept ≡ option_map outcome_of before → before ≡ None → kept ≡ None
none_before before kept is none = is ∙ ap (option_map outcome_of) none

pub none_settled : (before : Option End) (kept : Option Outcomes) → kept ≡ option_map outcome_of before → kept ≡ None → before ≡ None
none_settled None kept is none = refl
none_settled (Some end) kept is none = let never : None ≡ Some (outcome_of end) = sym none ∙ is in absurd cc

-- and where an end is kept, one has
pub record IsSettledBy (before : Option End) : Type 0 where
  pub end : End
  pub is : before ≡ Some end

pub some_settled : (before : Option End) (kept : Option Outcomes) (told : Outcomes) → kept ≡ option_map outcome_of before → kept ≡ Some told → IsSettledBy before
some_settled (Some end) kept told is some = record { end = end; is = refl }
some_settled None kept told is some = let never : Some told ≡ None = sym some ∙ is in absurd cc

-- with nothing to work on no slot more is taken
idle_slots : (at_work : Option ℕ) (tickets most : ℕ) → tickets + worked at_work ≤ most → tickets + 0 ≤ most
idle_slots None tickets most within = within
idle_slots (Some n) tickets most within = let here : tickets + 1 ≤ most = within in omega (arith, here)

fewer_times : (test : Bool) (n m times most : ℕ) (of : ℕ → ℕ) → (n == m) ≡ test → of n ≡ times → times < most → of m ≤ most → cond (n == m) (suc (of m)) (of m) ≤ most
fewer_times true n m times most of same is below within =
    subst (λ b. cond b (suc (of m)) (of m) ≤ most) (sym same)
    (let its : of m ≡ times = ap of (sym (eqb-true n m same)) ∙ is in omega (arith, its, below))
fewer_times false n m times most of differs is below within = subst (λ b. cond b (suc (of m)) (of m) ≤ most) (sym differs) within

module _ (s : Scene) (es : List Event) (jobs : List Job) where
  books_after : (e : Event) (more : List Job) (c : Books) → AreKept more (reads_after (readings es) e) c → AreKept more (readings (es ++ e ∷ [])) c
  books_after e more c k = subst (λ (r : Readings). AreKept more r c) (sym (readings_after es (e ∷ []))) k

  front_still : (e : Event) → teaches e ≡ false → IsFront jobs (unfolding_at s es).jobs → IsFront jobs (unfolding_at s (es ++ e ∷ [])).jobs
  front_still e none leads = subst (λ (u : Unfolded). IsFront jobs u.jobs) (sym (unfolding_stays s es (e ∷ []) (ap (λ b. b || false) none))) leads

  -- a job is staged
  pub staged_keeps : (past : Past) (n : ℕ) (job : Job) → IsJob jobs n job → waits_in past.jobs n ≡ true →
      length (in_flight es) < s.options.slots → Keeps s es jobs past None →
      Keeps s (es ++ job_staged job.place (past.folders + 1) ∷ []) jobs (with_staging n past) (Some n)
  staged_keeps past n job it free slot k = record {
    gave_up = k.gave_up;
    few = staged_few past.jobs n (past.folders + 1) (length jobs) it.within k.few;
    books = books_after (job_staged job.place (past.folders + 1)) jobs (course_of (with_staging n past) (Some n) k.gave_up)
        (keeps_staging jobs (readings es) past k.gave_up n job it k.books free);
    counts = λ still m. k.counts still m ∙ sym (gave_up_staged past n m);
    retries = λ m. subst (λ times. times ≤ s.options.retries) (sym (gave_up_staged past n m)) (k.retries m);
    slots = let many : length (in_flight es) ≡ length past.tickets = so_many jobs (readings es) (course_of past None k.gave_up) k.books in omega (arith, slot, many);
    flights = flights_still es (es ++ job_staged job.place (past.folders + 1) ∷ []) jobs jobs past.flights
        (λ place. started_after es (job_staged job.place (past.folders + 1) ∷ []) place) (front_itself jobs) k.flights;
    front = front_still (job_staged job.place (past.folders + 1)) refl k.front;
    end = k.end ∙ ap (option_map outcome_of) (sym (settled_quietly s es (job_staged job.place (past.folders + 1) ∷ []) refl));
  }

  -- its files are fetched
  pub loaded_keeps : (past : Past) (n : ℕ) (job : Job) → IsJob jobs n job → waits_in past.jobs n ≡ true → Keeps s es jobs past None →
      Keeps s (es ++ files_fetched job.place (past.folders + 1) ∷ []) jobs (with_load n past) None
  loaded_keeps past n job it free k =
      let e : Event = files_fetched job.place (past.folders + 1) in
      record {
        gave_up = k.gave_up;
        few = loaded_few past.jobs n (past.folders + 1) (length jobs) it.within k.few;
        books = books_after e jobs (course_of (with_load n past) None k.gave_up) (keeps_loading past n jobs (readings es) k.gave_up job it free k.books);
        counts = λ still m. k.counts still m ∙ gave_up_with_load past n m;
        retries = λ m. subst (λ times. times ≤ s.options.retries) (gave_up_with_load past n m) (k.retries m);
        slots = k.slots;
        flights = flights_still es (es ++ e ∷ []) jobs jobs past.flights (λ place. started_after es (e ∷ []) place) (front_itself jobs) k.flights;
        front = front_still e refl k.front;
        end = k.end ∙ ap (option_map outcome_of) (sym (settled_quietly s es (e ∷ []) refl));
      }

  -- or others were
  pub missed_keeps : (past : Past) (n : ℕ) (place : JobPlace) (its_key : List ℕ) → n < length jobs → Keeps s es jobs past None →
      Keeps s (es ++ archive_differs place its_key (past.folders + 1) ∷ []) jobs (with_loss n past) None
  missed_keeps past n place its_key within k =
      let e : Event = archive_differs place its_key (past.folders + 1) in
      record {
        gave_up = k.gave_up;
        few = missed_few past.jobs n (length jobs) within k.few;
        books = books_after e jobs (course_of (with_loss n past) None k.gave_up) (keeps_missing past n jobs (readings es) k.gave_up place its_key k.books);
        counts = λ still m. k.counts still m ∙ gave_up_with_loss past n m;
        retries = λ m. subst (λ times. times ≤ s.options.retries) (gave_up_with_loss past n m) (k.retries m);
        slots = k.slots;
        flights = flights_still es (es ++ e ∷ []) jobs jobs past.flights (λ at. started_after es (e ∷ []) at) (front_itself jobs) k.flights;
        front = front_still e refl k.front;
        end = k.end ∙ ap (option_map outcome_of) (sym (settled_quietly s es (e ∷ []) refl));
      }

  -- its child is started
  started_flights : (past : Past) (n : ℕ) (job : Job) (inputs : Fields) (launch : Launch) (kept : Kept) (ticket : ℕ) → IsJob jobs n job →
      IsKept kept (record { inputs = inputs; launch = launch }) → Keeps s es jobs past (Some n) →
      (flight : Flight) → Contains past.flights flight ⊎ Contains (record { job = n; kept = kept } ∷ []) flight →
      KeepsFlight (es ++ job_started job.place inputs launch ticket ∷ []) jobs flight
  started_flights past n job inputs launch kept ticket it same k flight (inl before) =
      let its : KeepsFlight es jobs flight = k.flights flight before in
      let flies : Flies jobs (in_flight es) flight.job = flight_flies jobs (readings es) past (Some n) k.gave_up k.books flight before in
      let one : flies.job ≡ its.job = one_job jobs flight.job flight.job flies.job its.job refl flies.it its.it in
      let differs : is_same_place job.place its.job.place ≡ false =
      differs_by (is_same_place job.place its.job.place) (in_flight es) job.place its.job.place refl
      (or_parts (is_flying (in_flight es) job.place) ((readings es).at_hand job.place) (k.books.worked n job it refl)).0
      (subst (λ (j : Job). is_flying (in_flight es) j.place ≡ true) one flies.flies) in
      record {
        job = its.job;
        it = its.it;
        started = its.started;
        at = started_after es (job_started job.place inputs launch ticket ∷ []) its.job.place
            ∙ ap (λ b. cond b (Some (record { inputs = inputs; launch = launch })) (started_at es its.job.place)) differs ∙ its.at;
        kept = its.kept;
      }
  started_flights past n job inputs launch kept ticket it same k flight (inr now) =
      subst (KeepsFlight (es ++ job_started job.place inputs launch ticket ∷ []) jobs)
      (only_one (record { job = n; kept = kept }) flight now.0 now.1 now.2)
      (record {
        job = job;
        it = it;
        started = record { inputs = inputs; launch = launch };
        at = started_after es (job_started job.place inputs launch ticket ∷ []) job.place
            ∙ ap (λ b. cond b (Some (record { inputs = inputs; launch = launch })) (started_at es job.place)) (same_itself job.place);
        kept = same;
      })

  pub started_keeps : (past : Past) (n : ℕ) (job : Job) (inputs : Fields) (launch : Launch) (kept : Kept) (ticket : ℕ) → IsJob jobs n job →
      IsKept kept (record { inputs = inputs; launch = launch }) → IsFresh ticket past.tickets → Keeps s es jobs past (Some n) →
      Keeps s (es ++ job_started job.place inputs launch ticket ∷ []) jobs (with_start n kept ticket past) None
  started_keeps past n job inputs launch kept ticket it same fresh k = record {
    gave_up = k.gave_up;
    few = k.few;
    books = books_after (job_started job.place inputs launch ticket) jobs (course_of (with_start n kept ticket past) None k.gave_up)
        (keeps_starting jobs (readings es) past k.gave_up n job it k.books inputs launch kept ticket fresh);
    counts = k.counts;
    retries = k.retries;
    slots = let more : length (past.tickets ++ ticket ∷ []) ≡ length past.tickets + 1 = length-append past.tickets (ticket ∷ []) in
        let before : length past.tickets + 1 ≤ s.options.slots = k.slots in omega (arith, more, before);
    flights = λ flight there. started_flights past n job inputs launch kept ticket it same k flight
        (Contains-append_cases past.flights (record { job = n; kept = kept } ∷ []) flight there);
    front = front_still (job_started job.place inputs launch ticket) refl k.front;
    end = k.end ∙ ap (option_map outcome_of) (sym (settled_quietly s es (job_started job.place inputs launch ticket ∷ []) refl));
  }

  -- a child has ended
  pub record HasLanded (ticket : ℕ) (flight : Flight) (old new : Past) : Type 0 where
    pub job : Job
    pub it : IsJob jobs flight.job job
    pub there : Contains (in_flight es) (ticket, job.place)
    pub left : new.tickets ≡ without ticket old.tickets
    pub begun : HasStarted (es ++ child_exited ticket ∷ []) job.place flight.kept
    pub keeps : Keeps s (es ++ child_exited ticket ∷ []) jobs new (Some flight.job)

  landed_at : (past : Past) (ticket index : ℕ) (flight : Flight) → slice_get past.tickets index ≡ Some ticket → slice_get past.flights index ≡ Some flight →
      Keeps s es jobs past None → HasLanded ticket flight past (record past { tickets = remove past.tickets index; flights = remove past.flights index })
  landed_at past ticket index flight is_ticket is_flight k =
      let new : Past = record past { tickets = remove past.tickets index; flights = remove past.flights index } in
      let lands : Lands jobs (readings es) k.gave_up ticket flight past new =
      keeps_landing jobs (readings es) k.gave_up past new ticket flight
      (record { index = index; ticket_there = is_ticket; flight_there = is_flight; is = refl }) k.books in
      let its : KeepsFlight es jobs flight =
      k.flights flight (index, slice_get_within past.flights index flight is_flight, get_or_from_slice_get past.flights index flight flight is_flight) in
      let one : its.job ≡ lands.job = one_job jobs flight.job flight.job its.job lands.job refl its.it lands.it in
      record {
        job = lands.job;
        it = lands.it;
        there = lands.there;
        left = lands.left;
        begun = record {
          started = its.started;
          at = started_after es (child_exited ticket ∷ []) lands.job.place ∙ ap (λ (j : Job). started_at es j.place) (sym one) ∙ its.at;
          kept_is = its.kept;
        };
        keeps = record {
          gave_up = k.gave_up;
          few = k.few;
          books = books_after (child_exited ticket) jobs (course_of new (Some flight.job) k.gave_up) lands.keeps;
          counts = k.counts;
          retries = k.retries;
          slots = let fewer : length (remove past.tickets index) + 1 ≡ length past.tickets = length-remove past.tickets index (slice_get_within past.tickets index ticket is_ticket) in
              let before : length past.tickets + 0 ≤ s.options.slots = k.slots in omega (arith, fewer, before);
          flights = λ other there.
              flights_still es (es ++ child_exited ticket ∷ []) jobs jobs past.flights (λ place. started_after es (child_exited ticket ∷ []) place) (front_itself jobs) k.flights
              other (contains_before past.flights index other there);
          front = front_still (child_exited ticket) refl k.front;
          end = k.end ∙ ap (option_map outcome_of) (sym (settled_quietly s es (child_exited ticket ∷ []) refl));
        };
      }

  pub landed_keeps : (old new : Past) (ticket : ℕ) (flight : Flight) → TakesOut ticket flight old new → Keeps s es jobs old None → HasLanded ticket flight old new
  landed_keeps old new ticket flight taken k =
      subst (HasLanded ticket flight old) (sym taken.is) (landed_at old ticket taken.index flight taken.ticket_there taken.flight_there k)

  -- it failed for now, and may be started again unless the end is settled
  still_by : (o : Option End) (place : JobPlace) (times : ℕ) → settled s es ≡ o → (settled s es ≡ None → length (filter (gives_up place) es) ≡ times) →
      times < s.options.retries → settled s (es ++ job_failed_for_now place ∷ []) ≡ settled s es
  still_by None place times is counted below =
      settled_for_now s es place is
      ∙ ap (λ b. cond b None (Some (fails_temporarily place)))
      (ap (λ n. nat_lt n s.options.retries) (counted is) ∙ lt-ltb times s.options.retries below)
      ∙ sym is
  still_by (Some end) place times is counted below = settled_stays s es (job_failed_for_now place ∷ []) end is ∙ sym is

  -- how often it did is what is kept
  counted_so : (past : Past) (n : ℕ) (job : Job) (state : JobState) → IsJob jobs n job → slice_get past.jobs n ≡ Some state → Keeps s es jobs past (Some n) →
      settled s es ≡ None → length (filter (gives_up job.place) es) ≡ state.gave_up
  counted_so past n job state it is k none =
      k.books.gave_up n job it ∙ k.counts (none_before (settled s es) past.end k.end none) n ∙ ap (λ (j : JobState). j.gave_up) (state_there past.jobs n state is)

  pub gave_up_keeps : (past : Past) (n : ℕ) (job : Job) (state : JobState) → IsJob jobs n job → slice_get past.jobs n ≡ Some state → state.gave_up < s.options.retries →
      Keeps s es jobs past (Some n) → Keeps s (es ++ job_failed_for_now job.place ∷ []) jobs (with_giving_up n past) None
  gave_up_keeps past n job state it is below k =
      let within : n < length past.jobs = slice_get_within past.jobs n state is in
      record {
        gave_up = once_more n k.gave_up;
        few = let same : length (given_up_in n past.jobs) ≡ length past.jobs = given_up_length past.jobs n in omega (arith, same, k.few);
        books = books_after (job_failed_for_now job.place) jobs (course_of (with_giving_up n past) None (once_more n k.gave_up))
            (keeps_giving_up jobs (readings es) past k.gave_up n job it k.books within);
        counts = λ still m. ap (λ times. cond (n == m) (suc times) times) (k.counts still m) ∙ counted_once_more past n within m;
        retries = λ m. subst (λ times. times ≤ s.options.retries) (counted_once_more past n within m)
            (fewer_times (n == m) n m state.gave_up s.options.retries (λ j. (state_at past.jobs j).gave_up) refl
            (ap (λ (j : JobState). j.gave_up) (state_there past.jobs n state is)) below (k.retries m));
        slots = idle_slots (Some n) (length past.tickets) s.options.slots k.slots;
        flights = flights_still es (es ++ job_failed_for_now job.place ∷ []) jobs jobs past.flights
            (λ place. started_after es (job_failed_for_now job.place ∷ []) place) (front_itself jobs) k.flights;
        front = front_still (job_failed_for_now job.place) refl k.front;
        end = k.end ∙ ap (option_map outcome_of) (sym (still_by (settled s es) job.place state.gave_up refl (counted_so past n job state it is k) below));
      }

  -- it was started again often enough
  too_often_settles : (past : Past) (n : ℕ) (job : Job) (state : JobState) → IsJob jobs n job → slice_get past.jobs n ≡ Some state → s.options.retries ≤ state.gave_up →
      Keeps s es jobs past (Some n) → settled s es ≡ None → settled s (es ++ job_failed_for_now job.place ∷ []) ≡ Some (fails_temporarily job.place)
  too_often_settles past n job state it is often k none =
      settled_for_now s es job.place none
      ∙ ap (λ b. cond b None (Some (fails_temporarily job.place)))
      (ap (λ times. nat_lt times s.options.retries) (counted_so past n job state it is k none) ∙ le-ltb state.gave_up s.options.retries often)

  pub too_often_keeps : (past : Past) (n : ℕ) (job : Job) (state : JobState) → IsJob jobs n job → slice_get past.jobs n ≡ Some state → s.options.retries ≤ state.gave_up →
      Keeps s es jobs past (Some n) →
      Keeps s (es ++ job_failed_for_now job.place ∷ []) jobs (with_end (Ok (Outcome.TemporaryFail job.place)) past) None
  too_often_keeps past n job state it is often k = record {
    gave_up = once_more n k.gave_up;
    few = k.few;
    books = books_after (job_failed_for_now job.place) jobs (course_of (with_end (Ok (Outcome.TemporaryFail job.place)) past) None (once_more n k.gave_up))
        (keeps_end jobs (reads_after (readings es) (job_failed_for_now job.place)) past (Some n) (once_more n k.gave_up) (Ok (Outcome.TemporaryFail job.place))
        (keeps_failing jobs (readings es) past k.gave_up n job it k.books));
    counts = λ still m. absurd (never_none past.end (Ok (Outcome.TemporaryFail job.place)) still);
    retries = k.retries;
    slots = idle_slots (Some n) (length past.tickets) s.options.slots k.slots;
    flights = flights_still es (es ++ job_failed_for_now job.place ∷ []) jobs jobs past.flights
        (λ place. started_after es (job_failed_for_now job.place ∷ []) place) (front_itself jobs) k.flights;
    front = front_still (job_failed_for_now job.place) refl k.front;
    end = settles_by (settled s es) (settled s (es ++ job_failed_for_now job.place ∷ [])) (fails_temporarily job.place) past.end k.end
        (too_often_settles past n job state it is often k) (λ old was. settled_stays s es (job_failed_for_now job.place ∷ []) old was);
  }

  -- a failure settles the end
  pub failed_keeps : (past : Past) (at_work : Option ℕ) (e : Event) (end : End) → is_aside e ≡ true → teaches e ≡ false →
      ((place : JobPlace) → started_at (es ++ e ∷ []) place ≡ started_at es place) → settled_by s es e ≡ Some end → Keeps s es jobs past at_work →
      Keeps s (es ++ e ∷ []) jobs (with_end (outcome_of end) past) None
  failed_keeps past at_work e end aside none same is k = record {
    gave_up = k.gave_up;
    few = k.few;
    books = books_after e jobs (course_of (with_end (outcome_of end) past) None k.gave_up)
        (subst (λ (r : Readings). AreKept jobs r (course_of (with_end (outcome_of end) past) None k.gave_up)) (sym (nothing_read (readings es) e aside))
        (keeps_end jobs (readings es) past at_work k.gave_up (outcome_of end) k.books));
    counts = λ still m. absurd (never_none past.end (outcome_of end) still);
    retries = k.retries;
    slots = idle_slots at_work (length past.tickets) s.options.slots k.slots;
    flights = flights_still es (es ++ e ∷ []) jobs jobs past.flights same (front_itself jobs) k.flights;
    front = front_still e none k.front;
    end = settles_by (settled s es) (settled s (es ++ e ∷ [])) end past.end k.end
        (λ still. settled_more s es e still ∙ ap (λ (o : Option End). or_else o (unfold_end s (es ++ e ∷ []))) is)
        (λ old was. settled_stays s es (e ∷ []) old was);
  }

  -- what settles nothing and is nothing of a job
  pub aside_keeps : (past : Past) (at_work : Option ℕ) (e : Event) → is_aside e ≡ true → is_quiet e ≡ true → teaches e ≡ false →
      ((place : JobPlace) → started_at (es ++ e ∷ []) place ≡ started_at es place) → settled s (es ++ e ∷ []) ≡ settled s es → Keeps s es jobs past at_work →
      Keeps s (es ++ e ∷ []) jobs past at_work
  aside_keeps past at_work e aside quiet none same still k = record {
    gave_up = k.gave_up;
    few = k.few;
    books = books_after e jobs (course_of past at_work k.gave_up)
        (subst (λ (r : Readings). AreKept jobs r (course_of past at_work k.gave_up)) (sym (nothing_read (readings es) e aside)) k.books);
    counts = k.counts;
    retries = k.retries;
    slots = k.slots;
    flights = flights_still es (es ++ e ∷ []) jobs jobs past.flights same (front_itself jobs) k.flights;
    front = front_still e none k.front;
    end = k.end ∙ ap (option_map outcome_of) (sym still);
  }

  -- a plan was made
  pub planned_keeps : (past : Past) (at_work : Option ℕ) (after : ℕ) (made : Planned) → Keeps s es jobs past at_work → Keeps s es jobs (with_plan after made past) at_work
  planned_keeps past at_work after made k = record {
    gave_up = k.gave_up;
    books = k.books;
    few = k.few;
    counts = k.counts;
    retries = k.retries;
    slots = k.slots;
    flights = k.flights;
    front = k.front;
    end = k.end;
  }

  -- the row of a job was looked for
  pub looked_keeps : (past : Past) (n : ℕ) (answer : RecordAnswer) → Keeps s es jobs past None → Keeps s es jobs (with_answer n answer None past) None
  looked_keeps past n answer k = record {
    gave_up = k.gave_up;
    books = k.books;
    few = k.few;
    counts = k.counts;
    retries = k.retries;
    slots = k.slots;
    flights = k.flights;
    front = k.front;
    end = k.end;
  }

  -- where the end is settled nothing is worked on
  pub over_keeps : (past : Past) (at_work : Option ℕ) → IsSome past.end → Keeps s es jobs past at_work → Keeps s es jobs past None
  over_keeps past at_work over k = record {
    gave_up = k.gave_up;
    books = subst (λ (b : Bool). AreKept jobs (readings es) (record (course_of past None k.gave_up) { over = b })) (sym over)
        (gives_over jobs (readings es) (course_of past at_work k.gave_up) k.books);
    few = k.few;
    counts = k.counts;
    retries = k.retries;
    slots = idle_slots at_work (length past.tickets) s.options.slots k.slots;
    flights = k.flights;
    front = k.front;
    end = k.end;
  }

  -- something was noted
  pub noted_keeps : (past : Past) (note : Note) → Keeps s es jobs past None → Keeps s es jobs (with_note note past) None
  noted_keeps past note k = record {
    gave_up = k.gave_up;
    books = k.books;
    few = k.few;
    counts = k.counts;
    retries = k.retries;
    slots = k.slots;
    flights = k.flights;
    front = k.front;
    end = k.end;
  }

  -- a place is resolved, and more may be known
  module _ (past there : Past) (rest : KeepsTheRest past there) (at_work : Option ℕ) (e : Event) (k : Keeps s es jobs past at_work)
      (started : (place : JobPlace) → started_at (es ++ e ∷ []) place ≡ started_at es place)
      (kept : AreKept jobs (reads_after (readings es) e) (course_of there None k.gave_up)) (more : List Job) (leads : IsFront jobs more) (apart : AreApart more)
      (front : IsFront more (unfolding_at s (es ++ e ∷ [])).jobs) where
    more_kept : AreKept more (reads_after (readings es) e) (course_of there None k.gave_up)
    more_kept = keeps_learned jobs (reads_after (readings es) e) (course_of there None k.gave_up) kept more refl leads apart

    more_few : length there.jobs ≤ length more
    more_few = let longer : length more ≡ length jobs + length leads.rest = ap length leads.is ∙ length-append jobs leads.rest in omega (arith, longer, rest.few, k.few)

    more_flights : (flight : Flight) → Contains there.flights flight → KeepsFlight (es ++ e ∷ []) more flight
    more_flights =
        subst (λ (flights : List Flight). (flight : Flight) → Contains flights flight → KeepsFlight (es ++ e ∷ []) more flight) (sym rest.flights)
        (flights_still es (es ++ e ∷ []) jobs more past.flights started leads k.flights)

    more_retries : (m : ℕ) → (state_at there.jobs m).gave_up ≤ s.options.retries
    more_retries m = subst (λ times. times ≤ s.options.retries) (sym (rest.tries m)) (k.retries m)

    more_slots : length there.tickets + 0 ≤ s.options.slots
    more_slots = subst (λ (tickets : List ℕ). length tickets + 0 ≤ s.options.slots) (sym rest.tickets) (idle_slots at_work (length past.tickets) s.options.slots k.slots)

    pub learned_keeps : settled s (es ++ e ∷ []) ≡ settled s es → Keeps s (es ++ e ∷ []) more there None
    learned_keeps still = record {
      gave_up = k.gave_up;
      few = more_few;
      books = books_after e more (course_of there None k.gave_up) more_kept;
      counts = λ none m. k.counts (sym rest.end ∙ none) m ∙ sym (rest.tries m);
      retries = more_retries;
      slots = more_slots;
      flights = more_flights;
      front = front;
      end = rest.end ∙ k.end ∙ ap (option_map outcome_of) (sym still);
    }

    -- and an equation fails by it
    pub learned_fails_keeps : (end : End) → settled s es ≡ None → settled s (es ++ e ∷ []) ≡ Some end →
        Keeps s (es ++ e ∷ []) more (with_end (outcome_of end) there) None
    learned_fails_keeps end none is = record {
      gave_up = k.gave_up;
      few = more_few;
      books = books_after e more (course_of (with_end (outcome_of end) there) None k.gave_up)
          (keeps_end more (reads_after (readings es) e) there None k.gave_up (outcome_of end) more_kept);
      counts = λ still m. absurd (never_none there.end (outcome_of end) still);
      retries = more_retries;
      slots = more_slots;
      flights = more_flights;
      front = front;
      end = settles_by (settled s es) (settled s (es ++ e ∷ [])) end there.end (rest.end ∙ k.end) (λ still. is)
          (λ old was. let never : None ≡ Some old = sym none ∙ was in absurd cc);
    }

  -- before any job is staged
  pub first_keeps : readings es ≡ readings [] → AreApart jobs → IsFront jobs (unfolding_at s es).jobs → settled s es ≡ None → Keeps s es jobs nothing_past None
  first_keeps nothing apart leads none = record {
    gave_up = λ m. 0;
    few = omega arith;
    books = subst (λ (r : Readings). AreKept jobs r (course_of nothing_past None (λ m. 0))) (sym nothing) (keeps_at_first jobs apart);
    counts = λ still m. refl;
    retries = λ m. omega arith;
    slots = omega arith;
    flights = λ flight there. absurd (omega (arith, there.1));
    front = leads;
    end = sym (ap (option_map outcome_of) none);
  }

  pub first_fails_keeps : (end : End) → readings es ≡ readings [] → AreApart jobs → IsFront jobs (unfolding_at s es).jobs → settled s es ≡ Some end →
      Keeps s es jobs (with_end (outcome_of end) nothing_past) None
  first_fails_keeps end nothing apart leads is = record {
    gave_up = λ m. 0;
    few = omega arith;
    books = keeps_end jobs (readings es) nothing_past None (λ m. 0) (outcome_of end)
        (subst (λ (r : Readings). AreKept jobs r (course_of nothing_past None (λ m. 0))) (sym nothing) (keeps_at_first jobs apart));
    counts = λ still m. absurd (never_none None (outcome_of end) still);
    retries = λ m. omega arith;
    slots = omega arith;
    flights = λ flight there. absurd (omega (arith, there.1));
    front = leads;
    end = sym (ap (option_map outcome_of) is);
  }

-- known jobs that are the first of those of the rules still are
pub front_later : (s : Scene) (es : List Event) (jobs : List Job) (e : Event) → is_measure e ≡ false → IsFront jobs (unfolding_at s es).jobs →
    IsFront jobs (unfolding_at s (es ++ e ∷ [])).jobs
front_later s es jobs e none leads =
    front_of_front jobs (unfolding_at s es).jobs (unfolding_at s (es ++ e ∷ [])).jobs leads (known_jobs_stay s es e (λ all. none))
