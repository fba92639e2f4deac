-- What the machine asks, where it is in its run: it may be asked, its phase fits it, and the course's lists fit one another.
use Rattle.std.specs.Prelude.{◌<◌, ◌≤◌, ◌≢◌, ◌&&◌, Contains, is_some}
use Rattle.std.proofs.Common.{◌≡◌, ◌∙◌, ◌+◌, ℕ, Bool, true, false, List, [], ◌∷◌, length, reverse, Option, Some, None, refl, sym, ap, subst, arith}
use Rattle.std.proofs.lemmas.Bool.{or_parts}
use Rattle.plan_checker.specs.declared.plan.Mark.{Mark}
use Rattle.proc_host.specs.declared.call.HostRequest.{HostRequest}
use Rattle.collected_outputs.specs.Contents.{Heads}
use Rattle.collected_outputs.specs.HeadsWanted.{limit_of}
use Rattle.cwl_value.specs.declared.value.TheConstants.{MOST_CONTENTS}
use Rattle.staging.specs.Groups.{path_in}
use Rattle.staging.specs.declared.found.Found.{Found}
use Rattle.staging.specs.declared.plan.StagePlan.{StagePlan}
use Rattle.job_graph.specs.Jobs.{Job}
use Rattle.job_graph.specs.Words.{Fields, JobPlace, Name}
use Rattle.run_rules.specs.declared.request.Pair.{Pair}
use Rattle.run_rules.specs.declared.request.Request.{Request}
use Rattle.run_rules.specs.declared.setting.Options.{Options}
use Rattle.run_rules.specs.Allowed.{Allowed, MayCollect, MayMeasure}
use Rattle.run_rules.specs.Events.{Event, Progress, in_flight, input_heads_due, output_heads_due, put_due, store_due, folder_at, discard_due, drop_due, touch_due}
use Rattle.run_rules.specs.Folders.{out_folder}
use Rattle.run_rules.specs.Scene.{Scene}
use Rattle.run_rules.specs.Plans.{InForce, number_of, PlansSoFar, no_plans}
use Rattle.run_rules.specs.Run.{Goes}
use Rattle.run_core.specs.inner.Fetches.{can_load}
use Rattle.job_rows.specs.declared.row.Row.{Row}
use Rattle.run_rules.proofs.events.Course.{Keeps as AreKept}
use Rattle.run_rules.proofs.events.Flights.{is_flying}
use Rattle.run_rules.proofs.events.Tally.{Readings, readings}
use Rattle.run_rules.proofs.events.Lookups.{LooksUp}
use Rattle.run_rules.proofs.events.Places.{IsJob, number_is}
use Rattle.run_rules.proofs.events.Planned.{jobs_in}
use Rattle.run_rules.proofs.events.Ready.{AreParentsThere, NoneIsReady}
use Rattle.run_rules.proofs.events.Staged.{lowest_fetched, lowest_first}
use Rattle.run_rules.proofs.events.Turns.{so_many}
use Rattle.job_key.specs.Key.{key}
use Rattle.run_rules.specs.declared.request.RecordRequest.{RecordRequest}
use Rattle.run_core.specs.declared.state.Course.{Course}
use Rattle.run_core.specs.declared.state.Flight.{Flight}
use Rattle.run_core.specs.declared.state.Given.{Given}
use Rattle.run_core.specs.declared.state.JobPhase.{JobPhase}
use Rattle.run_core.specs.declared.state.Kept.{Kept}
use Rattle.run_core.specs.declared.state.Phase.{Phase}
use Rattle.run_core.specs.declared.state.Turn.{Turn}
use Rattle.run_core.specs.inner.Course.{Past, families_in, known_in, nothing_past, past_of}
use Rattle.run_core.specs.inner.Due.{FitsCall, call_for, work_of}
use Rattle.run_core.specs.inner.Follows.{AsksIn, AsksOf}
use Rattle.run_core.specs.inner.Keeps.{Reflects, course_of}
use Rattle.run_core.specs.Order.{IsFirst}
use Rattle.run_core.specs.inner.Standing.{IsAt, IsStaging, Runs, collecting, delivering, ended, measuring, staging, working, finding, putting, storing, FetchesNext, FindsNext, discarding, dropping, touching, fetching}
use Rattle.run_core.specs.inner.Marks.{is_load}
use Rattle.plan_checker.specs.Plan.{mark}
use Rattle.run_core.proofs.events.Families.{ready_if}
use Rattle.run_core.proofs.events.Numbers.{Flies, flight_flies, flights_as_many}
use Rattle.run_core.proofs.events.Reflecting.{Laws, staged_there}
use Rattle.run_core.proofs.going.InOrder.{IsLowest, in_order, lowest_found}
use Rattle.run_core.proofs.going.Measured.{IsOf, may_measure}
use Rattle.run_core.proofs.going.Picking.{all_known, all_kept, loads_at, nor_kept, loads_can}
use Rattle.run_core.proofs.job_steps.Calls.{IsForJob, for_job, working_allowed}
use Rattle.run_core.specs.inner.JobStates.{is_ready, state_at, waits_in}
use Rattle.run_core.proofs.States.{taken_within}
use Rattle.run_rules.proofs.events.Asks.{due_when}

-- the phase fits the call that is due

input_asks : (options : Options) (course : Course) (place : JobPlace) (n folder : ℕ) (filling : Fields) (todo : List Name) (read : Heads) (call : HostRequest) (phase : JobPhase) →
    call_for options folder (input_heads_due [] filling todo read) ≡ Some call → ((path : Name) (limit : ℕ) → AsksOf course (Request.Host place (HostRequest.Head path limit)) (Phase.Working n phase)) →
    AsksOf course (Request.Host place call) (Phase.Working n phase)
input_asks options course place n folder staged [] read call phase due fits = let never : None ≡ Some call = due in absurd cc
input_asks options course place n folder staged (path ∷ todo) read call phase due fits =
    let same : HostRequest.Head path MOST_CONTENTS ≡ call = cc in
    subst (λ (c : HostRequest). AsksOf course (Request.Host place c) (Phase.Working n phase)) same (fits path MOST_CONTENTS)

output_asks : (options : Options) (course : Course) (place : JobPlace) (n folder millis : ℕ) (found : List Found) (todo : List Name) (read : Heads) (call : HostRequest) (phase : JobPhase) →
    call_for options folder (output_heads_due [] millis found todo read) ≡ Some call → ((path : Name) (limit : ℕ) → AsksOf course (Request.Host place (HostRequest.Head path limit)) (Phase.Working n phase)) →
    AsksOf course (Request.Host place call) (Phase.Working n phase)
output_asks options course place n folder millis found [] read call phase due fits = let never : None ≡ Some call = due in absurd cc
output_asks options course place n folder millis found (name ∷ todo) read call phase due fits =
    let same : HostRequest.Head (path_in (out_folder options.work folder) name) (limit_of name) ≡ call = cc in
    subst (λ (c : HostRequest). AsksOf course (Request.Host place c) (Phase.Working n phase)) same (fits (path_in (out_folder options.work folder) name) (limit_of name))

starting_asks : (course : Course) (place : JobPlace) (n : ℕ) (call : HostRequest) (kept : Kept) → FitsCall call (JobPhase.Starting kept) → n < length course.jobs →
    AsksOf course (Request.Host place call) (Phase.Working n (JobPhase.Starting kept))
starting_asks course place n (HostRequest.Start launch) kept fits within = within
starting_asks course place n call kept fits within = absurd fits

work_asks : (options : Options) (course : Course) (place : JobPlace) (n folder : ℕ) (call : HostRequest) (phase : JobPhase) → call_for options folder (work_of [] call phase) ≡ Some call →
    FitsCall call phase → n < length course.jobs → AsksOf course (Request.Host place call) (Phase.Working n phase)
work_asks options course place n folder call (JobPhase.Filling filling) due fits within =
    input_asks options course place n folder filling.staged (reverse filling.left) filling.heads call (JobPhase.Filling filling) due (λ path limit. within)
work_asks options course place n folder call (JobPhase.Starting kept) due fits within = starting_asks course place n call kept fits within
work_asks options course place n folder call (JobPhase.Scanning kept millis) due fits within =
    let same : HostRequest.Scan (out_folder options.work folder) ≡ call = cc in
    subst (λ (c : HostRequest). AsksOf course (Request.Host place c) (Phase.Working n (JobPhase.Scanning kept millis))) same within
work_asks options course place n folder call (JobPhase.Reading kept reading) due fits within =
    output_asks options course place n folder reading.millis reading.found (reverse reading.left) reading.heads call (JobPhase.Reading kept reading) due (λ path limit. within)

-- a job in flight was touched
flies_below : (jobs : List Job) (r : Readings) (past : Past) (at_work : Option ℕ) (g : ℕ → ℕ) → AreKept jobs r (course_of past at_work g) → (n : ℕ) → Flies jobs r.flying n →
    (test : Bool) → waits_in past.jobs n ≡ test → n < length past.jobs
flies_below jobs r past at_work g k n its true waits =
    let never : true ≡ false = sym its.flies ∙ (or_parts (is_flying r.flying its.job.place) (r.at_hand its.job.place) (k.waiting n its.job its.it waits)).0 in absurd cc
flies_below jobs r past at_work g k n its false taken = taken_within past.jobs n taken

-- the course's lists fit one another
pub record AreFitting (course : Course) : Type 0 where
  pub as_many : length course.flights.items ≡ length course.tickets.items
  pub flights : (flight : Flight) → Contains course.flights.items flight → flight.job < length course.jobs
  pub staged : length course.jobs ≤ length (known_in course.known)

nothing_fits : (course : Course) (past : Past) → past_of course ≡ past → past ≡ nothing_past → AreFitting course
nothing_fits course past is nothing =
    let none : past_of course ≡ nothing_past = is ∙ nothing in
    let no_flights : course.flights.items ≡ [] = ap (λ (p : Past). p.flights) none in
    let no_tickets : course.tickets.items ≡ [] = ap (λ (p : Past). p.tickets) none in
    let no_jobs : length course.jobs ≡ 0 = ap (λ (p : Past). length p.jobs) none in
    record {
      as_many = ap length no_flights ∙ sym (ap length no_tickets);
      flights = λ flight there.
          let fewer : length course.flights.items ≡ 0 = ap length no_flights in
          absurd (omega (arith, there.1, fewer));
      staged = omega (arith, no_jobs);
    }

module _ (s : Scene) (es : List Event) (course : Course) (at_work : Option ℕ) (r : Reflects s es course at_work) where
  in_flight_staged : (flight : Flight) → Contains course.flights.items flight → flight.job < length course.jobs
  in_flight_staged flight there =
      let its : Flies (known_in course.known) (in_flight es) flight.job =
      flight_flies (known_in course.known) (readings es) (past_of course) at_work r.keeps.gave_up r.keeps.books flight there in
      flies_below (known_in course.known) (readings es) (past_of course) at_work r.keeps.gave_up r.keeps.books flight.job its (waits_in course.jobs flight.job) refl

  lists_fit : AreFitting course
  lists_fit = record {
    as_many = flights_as_many (known_in course.known) (readings es) (past_of course) at_work r.keeps.gave_up r.keeps.books;
    flights = in_flight_staged;
    staged = r.keeps.few;
  }

module _ (s : Scene) (f : Progress) (marks : List Mark) (course : Course) where
  fits_at : {turn : Turn} → turn.asks ≢ Request.Finished → IsAt s f marks course turn → AreFitting course
  fits_at asks (measuring found m rest path is left happened none nothing) = nothing_fits course (past_of course) refl nothing
  fits_at asks (finding n job r next) = lists_fit s f.events course None r
  fits_at asks (putting n job row r it due) = lists_fit s f.events course None r
  fits_at asks (fetching n job row r next) = lists_fit s f.events course None r
  fits_at asks (touching n job its_key r it due) = lists_fit s f.events course None r
  fits_at asks (dropping n job its_key r it due own) = lists_fit s f.events course None r
  fits_at asks (discarding n job its_key left r it due) = lists_fit s f.events course None r
  fits_at asks (storing n job row r it due) = lists_fit s f.events course None r
  fits_at asks (staging n job plan r st) = lists_fit s f.events course None r
  fits_at asks (working n job call phase r w) = lists_fit s f.events course (Some n) r
  fits_at asks (collecting r may) = lists_fit s f.events course None r
  fits_at asks (delivering plan r may going) = lists_fit s f.events course None r
  fits_at asks (ended end so noted knows) = absurd (asks refl)

  asks_at : {turn : Turn} → IsAt s f marks course turn → AsksIn course turn
  asks_at (measuring found m rest path is left happened none nothing) = tt
  asks_at (finding n job r next) = next.it.within
  asks_at (putting n job row r it due) = it.within
  asks_at (fetching n job row r next) = next.it.within
  asks_at (touching n job its_key r it due) = it.within
  asks_at (dropping n job its_key r it due own) = it.within
  asks_at (discarding n job its_key left r it due) = it.within
  asks_at (storing n job row r it due) = it.within
  asks_at (staging n job plan r st) = record { known = st.it.within }
  asks_at (working n job call phase r w) =
      work_asks s.options course job.place n (state_at course.jobs n).folder call phase w.calls.due w.calls.fits (taken_within course.jobs n (r.keeps.books.worked_on n refl))
  asks_at (collecting r may) = tt
  asks_at (delivering plan r may going) = tt
  asks_at (ended end so noted knows) = tt

  module _ (r : Reflects s f.events course None) (may : MayCollect s f marks []) where
    flying_tickets : course.tickets.items ≢ []
    flying_tickets none =
        let many : length (in_flight f.events) ≡ length course.tickets.items =
        so_many (known_in course.known) (readings f.events) (course_of (past_of course) None r.keeps.gave_up) r.keeps.books in
        let fewer : length course.tickets.items ≡ 0 = ap length none in
        absurd (omega (arith, may.flying.1.1, many, fewer))

  not_waiting : (call : HostRequest) (place at : JobPlace) → (call ≡ HostRequest.Collect → ⊥) → Request.Host at call ≡ Request.Host place HostRequest.Collect → ⊥
  not_waiting call place at other is = other (let same : call ≡ HostRequest.Collect = cc in same)

  collects_at : (place : JobPlace) {turn : Turn} → IsAt s f marks course turn → turn.asks ≡ Request.Host place HostRequest.Collect → course.tickets.items ≢ []
  collects_at place (measuring found m rest path is left happened none nothing) asks = absurd (not_waiting (HostRequest.Measure path) place [] (λ same. cc) asks)
  collects_at place (finding n job r next) asks =
      let never : Request.Record job.place (RecordRequest.Find (key job.tool job.inputs)) ≡ Request.Host place HostRequest.Collect = asks in absurd cc
  collects_at place (putting n job row r it due) asks =
      let never : Request.Record job.place (RecordRequest.Put row) ≡ Request.Host place HostRequest.Collect = asks in absurd cc
  collects_at place (fetching n job row r next) asks = absurd (not_waiting (HostRequest.Fetch row.key (course.folders + 1) row.files) place job.place (λ same. cc) asks)
  collects_at place (touching n job its_key r it due) asks =
      let never : Request.Record job.place (RecordRequest.Touch its_key) ≡ Request.Host place HostRequest.Collect = asks in absurd cc
  collects_at place (discarding n job its_key left r it due) asks = absurd (not_waiting (HostRequest.Discard its_key) place job.place (λ same. cc) asks)
  collects_at place (dropping n job its_key r it due own) asks =
      let never : Request.Record job.place (RecordRequest.DropArchive its_key) ≡ Request.Host place HostRequest.Collect = asks in absurd cc
  collects_at place (storing n job row r it due) asks = absurd (not_waiting (HostRequest.Store row.key (folder_at s f.events job.place) row.files) place job.place (λ same. cc) asks)
  collects_at place (staging n job plan r st) asks = absurd (not_waiting (HostRequest.Stage plan (course.folders + 1)) place job.place (λ same. cc) asks)
  collects_at place (working n job call phase r w) asks =
      absurd (not_waiting call place job.place
      (λ same. subst IsForJob same (for_job s.options (state_at course.jobs n).folder [] call phase w.calls.due)) asks)
  collects_at place (collecting r may) asks = flying_tickets r may
  collects_at place (delivering plan r may going) asks = absurd (not_waiting (HostRequest.Deliver plan) place [] (λ same. cc) asks)
  collects_at place (ended end so noted knows) asks = let never : Request.Finished ≡ Request.Host place HostRequest.Collect = asks in absurd cc

module _ (s : Scene) (given : Given) (its : IsOf s given) (laws : Laws s) where
  allows_at : (t : List Pair) (f : Progress) (marks : List Mark) (course : Course) {turn : Turn} → turn.asks ≢ Request.Finished → IsAt s f marks course turn → Allowed s f marks turn.asks
  allows_at t f marks course asks (measuring found m rest path is left happened none nothing) =
      subst (λ (g : Progress). MayMeasure s g [] path) (sym happened) (may_measure s given its laws t found no_plans m rest path is left)
  allows_at t f marks course asks (finding n job r next) = next.may
  allows_at t f marks course asks (putting n job row r it due) = due_when s f marks (put_due job.place row) (Request.Record job.place (RecordRequest.Put row)) due refl
  allows_at t f marks course asks (fetching n job row r next) = next.may
  allows_at t f marks course asks (touching n job its_key r it due) =
      due_when s f marks (touch_due job.place its_key) (Request.Record job.place (RecordRequest.Touch its_key)) due refl
  allows_at t f marks course asks (discarding n job its_key left r it due) =
      due_when s f marks (discard_due job.place its_key (reverse left)) (Request.Host job.place (HostRequest.Discard its_key)) due refl
  allows_at t f marks course asks (dropping n job its_key r it due own) =
      due_when s f marks (drop_due job.place its_key) (Request.Record job.place (RecordRequest.DropArchive its_key)) due refl
  allows_at t f marks course asks (storing n job row r it due) =
      due_when s f marks (store_due job.place row) (Request.Host job.place (HostRequest.Store row.key (folder_at s f.events job.place) row.files)) due refl
  allows_at t f marks course asks (staging n job plan r st) = st.may
  allows_at t f marks course asks (working n job call phase r w) =
      working_allowed s f marks course n job call phase (staged_there s f.events course n job w.it r) w
  allows_at t f marks course asks (collecting r may) = may
  allows_at t f marks course asks (delivering plan r may going) = may
  allows_at t f marks course asks (ended end so noted knows) = absurd (asks refl)

  first_call : (f : Progress) (marks : List Mark) (place : JobPlace) (call : HostRequest) → IsForJob call → IsLowest s f marks (Request.Host place call)
  first_call f marks place (HostRequest.Stage plan number) its = absurd its
  first_call f marks place (HostRequest.Fetch key number files) its = absurd its
  first_call f marks place call its = tt

  -- the lowest job that waits is staged
  first_staged : (f : Progress) (marks : List Mark) (course : Course) (n : ℕ) (job : Job) (plan : StagePlan) → Reflects s f.events course None →
      IsStaging s f marks course n job plan → IsLowest s f marks (Request.Host job.place (HostRequest.Stage plan (course.folders + 1)))
  first_staged f marks course n job plan r st =
      let whole : known_in course.known ≡ jobs_in s f = all_known s f.events course None r st.going in
      let books : AreKept (jobs_in s f) (readings f.events) (course_of (past_of course) None r.keeps.gave_up) = all_kept s f.events course None r st.going in
      let number : number_of job.place (jobs_in s f) ≡ n =
      number_is (jobs_in s f) books.apart n job (subst (λ (jobs : List Job). IsJob jobs n job) whole st.it) in
      let none_before : NoneIsReady (jobs_in s f) marks (course_of (past_of course) None r.keeps.gave_up) n =
      λ m other below it waits computed parents.
      let there : IsJob (known_in course.known) m other = subst (λ (jobs : List Job). IsJob jobs m other) (sym whole) it in
      let ready : is_ready marks (families_in course.known) course.jobs m ≡ true =
      ready_if marks (known_in course.known) course.jobs m other there waits computed
      (subst (λ (jobs : List Job). AreParentsThere jobs (course_of (past_of course) None r.keeps.gave_up) m other) (sym whole) parents) in
      let never : true ≡ false = sym ready ∙ st.lowest.lowest m below in cc in (
        st.no_fetch,
        λ other its folder may.
            let least : n ≤ number_of other (jobs_in s f) =
            lowest_first s f marks (course_of (past_of course) None r.keeps.gave_up) books st.may.free n (ap is_some st.going) refl none_before other its folder may in
            omega (arith, number, least),
      )

  -- the files of the lowest job that waits and is loaded are fetched
  first_fetched : (t : List Pair) (f : Progress) (plans : PlansSoFar) (goes : Goes s (InForce s) t f plans) (course : Course) (n : ℕ) (job : Job) (row : Row) → Reflects s f.events course None →
      FetchesNext s f plans.marks course n job row → IsLowest s f plans.marks (Request.Host job.place (HostRequest.Fetch row.key (course.folders + 1) row.files))
  first_fetched t f plans goes course n job row r next =
      let whole : known_in course.known ≡ jobs_in s f = all_known s f.events course None r next.going in
      let books : AreKept (jobs_in s f) (readings f.events) (course_of (past_of course) None r.keeps.gave_up) = all_kept s f.events course None r next.going in
      let number : number_of job.place (jobs_in s f) ≡ n =
      number_is (jobs_in s f) books.apart n job (subst (λ (jobs : List Job). IsJob jobs n job) whole next.it) in
      λ other its_key its_number its_files may.
      let least : n ≤ number_of other (jobs_in s f) =
      lowest_fetched s f plans.marks (course_of (past_of course) None r.keeps.gave_up) books next.may.free n (ap is_some next.going) refl
      (λ m its below it waits is.
      let there : IsJob (known_in course.known) m its = subst (λ (jobs : List Job). IsJob jobs m its) (sym whole) it in
      let cannot : can_load course m ≡ false =
      sym (ap (λ b. b && (is_load (mark plans.marks m) && can_load course m)) waits ∙ ap (λ (x : Mark). is_load x && can_load course m) is) ∙ next.lowest m below in
      let never : true ≡ false =
      sym (loads_can s f plans goes course None r next.going next.may.free m its it waits is)
      ∙ loads_at s f.events course None r m its there ∙ ap (λ b. s.options.keep && b) cannot ∙ nor_kept s.options.keep in
      cc)
      other its_key its_number its_files may in
      omega (arith, number, least)

  -- the row of the lowest job that was not looked for is
  first_found : (f : Progress) (marks : List Mark) (course : Course) (n : ℕ) (job : Job) → Reflects s f.events course None → FindsNext s f course n job →
      IsLowest s f marks (Request.Record job.place (RecordRequest.Find (key job.tool job.inputs)))
  first_found f marks course n job r next other its_key may =
      let whole : known_in course.known ≡ jobs_in s f = all_known s f.events course None r next.going in
      let books : AreKept (jobs_in s f) (readings f.events) (course_of (past_of course) None r.keeps.gave_up) = all_kept s f.events course None r next.going in
      let number : number_of job.place (jobs_in s f) ≡ n =
      number_is (jobs_in s f) books.apart n job (subst (λ (jobs : List Job). IsJob jobs n job) whole next.it) in
      let least : n ≤ number_of other (jobs_in s f) =
      lowest_found s f marks books.apart course.looked_up (subst (λ (jobs : List Job). LooksUp jobs f.events course.looked_up) whole r.looks) n
      (λ m its there left below. next.first m its (subst (λ (jobs : List Job). IsJob jobs m its) (sym whole) there) left below) other its_key may in
      omega (arith, number, least)

  first_at : (t : List Pair) (f : Progress) (plans : PlansSoFar) → Goes s (InForce s) t f plans → (course : Course) {turn : Turn} → turn.asks ≢ Request.Finished → IsAt s f plans.marks course turn →
      IsLowest s f plans.marks turn.asks
  first_at t f plans goes course asks (measuring found m rest path is left happened none nothing) = tt
  first_at t f plans goes course asks (finding n job r next) = first_found f plans.marks course n job r next
  first_at t f plans goes course asks (putting n job row r it due) = tt
  first_at t f plans goes course asks (storing n job row r it due) = tt
  first_at t f plans goes course asks (fetching n job row r next) = first_fetched t f plans goes course n job row r next
  first_at t f plans goes course asks (touching n job its_key r it due) = tt
  first_at t f plans goes course asks (dropping n job its_key r it due own) = tt
  first_at t f plans goes course asks (discarding n job its_key left r it due) = tt
  first_at t f plans goes course asks (staging n job plan r st) = first_staged f plans.marks course n job plan r st
  first_at t f plans goes course asks (working n job call phase r w) =
      first_call f plans.marks job.place call (for_job s.options (state_at course.jobs n).folder [] call phase w.calls.due)
  first_at t f plans goes course asks (collecting r may) = tt
  first_at t f plans goes course asks (delivering plan r may going) = tt
  first_at t f plans goes course asks (ended end so noted knows) = absurd (asks refl)

  -- what is asked may be asked
  pub allows : (t : List Pair) (course : Course) (turn : Turn) (runs : Runs s t course turn) → turn.asks ≢ Request.Finished → Allowed s runs.happened runs.plans.marks turn.asks
  allows t course turn runs asks = allows_at t runs.happened runs.plans.marks course asks runs.at

  pub is_first : (t : List Pair) (course : Course) (turn : Turn) (runs : Runs s t course turn) → turn.asks ≢ Request.Finished → IsFirst s runs.happened runs.plans.marks turn.asks
  is_first t course turn runs asks =
      in_order s runs.happened runs.plans.marks turn.asks asks (allows t course turn runs asks)
      (first_at t runs.happened runs.plans runs.goes course asks runs.at)

pub asks_in : (s : Scene) (t : List Pair) (course : Course) (turn : Turn) → Runs s t course turn → AsksIn course turn
asks_in s t course turn runs = asks_at s runs.happened runs.plans.marks course runs.at

pub readies : (s : Scene) (t : List Pair) (course : Course) (turn : Turn) → Runs s t course turn → turn.asks ≢ Request.Finished → AreFitting course
readies s t course turn runs asks = fits_at s runs.happened runs.plans.marks course asks runs.at

pub collects_some : (s : Scene) (t : List Pair) (course : Course) (turn : Turn) (place : JobPlace) → Runs s t course turn → turn.asks ≡ Request.Host place HostRequest.Collect →
    course.tickets.items ≢ []
collects_some s t course turn place runs asks = collects_at s runs.happened runs.plans.marks course place runs.at asks
