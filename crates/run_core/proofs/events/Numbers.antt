-- Jobs by their numbers, in what the machine keeps: where a job is, which folders it has, and which jobs are in flight.
use Rattle.std.specs.Prelude.{◌<◌, Contains, option_map, slice_get, slice_index_or, unwrap_or}
use Rattle.std.specs.List.{AllZip, remove}
use Rattle.std.specs.Map.{values_of}
use Rattle.std.proofs.Common.{◌≡◌, ◌∙◌, ◌⊎◌, inl, inr, ℕ, zero, suc, Bool, true, false, cond, List, [], ◌∷◌, length, find, Option, Some, None, refl, sym, ap, subst, arith}
use Rattle.std.proofs.lemmas.Bool.{or_left, or_right}
use Rattle.std.proofs.lemmas.Option.{get_or_from_slice_get}
use Rattle.job_graph.specs.Jobs.{Job}
use Rattle.job_graph.specs.Unfold.{is_at}
use Rattle.job_graph.specs.Words.{JobPlace, is_same_place}
use Rattle.run_rules.proofs.Places.{same_place}
use Rattle.run_rules.proofs.events.Course.{IsAt, Keeps as AreKept}
use Rattle.run_rules.proofs.events.Flights.{Flight as Flying, is_flying}
use Rattle.run_rules.proofs.events.Places.{IsFound, IsJob, found_is, same_itself}
pub use Rattle.run_rules.proofs.events.Places.{HasJob, job_below, job_there, read_job}
use Rattle.run_rules.proofs.events.Tally.{Readings}
use Rattle.run_rules.proofs.events.Turns.{so_many}
use Rattle.run_core.specs.declared.state.Flight.{Flight}
use Rattle.run_core.specs.declared.job_states.JobState.{JobState}
use Rattle.run_core.specs.inner.Course.{Past, fetched_in, number_in, place_at}
use Rattle.run_core.specs.inner.Keeps.{course_of, numbers_of}
use Rattle.run_core.specs.inner.JobStates.{state_at}

-- Where a job is

pub place_there : (jobs : List Job) (n : ℕ) (job : Job) → IsJob jobs n job → place_at jobs n ≡ job.place
place_there jobs n job it = ap (λ (o : Option Job). unwrap_or (option_map (λ (j : Job). j.place) o) []) (read_job jobs n job it)

pub state_there : (states : List JobState) (n : ℕ) (state : JobState) → slice_get states n ≡ Some state → state_at states n ≡ state
state_there states n state is = get_or_from_slice_get states n state _ is

-- The number of its folders

-- the job at a place, by its number
record IsNumbered (jobs : List Job) (states : List JobState) (place : JobPlace) : Type 0 where
  pub number : ℕ
  pub job : Job
  pub it : IsJob jobs number job
  pub same : is_same_place job.place place ≡ true
  pub folder : number_in jobs states place ≡ (state_at states number).folder
  pub fetched : fetched_in jobs states place ≡ (state_at states number).fetched

record IsUnnumbered (jobs : List Job) (states : List JobState) (place : JobPlace) : Type 0 where
  pub none : find (is_at place) jobs ≡ None
  pub folder : number_in jobs states place ≡ 0
  pub fetched : fetched_in jobs states place ≡ false

none_staged : (jobs : List Job) (place : JobPlace) → number_in jobs [] place ≡ 0
none_staged [] place = refl
none_staged (x ∷ jobs) place = refl

none_fetched : (jobs : List Job) (place : JobPlace) → fetched_in jobs [] place ≡ false
none_fetched [] place = refl
none_fetched (x ∷ jobs) place = refl

numbered_unstaged : (jobs : List Job) (place : JobPlace) (o : Option Job) → find (is_at place) jobs ≡ o → IsNumbered jobs [] place ⊎ IsUnnumbered jobs [] place
numbered_unstaged jobs place None is = inr (record { none = is; folder = none_staged jobs place; fetched = none_fetched jobs place })
numbered_unstaged jobs place (Some job) is =
    let it : IsFound jobs place job = found_is jobs place job is in
    inl (record { number = it.number; job = job; it = it.there; same = it.same; folder = none_staged jobs place; fetched = none_fetched jobs place })

numbered_first : (test : Bool) (x : Job) (jobs : List Job) (state : JobState) (states : List JobState) (place : JobPlace) → is_same_place x.place place ≡ test →
    IsNumbered jobs states place ⊎ IsUnnumbered jobs states place → IsNumbered (x ∷ jobs) (state ∷ states) place ⊎ IsUnnumbered (x ∷ jobs) (state ∷ states) place
numbered_first true x jobs state states place is later = inl (record {
  number = 0;
  job = x;
  it = record { within = omega arith; is = refl };
  same = is;
  folder = ap (λ b. cond b state.folder (number_in jobs states place)) is;
  fetched = ap (λ b. cond b state.fetched (fetched_in jobs states place)) is;
})
numbered_first false x jobs state states place is (inl later) = inl (record {
  number = suc later.number;
  job = later.job;
  it = record { within = omega (arith, later.it.within); is = later.it.is };
  same = later.same;
  folder = ap (λ b. cond b state.folder (number_in jobs states place)) is ∙ later.folder;
  fetched = ap (λ b. cond b state.fetched (fetched_in jobs states place)) is ∙ later.fetched;
})
numbered_first false x jobs state states place is (inr later) = inr (record {
  none = ap (λ b. cond b (Some x) (find (is_at place) jobs)) is ∙ later.none;
  folder = ap (λ b. cond b state.folder (number_in jobs states place)) is ∙ later.folder;
  fetched = ap (λ b. cond b state.fetched (fetched_in jobs states place)) is ∙ later.fetched;
})

numbered_or_not : (jobs : List Job) (states : List JobState) (place : JobPlace) → IsNumbered jobs states place ⊎ IsUnnumbered jobs states place
numbered_or_not [] states place = inr (record { none = refl; folder = refl; fetched = refl })
numbered_or_not (x ∷ jobs) [] place = numbered_unstaged (x ∷ jobs) place (find (is_at place) (x ∷ jobs)) refl
numbered_or_not (x ∷ jobs) (state ∷ states) place =
    numbered_first (is_same_place x.place place) x jobs state states place refl (numbered_or_not jobs states place)

-- Those in flight

-- its job is in flight
pub record Flies (jobs : List Job) (flying : List Flying) (n : ℕ) : Type 0 where
  pub job : Job
  pub it : IsJob jobs n job
  pub flies : is_flying flying job.place ≡ true

flies_in : (jobs : List Job) (flying : List Flying) (flights : List Flight) (k : ℕ) (flight : Flight) → AllZip (IsAt jobs) (values_of flying) (numbers_of flights) →
    k < length flights → slice_index_or flights k flight ≡ flight → Flies jobs flying flight.job
flies_in jobs [] [] k flight zipped within is = absurd (omega (arith, within))
flies_in jobs [] (y ∷ flights) k flight zipped within is = absurd zipped
flies_in jobs (x ∷ flying) [] k flight zipped within is = absurd zipped
flies_in jobs (x ∷ flying) (y ∷ flights) zero flight zipped within is =
    let its : IsAt jobs x.1 y.job = zipped.0 in
    record {
      job = its.job;
      it = subst (λ (f : Flight). IsJob jobs f.job its.job) is its.it;
      flies = or_left (is_same_place x.1 its.job.place) (is_flying flying its.job.place) (ap (is_same_place x.1) its.at ∙ same_itself x.1);
    }
flies_in jobs (x ∷ flying) (y ∷ flights) (suc k) flight zipped within is =
    let later : Flies jobs flying flight.job = flies_in jobs flying flights k flight zipped.1 (omega (arith, within)) is in
    record { job = later.job; it = later.it; flies = or_right (is_same_place x.1 later.job.place) (is_flying flying later.job.place) later.flies }

as_long : (jobs : List Job) (flying : List Flying) (flights : List Flight) → AllZip (IsAt jobs) (values_of flying) (numbers_of flights) → length flights ≡ length flying
as_long jobs [] [] zipped = refl
as_long jobs [] (y ∷ flights) zipped = absurd zipped
as_long jobs (x ∷ flying) [] zipped = absurd zipped
as_long jobs (x ∷ flying) (y ∷ flights) zipped = ap suc (as_long jobs flying flights zipped.1)

before_at : {X : Type 0} (xs : List X) (index k : ℕ) (x : X) → k < length (remove xs index) → slice_index_or (remove xs index) k x ≡ x → Contains xs x
before_at [] zero k x within is = (k, within, is)
before_at [] (suc index) k x within is = (k, within, is)
before_at (y ∷ xs) zero k x within is = (suc k, omega (arith, within), is)
before_at (y ∷ xs) (suc index) zero x within is = (0, omega arith, is)
before_at (y ∷ xs) (suc index) (suc k) x within is =
    let later : Contains xs x = before_at xs index k x (omega (arith, within)) is in
    (suc later.0, omega (arith, later.1), later.2)

pub contains_before : {X : Type 0} (xs : List X) (index : ℕ) (x : X) → Contains (remove xs index) x → Contains xs x
contains_before xs index x there = before_at xs index there.0 x there.1 there.2

module _ (jobs : List Job) (r : Readings) (past : Past) (at_work : Option ℕ) (g : ℕ → ℕ) (k : AreKept jobs r (course_of past at_work g)) where
  pub number_is_kept : (place : JobPlace) → r.number place ≡ number_in jobs past.jobs place
  number_is_kept place = elim (numbered_or_not jobs past.jobs place) [
    | inl n ↦ ap r.number (sym (same_place n.job.place place n.same)) ∙ k.number n.number n.job n.it ∙ sym n.folder
    | inr n ↦ (k.unknown place n.none).unstaged ∙ sym n.folder
  ]

  pub fetched_is_kept : (place : JobPlace) → r.fetched place ≡ fetched_in jobs past.jobs place
  fetched_is_kept place = elim (numbered_or_not jobs past.jobs place) [
    | inl n ↦ ap r.fetched (sym (same_place n.job.place place n.same)) ∙ k.fetches n.number n.job n.it ∙ sym n.fetched
    | inr n ↦ (k.unknown place n.none).unfetched ∙ sym n.fetched
  ]

  pub flight_flies : (flight : Flight) → Contains past.flights flight → Flies jobs r.flying flight.job
  flight_flies flight there = flies_in jobs r.flying past.flights there.0 flight k.flights.their_jobs there.1 there.2

  pub flights_as_many : length past.flights ≡ length past.tickets
  flights_as_many = as_long jobs r.flying past.flights k.flights.their_jobs ∙ so_many jobs r (course_of past at_work g) k
