-- What a machine's course tells at its next turn: whose child has ended, and how many are in flight.
use Rattle.std.specs.Prelude.{◌<◌, ◌≤◌, slice_index_or}
use Rattle.std.specs.List.{AllZip, remove}
use Rattle.std.specs.Map.{keys_of, values_of}
use Rattle.std.proofs.Common.{◌≡◌, ◌∙◌, ℕ, zero, suc, Bool, true, false, List, [], ◌∷◌, length, refl, sym, ap, subst, arith}
use Rattle.std.proofs.lemmas.Bool.{or_parts}
use Rattle.std.proofs.lemmas.List.{length-map}
use Rattle.plan_checker.specs.declared.plan.Mark.{Mark}
use Rattle.proc_host.specs.Tickets.{without}
use Rattle.job_graph.specs.Jobs.{Job}
use Rattle.run_rules.specs.Scene.{Scene}
use Rattle.run_rules.specs.Events.{Progress}
use Rattle.run_rules.specs.Allowed.{IsFree, IsBusy}
use Rattle.run_rules.proofs.events.Asks.{NoneMayFetch, busy_when_full}
use Rattle.run_rules.proofs.events.Course.{Course, IsAt, Keeps, flies_there, keys_removed}
use Rattle.run_rules.proofs.events.Flights.{Flight, is_flying, landed_is_one_less, tickets_landed}
use Rattle.run_rules.proofs.events.Places.{IsJob}
use Rattle.run_rules.proofs.events.Planned.{jobs_in}
use Rattle.run_rules.proofs.events.Tally.{Readings, readings}

-- the job whose child has the ticket at this place in the list
pub record FliesAt (jobs : List Job) (flying : List Flight) (numbers : List ℕ) (index ticket : ℕ) : Type 0 where
  pub number : ℕ
  pub job : Job
  pub it : IsJob jobs number job
  pub numbered : slice_index_or numbers index number ≡ number
  pub within : index < length flying
  pub flight : slice_index_or flying index (ticket, job.place) ≡ (ticket, job.place)

flies_at : (jobs : List Job) (flying : List Flight) (numbers : List ℕ) (index ticket : ℕ) → AllZip (IsAt jobs) (values_of flying) numbers →
    index < length (keys_of flying) → slice_index_or (keys_of flying) index ticket ≡ ticket → FliesAt jobs flying numbers index ticket
flies_at jobs [] numbers index ticket zipped within is = absurd (omega (arith, within))
flies_at jobs (x ∷ flying) [] index ticket zipped within is = absurd zipped
flies_at jobs (x ∷ flying) (n ∷ numbers) zero ticket zipped within is =
    let its : IsAt jobs x.1 n = zipped.0 in
    record { number = n; job = its.job; it = its.it; numbered = refl; within = omega arith; flight = λ i. (is i, sym its.at i) }
flies_at jobs (x ∷ flying) (n ∷ numbers) (suc index) ticket zipped within is =
    let later : FliesAt jobs flying numbers index ticket = flies_at jobs flying numbers index ticket zipped.1 (omega (arith, within)) is in
    record { number = later.number; job = later.job; it = later.it; numbered = later.numbered; within = omega (arith, later.within); flight = later.flight }

none_there : (flying : List Flight) → keys_of flying ≡ [] → flying ≡ []
none_there [] none = refl
none_there (x ∷ flying) none = absurd cc

module _ (jobs : List Job) (r : Readings) (c : Course) (k : Keeps jobs r c) where
  pub flight_of : (index ticket : ℕ) → index < length c.tickets → slice_index_or c.tickets index ticket ≡ ticket → FliesAt jobs r.flying c.numbers index ticket
  flight_of index ticket within is =
      flies_at jobs r.flying c.numbers index ticket k.flights.their_jobs
      (subst (λ (ns : List ℕ). index < length ns) (sym k.flights.their_tickets) within)
      (subst (λ (ns : List ℕ). slice_index_or ns index ticket ≡ ticket) (sym k.flights.their_tickets) is)

  taken_by : (number : ℕ) (job : Job) → IsJob jobs number job → is_flying r.flying job.place ≡ true → (test : Bool) → c.waits number ≡ test → c.waits number ≡ false
  taken_by number job it flies true waits =
      let lands : is_flying r.flying job.place ≡ false = (or_parts (is_flying r.flying job.place) (r.at_hand job.place) (k.waiting number job it waits)).0 in
      let never : true ≡ false = sym flies ∙ lands in absurd cc
  taken_by number job it flies false taken = taken

  -- a job in flight waits for nothing
  pub flies_taken : (index ticket : ℕ) (at : FliesAt jobs r.flying c.numbers index ticket) → c.waits at.number ≡ false
  flies_taken index ticket at =
      taken_by at.number at.job at.it (flies_there r.flying index (ticket, at.job.place) at.within at.flight) (c.waits at.number) refl

  -- the tickets that are left once a child has ended
  pub tickets_left : (index ticket : ℕ) → FliesAt jobs r.flying c.numbers index ticket → remove c.tickets index ≡ without ticket c.tickets
  tickets_left index ticket at =
      ap (λ (ns : List ℕ). remove ns index) (sym k.flights.their_tickets)
      ∙ sym (keys_removed r.flying index)
      ∙ ap (λ (flying : List Flight). keys_of flying) (sym (landed_is_one_less r.flying index (ticket, at.job.place) k.alone.tickets at.within at.flight))
      ∙ tickets_landed ticket r.flying
      ∙ ap (without ticket) k.flights.their_tickets

  -- so many children are in flight
  pub so_many : length r.flying ≡ length c.tickets
  so_many = sym (length-map r.flying (λ (f : Flight). f.0)) ∙ ap length k.flights.their_tickets

  pub none_flies : c.tickets ≡ [] → r.flying ≡ []
  none_flies none = none_there r.flying (k.flights.their_tickets ∙ none)

-- Where nothing is due, and nothing is worked on

module _ (s : Scene) (f : Progress) (marks : List Mark) (c : Course) (k : Keeps (jobs_in s f) (readings f.events) c) (free : IsFree s f) where
  -- nothing more can be staged where the slots are taken
  pub busy_when_taken : NoneMayFetch s f marks → s.options.slots ≤ length c.tickets → IsBusy s f marks
  busy_when_taken unfetched taken = busy_when_full s f marks free unfetched (omega (arith, taken, so_many (jobs_in s f) (readings f.events) c k))
