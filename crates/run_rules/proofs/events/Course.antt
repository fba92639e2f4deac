-- What a machine keeps of the events of a run by the numbers of the known jobs, and how that goes on with each event.
use Rattle.std.specs.Prelude.{◌||◌, ◌<◌, ◌≤◌, slice_index_or}
use Rattle.std.specs.Bool.{nat_eq}
use Rattle.std.specs.List.{IsDistinct, AllZip, remove}
use Rattle.std.specs.Map.{keys_of, values_of}
use Rattle.std.proofs.Common.{length-append, ◌≡◌, ◌∙◌, ◌⊎◌, inl, inr, ◌==◌, ◌+◌, ℕ, zero, suc, Bool, true, false, cond, List, [], ◌∷◌, ◌++◌, length, find, Option, Some, None, refl, sym, ap, subst, arith}
use Rattle.std.proofs.lemmas.Bool.{eqb-false, eqb-true, ne_eqb, or_cases, or_from, or_left, or_parts, or_right}
use Rattle.command_line.specs.declared.launch.Launch.{Launch}
use Rattle.proc_host.specs.Tickets.{IsFresh}
use Rattle.job_graph.specs.Words.{Fields, JobPlace, is_same_place}
use Rattle.job_graph.specs.Jobs.{Job}
use Rattle.job_graph.specs.Unfold.{is_at}
use Rattle.run_rules.specs.Events.{job_staged, job_started, child_exited, job_failed_for_now, job_repeated, files_fetched, archive_differs}
use Rattle.run_rules.proofs.events.ByNumber.{fetched_by, flies_by, gives_up_by, number_by}
use Rattle.run_rules.proofs.events.Flights.{Flight, FlyApart, flies_more, is_flying, landed_flies_no_more, landed_is_one_less, landing_leaves_apart, others_fly_on, start_flies_apart, tickets_more}
use Rattle.run_rules.proofs.events.Known.{IsFront, found_still, numbered_still}
use Rattle.run_rules.proofs.events.Places.{AreApart, not_found, IsFound, found_is, IsJob, one_job, same_by_number, same_itself}
use Rattle.run_rules.proofs.Places.{same_place}
use Rattle.run_rules.proofs.events.Tally.{Readings, readings, reads_after}

-- A machine's books

pub record Course : Type 0 where
  -- the children in flight, in the order of their starts: their tickets, and the numbers of their jobs
  pub tickets : List ℕ
  pub numbers : List ℕ
  -- whether the job of a number may be staged: it never was, or it gave up
  pub waits : ℕ → Bool
  -- whether its outputs are at hand
  pub at_hand : ℕ → Bool
  -- the number of the folders that each was staged in last, and how often it gave up
  pub folder : ℕ → ℕ
  pub gave_up : ℕ → ℕ
  -- whether these folders are of a fetch
  pub fetched : ℕ → Bool
  -- how many folders were made
  pub folders : ℕ
  -- the job that is worked on: it is neither waiting nor in flight nor at hand
  pub at_work : Option ℕ
  -- whether a failure has settled the end
  pub over : Bool

-- the job of this number is at this place
pub record IsAt (jobs : List Job) (place : JobPlace) (number : ℕ) : Type 0 where
  pub job : Job
  pub it : IsJob jobs number job
  pub at : job.place ≡ place

-- the flights by tickets and numbers
pub record AreFlights (jobs : List Job) (flying : List Flight) (tickets numbers : List ℕ) : Type 0 where
  pub their_tickets : keys_of flying ≡ tickets
  pub their_jobs : AllZip (IsAt jobs) (values_of flying) numbers

-- nothing has happened at this place
pub record IsUntouched (r : Readings) (place : JobPlace) : Type 0 where
  pub lands : is_flying r.flying place ≡ false
  pub away : r.at_hand place ≡ false
  pub unstaged : r.number place ≡ 0
  pub untried : r.gave_up place ≡ 0
  pub unfetched : r.fetched place ≡ false

-- nothing has happened to the job of this number
pub record IsNew (c : Course) (n : ℕ) : Type 0 where
  pub unstaged : c.folder n ≡ 0
  pub untried : c.gave_up n ≡ 0
  pub waits : c.waits n ≡ true
  pub away : c.at_hand n ≡ false
  pub unfetched : c.fetched n ≡ false

abbrev pub holds : Readings → JobPlace → Bool
holds r place = is_flying r.flying place || r.at_hand place

pub record Keeps (jobs : List Job) (r : Readings) (c : Course) : Type 0 where
  pub apart : AreApart jobs
  pub alone : FlyApart r.flying
  pub flights : AreFlights jobs r.flying c.tickets c.numbers
  pub folders : c.folders ≡ r.stagings
  pub number : (n : ℕ) (job : Job) → IsJob jobs n job → r.number job.place ≡ c.folder n
  pub gave_up : (n : ℕ) (job : Job) → IsJob jobs n job → r.gave_up job.place ≡ c.gave_up n
  pub hand : (n : ℕ) (job : Job) → IsJob jobs n job → r.at_hand job.place ≡ c.at_hand n
  pub fetches : (n : ℕ) (job : Job) → IsJob jobs n job → r.fetched job.place ≡ c.fetched n
  -- what waits is not held
  pub waiting : (n : ℕ) (job : Job) → IsJob jobs n job → c.waits n ≡ true → holds r job.place ≡ false
  -- a number that is no job's yet is that of a job to which nothing has happened
  pub unnumbered : (n : ℕ) → length jobs ≤ n → IsNew c n
  -- nor is what is worked on
  pub worked : (n : ℕ) (job : Job) → IsJob jobs n job → c.at_work ≡ Some n → holds r job.place ≡ false
  pub worked_on : (n : ℕ) → c.at_work ≡ Some n → c.waits n ≡ false
  -- all else is, unless a failure has settled the end
  pub held : c.over ≡ false → (n : ℕ) (job : Job) → IsJob jobs n job → c.waits n ≡ false → (c.at_work ≡ Some n → ⊥) → holds r job.place ≡ true
  pub coming : (place : JobPlace) → is_flying r.flying place ≡ true → r.at_hand place ≡ false
  pub unknown : (place : JobPlace) → find (is_at place) jobs ≡ None → IsUntouched r place

-- a failure settles the end, and nothing is worked on
pub gives_over : (jobs : List Job) (r : Readings) (c : Course) → Keeps jobs r c → Keeps jobs r (record c { at_work = None; over = true })
gives_over jobs r c k = record {
  apart = k.apart;
  alone = k.alone;
  flights = k.flights;
  folders = k.folders;
  number = k.number;
  gave_up = k.gave_up;
  hand = k.hand;
  fetches = k.fetches;
  waiting = k.waiting;
  unnumbered = λ n past. let it : IsNew c n = k.unnumbered n past in record { unstaged = it.unstaged; untried = it.untried; waits = it.waits; away = it.away; unfetched = it.unfetched };
  worked = λ n job it at_work. absurd cc;
  worked_on = λ n at_work. absurd cc;
  held = λ over n job it taken other. absurd cc;
  coming = k.coming;
  unknown = k.unknown;
}

some_n : (n m : ℕ) → Some n ≡ Some m → n ≡ m
some_n n m same = cc

-- the number of what waits is none of what doesn't
other_than : (waits : ℕ → Bool) (n m : ℕ) → waits n ≡ false → waits m ≡ true → (n == m) ≡ false
other_than waits n m taken free = ne_eqb n m (λ same. let never : true ≡ false = sym free ∙ ap waits (sym same) ∙ taken in cc)

-- once the job of a number waits no more, or waits again
taken_before : (test old : Bool) → cond test false old ≡ true → (test ≡ false) × (old ≡ true)
taken_before true old is = absurd cc
taken_before false old is = (refl, is)

given_before : (test old : Bool) → cond test true old ≡ false → (test ≡ false) × (old ≡ false)
given_before true old is = absurd cc
given_before false old is = (refl, is)

given_always : (test old : Bool) → old ≡ true → cond test true old ≡ true
given_always true old is = refl
given_always false old is = is

-- it waits, or is taken already
given_or_not : (test old : Bool) → cond test true old ≡ true → (test ≡ true) ⊎ (old ≡ true)
given_or_not true old is = inl refl
given_or_not false old is = inr is

still_taken : (test old : Bool) → (test ≡ false → old ≡ false) → cond test false old ≡ false
still_taken true old is = refl
still_taken false old is = is refl

or_is_cond : (a b : Bool) → (a || b) ≡ cond a true b
or_is_cond true b = refl
or_is_cond false b = refl

nor_more : (b : Bool) → (b || (false || false)) ≡ b
nor_more true = refl
nor_more false = refl

pub flies_there : (flying : List Flight) (index : ℕ) (flight : Flight) → index < length flying → slice_index_or flying index flight ≡ flight →
    is_flying flying flight.1 ≡ true
flies_there [] index flight within is = absurd (omega (arith, within))
flies_there (x ∷ flying) zero flight within is =
    or_left (is_same_place x.1 flight.1) (is_flying flying flight.1) (ap (λ (y : Flight). is_same_place y.1 flight.1) is ∙ same_itself flight.1)
flies_there (x ∷ flying) (suc index) flight within is =
    or_right (is_same_place x.1 flight.1) (is_flying flying flight.1) (flies_there flying index flight (omega (arith, within)) is)

fewer_fly : (flying : List Flight) (index : ℕ) (place : JobPlace) → is_flying flying place ≡ false → is_flying (remove flying index) place ≡ false
fewer_fly [] zero place none = refl
fewer_fly [] (suc index) place none = refl
fewer_fly (x ∷ flying) zero place none = (or_parts (is_same_place x.1 place) (is_flying flying place) none).1
fewer_fly (x ∷ flying) (suc index) place none =
    or_from (is_same_place x.1 place) (is_flying (remove flying index) place) (or_parts (is_same_place x.1 place) (is_flying flying place) none).0
    (fewer_fly flying index place (or_parts (is_same_place x.1 place) (is_flying flying place) none).1)

flew_by : (test : Bool) (flying : List Flight) (index : ℕ) (place : JobPlace) → is_flying flying place ≡ test → is_flying (remove flying index) place ≡ true →
    is_flying flying place ≡ true
flew_by true flying index place is flies = is
flew_by false flying index place is flies = let never : false ≡ true = sym (fewer_fly flying index place is) ∙ flies in absurd cc

flew_before : (flying : List Flight) (index : ℕ) (place : JobPlace) → is_flying (remove flying index) place ≡ true → is_flying flying place ≡ true
flew_before flying index place flies = flew_by (is_flying flying place) flying index place refl flies

pub keys_removed : (flying : List Flight) (index : ℕ) → keys_of (remove flying index) ≡ remove (keys_of flying) index
keys_removed [] zero = refl
keys_removed [] (suc index) = refl
keys_removed (x ∷ flying) zero = refl
keys_removed (x ∷ flying) (suc index) = ap (λ (ns : List ℕ). x.0 ∷ ns) (keys_removed flying index)

jobs_more : (jobs : List Job) (flying : List Flight) (numbers : List ℕ) (flight : Flight) (n : ℕ) → AllZip (IsAt jobs) (values_of flying) numbers →
    IsAt jobs flight.1 n → AllZip (IsAt jobs) (values_of (flying ++ flight ∷ [])) (numbers ++ n ∷ [])
jobs_more jobs [] [] flight n zipped last = (last, tt)
jobs_more jobs [] (m ∷ numbers) flight n zipped last = absurd zipped
jobs_more jobs (x ∷ flying) [] flight n zipped last = absurd zipped
jobs_more jobs (x ∷ flying) (m ∷ numbers) flight n zipped last = (zipped.0, jobs_more jobs flying numbers flight n zipped.1 last)

jobs_still : (jobs more : List Job) (flying : List Flight) (numbers : List ℕ) → IsFront jobs more → AllZip (IsAt jobs) (values_of flying) numbers →
    AllZip (IsAt more) (values_of flying) numbers
jobs_still jobs more [] [] leads zipped = tt
jobs_still jobs more [] (m ∷ numbers) leads zipped = absurd zipped
jobs_still jobs more (x ∷ flying) [] leads zipped = absurd zipped
jobs_still jobs more (x ∷ flying) (m ∷ numbers) leads zipped =
    let its : IsAt jobs x.1 m = zipped.0 in
    (record { job = its.job; it = numbered_still jobs more m its.job leads its.it; at = its.at }, jobs_still jobs more flying numbers leads zipped.1)

-- a job of the longer list is one of the front, or its number is past that
split_job : (front rest : List Job) (m : ℕ) (job : Job) → m < length (front ++ rest) → slice_index_or (front ++ rest) m job ≡ job →
    IsJob front m job ⊎ (length front ≤ m)
split_job [] rest m job within is = inr (omega arith)
split_job (x ∷ front) rest zero job within is = inl (record { within = omega arith; is = is })
split_job (x ∷ front) rest (suc m) job within is = elim (split_job front rest m job (omega (arith, within)) is) [
  | inl it ↦ inl (record { within = omega (arith, it.within); is = it.is })
  | inr past ↦ inr (omega (arith, past))
]

pub known_or_new : (front jobs : List Job) (m : ℕ) (job : Job) → IsFront front jobs → IsJob jobs m job → IsJob front m job ⊎ (length front ≤ m)
known_or_new front jobs m job leads it =
    let here : IsJob (front ++ leads.rest) m job = subst (λ (all : List Job). IsJob all m job) leads.is it in
    split_job front leads.rest m job here.within here.is

new_by : (o : Option Job) (front jobs : List Job) (m : ℕ) (job : Job) → IsFront front jobs → AreApart jobs → IsJob jobs m job → length front ≤ m →
    find (is_at job.place) front ≡ o → find (is_at job.place) front ≡ None
new_by None front jobs m job leads apart it past is = is
new_by (Some x) front jobs m job leads apart it past is =
    let found : IsFound front job.place x = found_is front job.place x is in
    let there : IsJob jobs found.number x = numbered_still front jobs found.number x leads found.there in
    let same : found.number ≡ m = eqb-true found.number m (sym (same_by_number jobs apart found.number m x job there it) ∙ found.same) in
    absurd (omega (arith, found.there.within, past, same))

-- a job past the front is at a place that none of the front is at
pub new_place : (front jobs : List Job) (m : ℕ) (job : Job) → IsFront front jobs → AreApart jobs → IsJob jobs m job → length front ≤ m →
    find (is_at job.place) front ≡ None
new_place front jobs m job leads apart it past = new_by (find (is_at job.place) front) front jobs m job leads apart it past refl

unknown_by : (o : Option Job) (front jobs : List Job) (place : JobPlace) → IsFront front jobs → find (is_at place) jobs ≡ None → find (is_at place) front ≡ o →
    find (is_at place) front ≡ None
unknown_by None front jobs place leads none is = is
unknown_by (Some x) front jobs place leads none is =
    let never : Some x ≡ None = sym (found_still place x front jobs leads is) ∙ none in absurd cc

pub unknown_before : (front jobs : List Job) (place : JobPlace) → IsFront front jobs → find (is_at place) jobs ≡ None → find (is_at place) front ≡ None
unknown_before front jobs place leads none = unknown_by (find (is_at place) front) front jobs place leads none refl

jobs_removed : (jobs : List Job) (flying : List Flight) (numbers : List ℕ) (index : ℕ) → index < length flying → AllZip (IsAt jobs) (values_of flying) numbers →
    AllZip (IsAt jobs) (values_of (remove flying index)) (remove numbers index)
jobs_removed jobs [] numbers index within zipped = absurd (omega (arith, within))
jobs_removed jobs (x ∷ flying) [] index within zipped = absurd zipped
jobs_removed jobs (x ∷ flying) (n ∷ numbers) zero within zipped = zipped.1
jobs_removed jobs (x ∷ flying) (n ∷ numbers) (suc index) within zipped = (zipped.0, jobs_removed jobs flying numbers index (omega (arith, within)) zipped.1)

-- Each event

module _ (jobs : List Job) (r : Readings) (c : Course) (k : Keeps jobs r c) where
  -- a job that waits is staged, and is worked on
  abbrev pub when_staged : ℕ → ℕ → Course
  when_staged n number = record c {
    waits = λ m. cond (n == m) false (c.waits m);
    folder = λ m. cond (n == m) number (c.folder m);
    fetched = λ m. cond (n == m) false (c.fetched m);
    folders = suc c.folders;
    at_work = Some n;
  }

  -- the numbers of other jobs stay as they are
  new_still : (n : ℕ) (job : Job) (number m : ℕ) → IsJob jobs n job → length jobs ≤ m → IsNew (when_staged n number) m
  new_still n job number m it past =
      let old : IsNew c m = k.unnumbered m past in
      let differs : (n == m) ≡ false = ne_eqb n m (λ same. omega (arith, past, it.within, same)) in
      record {
        unstaged = ap (λ b. cond b number (c.folder m)) differs ∙ old.unstaged;
        untried = old.untried;
        waits = ap (λ b. cond b false (c.waits m)) differs ∙ old.waits;
        away = old.away;
        unfetched = ap (λ b. cond b false (c.fetched m)) differs ∙ old.unfetched;
      }

  held_still : (n m : ℕ) (other : Job) → c.at_work ≡ None → c.over ≡ false → IsJob jobs m other → (test : Bool) → (n == m) ≡ test →
      cond test false (c.waits m) ≡ false → (Some n ≡ Some m → ⊥) → holds r other.place ≡ true
  held_still n m other idle over its true same taken not_it = absurd (not_it (ap Some (eqb-true n m same)))
  held_still n m other idle over its false differs taken not_it =
      k.held over m other its taken (λ now. let never : None ≡ Some m = sym idle ∙ now in absurd cc)

  pub keeps_staged : (n : ℕ) (job : Job) (number : ℕ) → IsJob jobs n job → c.waits n ≡ true → c.at_work ≡ None →
      Keeps jobs (reads_after r (job_staged job.place number)) (when_staged n number)
  keeps_staged n job number it free idle = record {
    apart = k.apart;
    alone = k.alone;
    flights = k.flights;
    folders = ap suc k.folders;
    number = λ m other its. number_by jobs k.apart n m job other it its (r.number other.place) number ∙ ap (λ x. cond (n == m) number x) (k.number m other its);
    gave_up = k.gave_up;
    hand = k.hand;
    fetches = λ m other its.
        fetched_by jobs k.apart n m job other it its (r.fetched other.place) false ∙ ap (λ b. cond (n == m) false b) (k.fetches m other its);
    waiting = λ m other its waits. k.waiting m other its (taken_before (n == m) (c.waits m) waits).1;
    unnumbered = λ m past. new_still n job number m it past;
    worked = λ m other its at_work. let same : n ≡ m = some_n n m at_work in
        subst (λ (j : Job). holds r j.place ≡ false) (one_job jobs n m job other same it its) (k.waiting n job it free);
    worked_on = λ m at_work. let same : n ≡ m = some_n n m at_work in
        still_taken (n == m) (c.waits m) (λ differs. absurd (eqb-false n m differs same));
    held = λ over m other its taken not_it. held_still n m other idle over its (n == m) refl taken not_it;
    coming = k.coming;
    unknown = λ place none. let old : IsUntouched r place = k.unknown place none in record {
      lands = old.lands;
      away = old.away;
      untried = old.untried;
      unstaged = ap (λ b. cond b number (r.number place)) (not_found place jobs n job none it.within it.is) ∙ old.unstaged;
      unfetched = ap (λ b. cond b false (r.fetched place)) (not_found place jobs n job none it.within it.is) ∙ old.unfetched;
    };
  }

  -- the job that is worked on gave up
  abbrev pub when_gave_up : ℕ → Course
  when_gave_up n = record c { gave_up = λ m. cond (n == m) (suc (c.gave_up m)) (c.gave_up m) }

  pub keeps_gave_up : (n : ℕ) (job : Job) → IsJob jobs n job → c.at_work ≡ Some n →
      Keeps jobs (reads_after r (job_failed_for_now job.place)) (when_gave_up n)
  keeps_gave_up n job it at_work = record {
    apart = k.apart;
    alone = k.alone;
    flights = k.flights;
    folders = k.folders;
    number = k.number;
    gave_up = λ m other its. ap (λ b. cond b (suc (r.gave_up other.place)) (r.gave_up other.place)) (gives_up_by jobs k.apart n m job other it its)
        ∙ ap (λ x. cond (n == m) (suc x) x) (k.gave_up m other its);
    hand = k.hand;
    fetches = k.fetches;
    waiting = k.waiting;
    unnumbered = λ m past. let old : IsNew c m = k.unnumbered m past in record {
      unstaged = old.unstaged;
      untried = ap (λ b. cond b (suc (c.gave_up m)) (c.gave_up m)) (ne_eqb n m (λ same. omega (arith, past, it.within, same))) ∙ old.untried;
      waits = old.waits;
      away = old.away;
      unfetched = old.unfetched;
    };
    worked = k.worked;
    worked_on = k.worked_on;
    held = k.held;
    coming = k.coming;
    unknown = λ place none. let old : IsUntouched r place = k.unknown place none in record {
      lands = old.lands;
      away = old.away;
      unfetched = old.unfetched;
      unstaged = old.unstaged;
      untried = ap (λ b. cond b (suc (r.gave_up place)) (r.gave_up place)) (not_found place jobs n job none it.within it.is) ∙ old.untried;
    };
  }

  -- the job that was worked on waits again
  abbrev pub when_given_back : ℕ → Course
  when_given_back n = record c { waits = λ m. cond (n == m) true (c.waits m); at_work = None }

  waiting_again : (n m : ℕ) (job other : Job) → IsJob jobs n job → IsJob jobs m other → c.at_work ≡ Some n → (n == m) ≡ true ⊎ c.waits m ≡ true →
      holds r other.place ≡ false
  waiting_again n m job other it its at_work (inl same) =
      subst (λ (j : Job). holds r j.place ≡ false) (one_job jobs n m job other (eqb-true n m same) it its) (k.worked n job it at_work)
  waiting_again n m job other it its at_work (inr waits) = k.waiting m other its waits

  pub keeps_given_back : (n : ℕ) (job : Job) → IsJob jobs n job → c.at_work ≡ Some n → Keeps jobs r (when_given_back n)
  keeps_given_back n job it at_work = record {
    apart = k.apart;
    alone = k.alone;
    flights = k.flights;
    folders = k.folders;
    number = k.number;
    gave_up = k.gave_up;
    hand = k.hand;
    fetches = k.fetches;
    waiting = λ m other its waits. waiting_again n m job other it its at_work (given_or_not (n == m) (c.waits m) waits);
    unnumbered = λ m past. let old : IsNew c m = k.unnumbered m past in record {
      unstaged = old.unstaged;
      untried = old.untried;
      waits = given_always (n == m) (c.waits m) old.waits;
      away = old.away;
      unfetched = old.unfetched;
    };
    worked = λ m other its never. absurd cc;
    worked_on = λ m never. absurd cc;
    held = λ over m other its taken not_it. let was : ((n == m) ≡ false) × (c.waits m ≡ false) = given_before (n == m) (c.waits m) taken in
        k.held over m other its was.1 (λ now. eqb-false n m was.0 (some_n n m (sym at_work ∙ now)));
    coming = k.coming;
    unknown = k.unknown;
  }

  -- its child is started, under a new ticket
  abbrev pub when_started : ℕ → ℕ → Course
  when_started n ticket = record c { tickets = c.tickets ++ ticket ∷ []; numbers = c.numbers ++ n ∷ []; at_work = None }

  started_flights : (n : ℕ) (job : Job) (ticket : ℕ) → IsJob jobs n job →
      AreFlights jobs (r.flying ++ (ticket, job.place) ∷ []) (c.tickets ++ ticket ∷ []) (c.numbers ++ n ∷ [])
  started_flights n job ticket it = record {
    their_tickets = tickets_more r.flying ticket job.place ∙ ap (λ (ns : List ℕ). ns ++ ticket ∷ []) k.flights.their_tickets;
    their_jobs = jobs_more jobs r.flying c.numbers (ticket, job.place) n k.flights.their_jobs (record { job = job; it = it; at = refl });
  }

  started_coming : (n : ℕ) (job : Job) (ticket : ℕ) → IsJob jobs n job → c.at_work ≡ Some n → (place : JobPlace) →
      (is_flying r.flying place || (is_same_place job.place place || false)) ≡ true → r.at_hand place ≡ false
  started_coming n job ticket it at_work place flies = elim (or_cases (is_flying r.flying place) (is_same_place job.place place || false) flies) [
    | inl before ↦ k.coming place before
    | inr now ↦ elim (or_cases (is_same_place job.place place) false now) [
      | inl same ↦ subst (λ (p : JobPlace). r.at_hand p ≡ false) (same_place job.place place same)
          (or_parts (is_flying r.flying job.place) (r.at_hand job.place) (k.worked n job it at_work)).1
      | inr never ↦ absurd cc
    ]
  ]

  started_held : (n : ℕ) (job : Job) (ticket : ℕ) → IsJob jobs n job → c.over ≡ false → (m : ℕ) (other : Job) → IsJob jobs m other → c.waits m ≡ false →
      c.at_work ≡ Some n → (test : Bool) → (n == m) ≡ test →
      (is_flying (r.flying ++ (ticket, job.place) ∷ []) other.place || r.at_hand other.place) ≡ true
  started_held n job ticket it over m other its within at_work true same =
      or_left (is_flying (r.flying ++ (ticket, job.place) ∷ []) other.place) (r.at_hand other.place)
      (flies_by jobs k.apart n m job other it its r.flying ticket
      ∙ or_right (is_flying r.flying other.place) ((n == m) || false) (or_left (n == m) false same))
  started_held n job ticket it over m other its within at_work false differs =
      ap (λ b. b || r.at_hand other.place) (flies_by jobs k.apart n m job other it its r.flying ticket
      ∙ ap (λ b. is_flying r.flying other.place || (b || false)) differs ∙ nor_more (is_flying r.flying other.place))
      ∙ k.held over m other its within (λ now. eqb-false n m differs (some_n n m (sym at_work ∙ now)))

  pub keeps_started : (n : ℕ) (job : Job) (inputs : Fields) (launch : Launch) (ticket : ℕ) → IsJob jobs n job → c.at_work ≡ Some n → IsFresh ticket c.tickets →
      Keeps jobs (reads_after r (job_started job.place inputs launch ticket)) (when_started n ticket)
  keeps_started n job inputs launch ticket it at_work fresh =
      let free : (is_flying r.flying job.place ≡ false) × (r.at_hand job.place ≡ false) =
      or_parts (is_flying r.flying job.place) (r.at_hand job.place) (k.worked n job it at_work) in
      record {
        apart = k.apart;
        alone = start_flies_apart r.flying ticket job.place k.alone (subst (λ (ns : List ℕ). IsFresh ticket ns) (sym k.flights.their_tickets) fresh) free.0;
        flights = started_flights n job ticket it;
        folders = k.folders;
        number = k.number;
        gave_up = k.gave_up;
        hand = k.hand;
        fetches = k.fetches;
        waiting = λ m other its waits.
            let old : (is_flying r.flying other.place ≡ false) × (r.at_hand other.place ≡ false) =
            or_parts (is_flying r.flying other.place) (r.at_hand other.place) (k.waiting m other its waits) in
            let differs : (n == m) ≡ false = other_than c.waits n m (k.worked_on n at_work) waits in
            or_from (is_flying (r.flying ++ (ticket, job.place) ∷ []) other.place) (r.at_hand other.place)
            (flies_by jobs k.apart n m job other it its r.flying ticket
            ∙ or_from (is_flying r.flying other.place) ((n == m) || false) old.0 (or_from (n == m) false differs refl)) old.1;
        unnumbered = λ m past. let old : IsNew c m = k.unnumbered m past in record { unstaged = old.unstaged; untried = old.untried; waits = old.waits; away = old.away; unfetched = old.unfetched };
        worked = λ m other its never. absurd cc;
        worked_on = λ m never. absurd cc;
        held = λ over m other its within not_it. started_held n job ticket it over m other its within at_work (n == m) refl;
        coming = λ place flies. started_coming n job ticket it at_work place (sym (flies_more r.flying ticket job.place place) ∙ flies);
        unknown = λ place none. let old : IsUntouched r place = k.unknown place none in record {
          lands = flies_more r.flying ticket job.place place
              ∙ or_from (is_flying r.flying place) (is_same_place job.place place || false) old.lands
              (or_from (is_same_place job.place place) false (not_found place jobs n job none it.within it.is) refl);
          away = old.away;
          unstaged = old.unstaged;
          untried = old.untried;
          unfetched = old.unfetched;
        };
      }

  -- a child of the job has ended
  abbrev pub when_landed : ℕ → ℕ → Course
  when_landed index n = record c { tickets = remove c.tickets index; numbers = remove c.numbers index; at_work = Some n }

  landed_flights : (index : ℕ) → index < length r.flying → AreFlights jobs (remove r.flying index) (remove c.tickets index) (remove c.numbers index)
  landed_flights index within = record {
    their_tickets = keys_removed r.flying index ∙ ap (λ (ns : List ℕ). remove ns index) k.flights.their_tickets;
    their_jobs = jobs_removed jobs r.flying c.numbers index within k.flights.their_jobs;
  }

  -- the flight of a ticket's place in the list is of the job of the number there
  pub keeps_landed : (index n : ℕ) (flight : Flight) (job : Job) → index < length r.flying → slice_index_or r.flying index flight ≡ flight → IsJob jobs n job →
      job.place ≡ flight.1 → c.at_work ≡ None → c.waits n ≡ false →
      Keeps jobs (reads_after r (child_exited flight.0)) (when_landed index n)
  keeps_landed index n flight job within is it at at_work staged =
      let lands : is_flying (remove r.flying index) job.place ≡ false =
      ap (is_flying (remove r.flying index)) at ∙ landed_flies_no_more r.flying index flight k.alone.jobs within is in
      let flew : is_flying r.flying flight.1 ≡ true = flies_there r.flying index flight within is in
      subst (λ (flying : List Flight). Keeps jobs (record r { flying = flying }) (when_landed index n)) (sym (landed_is_one_less r.flying index flight k.alone.tickets within is))
      (record {
        apart = k.apart;
        alone = subst FlyApart (landed_is_one_less r.flying index flight k.alone.tickets within is) (landing_leaves_apart r.flying flight.0 k.alone);
        flights = landed_flights index within;
        folders = k.folders;
        number = k.number;
        gave_up = k.gave_up;
        hand = k.hand;
        fetches = k.fetches;
        waiting = λ m other its waits.
            let old : (is_flying r.flying other.place ≡ false) × (r.at_hand other.place ≡ false) =
            or_parts (is_flying r.flying other.place) (r.at_hand other.place) (k.waiting m other its waits) in
            or_from (is_flying (remove r.flying index) other.place) (r.at_hand other.place) (fewer_fly r.flying index other.place old.0) old.1;
        unnumbered = λ m past. let old : IsNew c m = k.unnumbered m past in record { unstaged = old.unstaged; untried = old.untried; waits = old.waits; away = old.away; unfetched = old.unfetched };
        worked = λ m other its now. let same : n ≡ m = some_n n m now in
            subst (λ (j : Job). (is_flying (remove r.flying index) j.place || r.at_hand j.place) ≡ false) (one_job jobs n m job other same it its)
            (or_from (is_flying (remove r.flying index) job.place) (r.at_hand job.place) lands
            (ap r.at_hand at ∙ k.coming flight.1 flew));
        worked_on = λ m now. let same : n ≡ m = some_n n m now in ap c.waits (sym same) ∙ staged;
        held = λ over m other its so not_it.
            let differs : is_same_place flight.1 other.place ≡ false =
            ap (λ (p : JobPlace). is_same_place p other.place) (sym at) ∙ same_by_number jobs k.apart n m job other it its ∙ ne_eqb n m (λ same. not_it (ap Some same)) in
            ap (λ b. b || r.at_hand other.place) (others_fly_on r.flying index flight other.place within is differs)
            ∙ k.held over m other its so (λ now. let never : None ≡ Some m = sym at_work ∙ now in absurd cc);
        coming = λ place flies. k.coming place (flew_before r.flying index place flies);
        unknown = λ place none. let old : IsUntouched r place = k.unknown place none in record {
          lands = fewer_fly r.flying index place old.lands;
          away = old.away;
          unstaged = old.unstaged;
          untried = old.untried;
          unfetched = old.unfetched;
        };
      })

  -- its outputs were collected
  module _ (n : ℕ) (job : Job) (it : IsJob jobs n job) (at_work : c.at_work ≡ Some n) where
    abbrev pub when_at_hand : Course
    when_at_hand = record c { at_hand = λ m. cond (n == m) true (c.at_hand m); at_work = None }

    held_after : c.over ≡ false → (m : ℕ) (other : Job) → IsJob jobs m other → c.waits m ≡ false → (test : Bool) → (n == m) ≡ test →
        (is_flying r.flying other.place || (is_same_place job.place other.place || r.at_hand other.place)) ≡ true
    held_after over m other its within true same =
        or_right (is_flying r.flying other.place) (is_same_place job.place other.place || r.at_hand other.place)
        (or_left (is_same_place job.place other.place) (r.at_hand other.place) (same_by_number jobs k.apart n m job other it its ∙ same))
    held_after over m other its within false differs =
        ap (λ b. is_flying r.flying other.place || (b || r.at_hand other.place)) (same_by_number jobs k.apart n m job other it its ∙ differs)
        ∙ k.held over m other its within (λ now. eqb-false n m differs (some_n n m (sym at_work ∙ now)))

    coming_by : (place : JobPlace) (test : Bool) → is_same_place job.place place ≡ test → is_flying r.flying place ≡ true →
        (is_same_place job.place place || r.at_hand place) ≡ false
    coming_by place true same flies =
        let lands : is_flying r.flying place ≡ false =
        subst (λ (p : JobPlace). is_flying r.flying p ≡ false) (same_place job.place place same)
        (or_parts (is_flying r.flying job.place) (r.at_hand job.place) (k.worked n job it at_work)).0 in
        let never : true ≡ false = sym flies ∙ lands in absurd cc
    coming_by place false differs flies = or_from (is_same_place job.place place) (r.at_hand place) differs (k.coming place flies)

    pub keeps_at_hand : Keeps jobs (reads_after r (job_repeated job.place)) when_at_hand
    keeps_at_hand = record {
      apart = k.apart;
      alone = k.alone;
      flights = k.flights;
      folders = k.folders;
      number = k.number;
      gave_up = k.gave_up;
      hand = λ m other its.
          ap (λ b. b || r.at_hand other.place) (same_by_number jobs k.apart n m job other it its) ∙ ap (λ b. (n == m) || b) (k.hand m other its)
          ∙ or_is_cond (n == m) (c.at_hand m);
      fetches = k.fetches;
      waiting = λ m other its waits.
          let old : (is_flying r.flying other.place ≡ false) × (r.at_hand other.place ≡ false) =
          or_parts (is_flying r.flying other.place) (r.at_hand other.place) (k.waiting m other its waits) in
          let differs : (n == m) ≡ false = other_than c.waits n m (k.worked_on n at_work) waits in
          or_from (is_flying r.flying other.place) (is_same_place job.place other.place || r.at_hand other.place) old.0
          (or_from (is_same_place job.place other.place) (r.at_hand other.place) (same_by_number jobs k.apart n m job other it its ∙ differs) old.1);
      unnumbered = λ m past. let old : IsNew c m = k.unnumbered m past in record {
        unstaged = old.unstaged;
        untried = old.untried;
        waits = old.waits;
        away = ap (λ b. cond b true (c.at_hand m)) (ne_eqb n m (λ same. omega (arith, past, it.within, same))) ∙ old.away;
        unfetched = old.unfetched;
      };
      worked = λ m other its never. absurd cc;
      worked_on = λ m never. absurd cc;
      held = λ over m other its within not_it. held_after over m other its within (n == m) refl;
      coming = λ place flies. coming_by place (is_same_place job.place place) refl flies;
      unknown = λ place none. let old : IsUntouched r place = k.unknown place none in record {
        lands = old.lands;
        away = or_from (is_same_place job.place place) (r.at_hand place) (not_found place jobs n job none it.within it.is) old.away;
        unstaged = old.unstaged;
        untried = old.untried;
        unfetched = old.unfetched;
      };
    }

  -- the files of a job that waits were fetched
  abbrev pub when_loaded : ℕ → ℕ → Course
  when_loaded n number = record c {
    waits = λ m. cond (n == m) false (c.waits m);
    at_hand = λ m. cond (n == m) true (c.at_hand m);
    folder = λ m. cond (n == m) number (c.folder m);
    fetched = λ m. cond (n == m) true (c.fetched m);
    folders = suc c.folders;
  }

  module _ (n : ℕ) (job : Job) (number : ℕ) (it : IsJob jobs n job) (free : c.waits n ≡ true) (idle : c.at_work ≡ None) where
    held_loaded : c.over ≡ false → (m : ℕ) (other : Job) → IsJob jobs m other → (test : Bool) → (n == m) ≡ test → cond test false (c.waits m) ≡ false →
        (is_flying r.flying other.place || (is_same_place job.place other.place || r.at_hand other.place)) ≡ true
    held_loaded over m other its true same taken =
        or_right (is_flying r.flying other.place) (is_same_place job.place other.place || r.at_hand other.place)
        (or_left (is_same_place job.place other.place) (r.at_hand other.place) (same_by_number jobs k.apart n m job other it its ∙ same))
    held_loaded over m other its false differs taken =
        ap (λ b. is_flying r.flying other.place || (b || r.at_hand other.place)) (same_by_number jobs k.apart n m job other it its ∙ differs)
        ∙ k.held over m other its taken (λ now. let never : None ≡ Some m = sym idle ∙ now in absurd cc)

    coming_loaded : (place : JobPlace) (test : Bool) → is_same_place job.place place ≡ test → is_flying r.flying place ≡ true →
        (is_same_place job.place place || r.at_hand place) ≡ false
    coming_loaded place true same flies =
        let lands : is_flying r.flying place ≡ false =
        subst (λ (p : JobPlace). is_flying r.flying p ≡ false) (same_place job.place place same)
        (or_parts (is_flying r.flying job.place) (r.at_hand job.place) (k.waiting n job it free)).0 in
        let never : true ≡ false = sym flies ∙ lands in absurd cc
    coming_loaded place false differs flies = or_from (is_same_place job.place place) (r.at_hand place) differs (k.coming place flies)

    pub keeps_loaded : Keeps jobs (reads_after r (files_fetched job.place number)) (when_loaded n number)
    keeps_loaded = record {
      apart = k.apart;
      alone = k.alone;
      flights = k.flights;
      folders = ap suc k.folders;
      number = λ m other its. number_by jobs k.apart n m job other it its (r.number other.place) number ∙ ap (λ x. cond (n == m) number x) (k.number m other its);
      gave_up = k.gave_up;
      hand = λ m other its.
          ap (λ b. b || r.at_hand other.place) (same_by_number jobs k.apart n m job other it its) ∙ ap (λ b. (n == m) || b) (k.hand m other its)
          ∙ or_is_cond (n == m) (c.at_hand m);
      fetches = λ m other its.
          fetched_by jobs k.apart n m job other it its (r.fetched other.place) true ∙ ap (λ b. cond (n == m) true b) (k.fetches m other its);
      waiting = λ m other its waits.
          let was : ((n == m) ≡ false) × (c.waits m ≡ true) = taken_before (n == m) (c.waits m) waits in
          let old : (is_flying r.flying other.place ≡ false) × (r.at_hand other.place ≡ false) =
          or_parts (is_flying r.flying other.place) (r.at_hand other.place) (k.waiting m other its was.1) in
          or_from (is_flying r.flying other.place) (is_same_place job.place other.place || r.at_hand other.place) old.0
          (or_from (is_same_place job.place other.place) (r.at_hand other.place) (same_by_number jobs k.apart n m job other it its ∙ was.0) old.1);
      unnumbered = λ m past.
          let old : IsNew c m = k.unnumbered m past in
          let differs : (n == m) ≡ false = ne_eqb n m (λ same. omega (arith, past, it.within, same)) in
          record {
            unstaged = ap (λ b. cond b number (c.folder m)) differs ∙ old.unstaged;
            untried = old.untried;
            waits = ap (λ b. cond b false (c.waits m)) differs ∙ old.waits;
            away = ap (λ b. cond b true (c.at_hand m)) differs ∙ old.away;
            unfetched = ap (λ b. cond b true (c.fetched m)) differs ∙ old.unfetched;
          };
      worked = λ m other its now. let never : None ≡ Some m = sym idle ∙ now in absurd cc;
      worked_on = λ m now. let never : None ≡ Some m = sym idle ∙ now in absurd cc;
      held = λ over m other its taken not_it. held_loaded over m other its (n == m) refl taken;
      coming = λ place flies. coming_loaded place (is_same_place job.place place) refl flies;
      unknown = λ place none. let old : IsUntouched r place = k.unknown place none in record {
        lands = old.lands;
        away = or_from (is_same_place job.place place) (r.at_hand place) (not_found place jobs n job none it.within it.is) old.away;
        unstaged = ap (λ b. cond b number (r.number place)) (not_found place jobs n job none it.within it.is) ∙ old.unstaged;
        untried = old.untried;
        unfetched = ap (λ b. cond b true (r.fetched place)) (not_found place jobs n job none it.within it.is) ∙ old.unfetched;
      };
    }

  -- what was fetched is not what a row has
  pub keeps_missed : (place : JobPlace) (its_key : List ℕ) (number : ℕ) → Keeps jobs (reads_after r (archive_differs place its_key number)) (record c { folders = suc c.folders })
  keeps_missed place its_key number = record {
    apart = k.apart;
    alone = k.alone;
    flights = k.flights;
    folders = ap suc k.folders;
    number = k.number;
    gave_up = k.gave_up;
    hand = k.hand;
    fetches = k.fetches;
    waiting = k.waiting;
    unnumbered = λ m past. let old : IsNew c m = k.unnumbered m past in
        record { unstaged = old.unstaged; untried = old.untried; waits = old.waits; away = old.away; unfetched = old.unfetched };
    worked = k.worked;
    worked_on = k.worked_on;
    held = k.held;
    coming = k.coming;
    unknown = λ at none. let old : IsUntouched r at = k.unknown at none in
        record { lands = old.lands; away = old.away; unstaged = old.unstaged; untried = old.untried; unfetched = old.unfetched };
  }

  -- more is known
  module _ (more : List Job) (idle : c.at_work ≡ None) (leads : IsFront jobs more) (apart : AreApart more) where
    free_before : (m : ℕ) (other : Job) → IsJob more m other → c.waits m ≡ true → holds r other.place ≡ false
    free_before m other its waits = elim (known_or_new jobs more m other leads its) [
      | inl before ↦ k.waiting m other before waits
      | inr new ↦
          let old : IsUntouched r other.place = k.unknown other.place (new_place jobs more m other leads apart its new) in
          or_from (is_flying r.flying other.place) (r.at_hand other.place) old.lands old.away
    ]

    number_still : (m : ℕ) (other : Job) → IsJob more m other → r.number other.place ≡ c.folder m
    number_still m other its = elim (known_or_new jobs more m other leads its) [
      | inl before ↦ k.number m other before
      | inr new ↦ (k.unknown other.place (new_place jobs more m other leads apart its new)).unstaged ∙ sym (k.unnumbered m new).unstaged
    ]

    gave_up_still : (m : ℕ) (other : Job) → IsJob more m other → r.gave_up other.place ≡ c.gave_up m
    gave_up_still m other its = elim (known_or_new jobs more m other leads its) [
      | inl before ↦ k.gave_up m other before
      | inr new ↦ (k.unknown other.place (new_place jobs more m other leads apart its new)).untried ∙ sym (k.unnumbered m new).untried
    ]

    hand_still : (m : ℕ) (other : Job) → IsJob more m other → r.at_hand other.place ≡ c.at_hand m
    hand_still m other its = elim (known_or_new jobs more m other leads its) [
      | inl before ↦ k.hand m other before
      | inr new ↦ (k.unknown other.place (new_place jobs more m other leads apart its new)).away ∙ sym (k.unnumbered m new).away
    ]

    fetched_still : (m : ℕ) (other : Job) → IsJob more m other → r.fetched other.place ≡ c.fetched m
    fetched_still m other its = elim (known_or_new jobs more m other leads its) [
      | inl before ↦ k.fetches m other before
      | inr new ↦ (k.unknown other.place (new_place jobs more m other leads apart its new)).unfetched ∙ sym (k.unnumbered m new).unfetched
    ]

    held_before : c.over ≡ false → (m : ℕ) (other : Job) → IsJob more m other → c.waits m ≡ false → (c.at_work ≡ Some m → ⊥) → holds r other.place ≡ true
    held_before over m other its taken not_it = elim (known_or_new jobs more m other leads its) [
      | inl before ↦ k.held over m other before taken not_it
      | inr new ↦ (let never : true ≡ false = sym (k.unnumbered m new).waits ∙ taken in absurd cc)
    ]

    pub keeps_learned : Keeps more r c
    keeps_learned = record {
      apart = apart;
      alone = k.alone;
      flights = record { their_tickets = k.flights.their_tickets; their_jobs = jobs_still jobs more r.flying c.numbers leads k.flights.their_jobs };
      folders = k.folders;
      number = number_still;
      gave_up = gave_up_still;
      hand = hand_still;
      fetches = fetched_still;
      waiting = free_before;
      unnumbered = λ m past.
          let longer : length more ≡ length jobs + length leads.rest = ap length leads.is ∙ length-append jobs leads.rest in
          let old : IsNew c m = k.unnumbered m (omega (arith, past, longer)) in
          record { unstaged = old.unstaged; untried = old.untried; waits = old.waits; away = old.away; unfetched = old.unfetched };
      worked = λ m other its now. let never : None ≡ Some m = sym idle ∙ now in absurd cc;
      worked_on = k.worked_on;
      held = held_before;
      coming = k.coming;
      unknown = λ place none. k.unknown place (unknown_before jobs more place leads none);
    }

-- Before any job is staged

pub none_alike : {K : Type 0} (eq : K → K → Bool) → IsDistinct eq []
unfolding IsDistinct
none_alike eq = tt

abbrev pub first_course : Course
first_course = record { tickets = []; numbers = []; waits = λ n. true; at_hand = λ n. false; folder = λ n. 0; gave_up = λ n. 0; fetched = λ n. false; folders = 0; at_work = None; over = false }

pub keeps_at_first : (jobs : List Job) → AreApart jobs → Keeps jobs (readings []) first_course
keeps_at_first jobs apart = record {
  apart = apart;
  alone = record { tickets = none_alike nat_eq; jobs = none_alike is_same_place };
  flights = record { their_tickets = refl; their_jobs = tt };
  folders = refl;
  number = λ n job it. refl;
  gave_up = λ n job it. refl;
  hand = λ n job it. refl;
  fetches = λ n job it. refl;
  waiting = λ n job it waits. refl;
  unnumbered = λ n past. record { unstaged = refl; untried = refl; waits = refl; away = refl; unfetched = refl };
  worked = λ n job it never. absurd cc;
  worked_on = λ n never. absurd cc;
  held = λ over n job it taken not_it. let never : true ≡ false = taken in absurd cc;
  coming = λ place flies. refl;
  unknown = λ place none. record { lands = refl; away = refl; unstaged = refl; untried = refl; unfetched = refl };
}
