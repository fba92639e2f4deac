-- What each step does to the children in flight, and that their tickets are different where a host gives rising ones.
use Rattle.std.specs.Prelude.{Contains, filter_map}
use Rattle.std.specs.Bool.{nat_eq}
use Rattle.std.specs.List.{IsDistinct, list_all}
use Rattle.std.specs.Map.{keys_of}
use Rattle.std.proofs.Common.{◌≡◌, ◌∙◌, ◌⊎◌, inl, inr, ℕ, Bool, true, false, List, [], ◌∷◌, ◌++◌, append-nil, fold, get_or, Some, None, refl, sym, ap, subst, arith}
use Rattle.std.proofs.lemmas.Bool.{and_parts, ne_eqb}
use Rattle.std.proofs.lemmas.List.{map-append}
use Rattle.std.proofs.lemmas.List.Elements.{filter_map-append}
use Rattle.std.proofs.lemmas.Map.Keys.{IsDistinct-from_apart}
use Rattle.command_line.specs.declared.launch.Launch.{Launch}
use Rattle.proc_host.specs.Answers.{flying_with}
use Rattle.proc_host.specs.declared.call.Entry.{Entry}
use Rattle.proc_host.specs.declared.call.HostAnswer.{HostAnswer}
use Rattle.proc_host.specs.declared.call.HostRequest.{HostRequest}
use Rattle.proc_host.specs.declared.child.ChildEnd.{ChildEnd}
use Rattle.plan_checker.specs.declared.plan.Mark.{Mark}
use Rattle.job_graph.specs.Words.{Fields, JobPlace, is_same_place}
use Rattle.run_rules.specs.declared.request.Pair.{Pair}
use Rattle.run_rules.specs.declared.request.RecordAnswer.{RecordAnswer}
use Rattle.run_rules.specs.declared.request.RecordRequest.{RecordRequest}
use Rattle.run_rules.specs.Blame.{Rise, WereStarted, given_tickets, logged_answers, ticket_in}
use Rattle.run_rules.specs.Events.{Event, Progress, Work, child_exited, flight_after, in_flight, job_started, row_at, tickets}
use Rattle.run_rules.specs.Plans.{PlansSoFar}
use Rattle.run_rules.specs.Reports.{entries_of, entry_of}
use Rattle.run_rules.specs.Run.{Goes, asks, begins}
use Rattle.run_rules.specs.Scene.{Scene}
use Rattle.run_rules.specs.Steps.{Steps, call, command, measures_file, stages, reads_input, starts, exits_well, exits_for_now, exits_badly, scans, reads_output, finds_none, finds, finds_wrong, find_fails, puts, put_fails, fetches, fetches_other, drops, drop_fails, touches, touch_fails, discards, discard_fails, delivers, loses_collect, call_fails, call_fails_late, stores, store_fails}
use Rattle.run_rules.proofs.Brought.{PassesEnds, collects_pass, starts_pass}
use Rattle.run_rules.proofs.Rising.{flown, front_rises, none_started}
use Rattle.run_rules.proofs.events.Flights.{Flight, is_flying, landed, landed_is_one_less, others_fly_on, tickets_landed, tickets_more}
use Rattle.run_rules.proofs.events.Readings.{in_flight_after}

-- ---- what each step does to them

-- whether an event is neither the start of a child nor its end
abbrev pub is_grounded : Event → Bool
is_grounded (job_started place inputs launch ticket) = false
is_grounded (child_exited ticket) = false
is_grounded _ = true

ends_are_grounded : PassesEnds is_grounded
ends_are_grounded = record { by_failure = λ place cause. refl; by_success = λ place outputs. refl; by_repeating = λ place. refl; by_difference = λ place outputs. refl }

grounded : (flying : List Flight) (e : Event) → is_grounded e ≡ true → flight_after flying e ≡ flying
grounded flying (job_started place inputs launch ticket) is = absurd cc
grounded flying (child_exited ticket) is = absurd cc
grounded flying _ is = refl

pub all_grounded : (flying : List Flight) (new : List Event) → list_all is_grounded new ≡ true → fold flight_after flying new ≡ flying
all_grounded flying [] is = refl
all_grounded flying (e ∷ new) is =
    let both = and_parts (is_grounded e) (list_all is_grounded new) is in
    ap (λ (now : List Flight). fold flight_after now new) (grounded flying e both.0) ∙ all_grounded flying new both.1

pub data Flies (flying : List Flight) : Pair → List Event → Type 0 where
  by_record : (place : JobPlace) (request : RecordRequest) (answer : RecordAnswer) (new : List Event) → list_all is_grounded new ≡ true → Flies flying (command place request answer) new
  by_host : (place : JobPlace) (request : HostRequest) (answer : HostAnswer) (new : List Event) → list_all is_grounded new ≡ true →
      ((numbers : List ℕ) → flying_with numbers answer ≡ numbers) → Flies flying (call place request answer) new
  takes_off : (place : JobPlace) (inputs : Fields) (launch : Launch) (ticket : ℕ) →
      Flies flying (call place (HostRequest.Start launch) (HostAnswer.Started ticket)) (job_started place inputs launch ticket ∷ [])
  lands : (place : JobPlace) (e : ChildEnd) (rest : List Event) → Contains flying (e.ticket, place) → list_all is_grounded rest ≡ true →
      Flies flying (call [] HostRequest.Collect (HostAnswer.Ended e)) (child_exited e.ticket ∷ rest)

module _ (s : Scene) where
  pub flies : (f : Progress) {p : Pair} {work : Work} {new : List Event} → Steps s f p work new → Flies (in_flight f.events) p new
  flies f (measures_file path measure) = by_host [] (HostRequest.Measure path) (HostAnswer.Measured measure) _ refl (λ numbers. refl)
  flies f (stages place plan number job work more known on) =
      by_host place (HostRequest.Stage plan number) HostAnswer.Done _ (starts_pass is_grounded ends_are_grounded on) (λ numbers. refl)
  flies f (reads_input place path limit bytes staged todo read job work more is known on) =
      by_host place (HostRequest.Head path limit) (HostAnswer.FirstBytes bytes) _ (starts_pass is_grounded ends_are_grounded on) (λ numbers. refl)
  flies f (starts place inputs launch ticket is) = takes_off place inputs launch ticket
  flies f (exits_well place e job there known class) = lands place e [] there refl
  flies f (exits_for_now place e job there known class) = lands place e _ there refl
  flies f (exits_badly place e job there known class) = lands place e _ there refl
  flies f (scans place folder millis found job started wanted work more is known was wants on) =
      by_host place (HostRequest.Scan folder) (HostAnswer.Listed found) _ (collects_pass is_grounded ends_are_grounded (row_at f.events place) on) (λ numbers. refl)
  flies f (reads_output place path limit bytes millis found name todo read job started work more is known was on) =
      by_host place (HostRequest.Head path limit) (HostAnswer.FirstBytes bytes) _ (collects_pass is_grounded ends_are_grounded (row_at f.events place) on) (λ numbers. refl)
  flies f (finds_none place its_key) = by_record place (RecordRequest.Find its_key) (RecordAnswer.Found None) _ refl
  flies f (finds place its_key row job known sound) = by_record place (RecordRequest.Find its_key) (RecordAnswer.Found (Some row)) _ refl
  flies f (finds_wrong place its_key row job known unsound) = by_record place (RecordRequest.Find its_key) (RecordAnswer.Found (Some row)) _ refl
  flies f (find_fails place its_key refusal) = by_record place (RecordRequest.Find its_key) (RecordAnswer.Refused refusal) _ refl
  flies f (puts place row gone) = by_record place (RecordRequest.Put row) (RecordAnswer.Put gone) _ refl
  flies f (put_fails place row refusal) = by_record place (RecordRequest.Put row) (RecordAnswer.Refused refusal) _ refl
  flies f (fetches place its_key number files found row its same) =
      by_host place (HostRequest.Fetch its_key number files) (HostAnswer.Fetched found) _ refl (λ numbers. refl)
  flies f (fetches_other place its_key number files found row its other) =
      by_host place (HostRequest.Fetch its_key number files) (HostAnswer.Fetched found) _ refl (λ numbers. refl)
  flies f (drops place its_key) = by_record place (RecordRequest.DropArchive its_key) RecordAnswer.Done _ refl
  flies f (drop_fails place its_key refusal) = by_record place (RecordRequest.DropArchive its_key) (RecordAnswer.Refused refusal) _ refl
  flies f (touches place its_key) = by_record place (RecordRequest.Touch its_key) RecordAnswer.Done _ refl
  flies f (touch_fails place its_key refusal) = by_record place (RecordRequest.Touch its_key) (RecordAnswer.Refused refusal) _ refl
  flies f (discards place its_key more due) = by_host place (HostRequest.Discard its_key) HostAnswer.Done _ refl (λ numbers. refl)
  flies f (discard_fails place its_key more due) = by_host place (HostRequest.Discard its_key) (HostAnswer.Failed _) _ refl (λ numbers. refl)
  flies f (delivers place plan) = by_host place (HostRequest.Deliver plan) HostAnswer.Done _ refl (λ numbers. refl)
  flies f loses_collect = by_host [] HostRequest.Collect (HostAnswer.Failed _) _ refl (λ numbers. refl)
  flies f (call_fails place request other unsettled) = by_host place request (HostAnswer.Failed _) _ refl (λ numbers. refl)
  flies f (call_fails_late place request end other was) = by_host place request (HostAnswer.Failed _) _ refl (λ numbers. refl)
  flies f (stores place key folder files row due) = by_host place (HostRequest.Store key folder files) HostAnswer.Done _ refl (λ numbers. refl)
  flies f (store_fails place key folder files row due) = by_host place (HostRequest.Store key folder files) (HostAnswer.Failed _) _ refl (λ numbers. refl)

-- ---- their tickets

-- those after a step that starts and ends none
tickets_stay : (es new : List Event) → list_all is_grounded new ≡ true → tickets (es ++ new) ≡ tickets es
tickets_stay es new is = ap (λ (flying : List Flight). keys_of flying) (in_flight_after es new ∙ all_grounded (in_flight es) new is)

entries_more : (t : List Pair) (p : Pair) → entries_of (t ++ p ∷ []) ≡ entries_of t ++ entries_of (p ∷ [])
entries_more t p = filter_map-append entry_of t (p ∷ [])

logged_more : (t : List Pair) (p : Pair) → logged_answers (entries_of (t ++ p ∷ [])) ≡ logged_answers (entries_of t) ++ logged_answers (entries_of (p ∷ []))
logged_more t p = ap logged_answers (entries_more t p) ∙ map-append (λ (entry : Entry). entry.answer) (entries_of t) (entries_of (p ∷ []))

started_then : (t : List Pair) (p : Pair) (es new : List Event) → Flies (in_flight es) p new → WereStarted (entries_of t) (tickets es) →
    WereStarted (entries_of (t ++ p ∷ [])) (tickets (es ++ new))
started_then t p es new (by_record place request answer its is) were =
    let same : entries_of (t ++ command place request answer ∷ []) ≡ entries_of t = entries_more t (command place request answer) ∙ append-nil (entries_of t) in
    subst (λ (numbers : List ℕ). WereStarted (entries_of (t ++ command place request answer ∷ [])) numbers) (sym (tickets_stay es new is))
    (subst (λ (entries : List Entry). WereStarted entries (tickets es)) (sym same) were)
started_then t p es new (by_host place request answer its is stay) were =
    subst (λ (numbers : List ℕ). WereStarted (entries_of (t ++ call place request answer ∷ [])) numbers) (stay (tickets es) ∙ sym (tickets_stay es new is))
    (flown (entries_of t) (entries_of (t ++ call place request answer ∷ [])) answer (logged_more t (call place request answer)) (tickets es) were)
started_then t p es new (takes_off place inputs launch ticket) were =
    subst (λ (numbers : List ℕ). WereStarted (entries_of (t ++ call place (HostRequest.Start launch) (HostAnswer.Started ticket) ∷ [])) numbers)
    (sym (ap (λ (flying : List Flight). keys_of flying) (in_flight_after es (job_started place inputs launch ticket ∷ [])) ∙ tickets_more (in_flight es) ticket place))
    (flown (entries_of t) (entries_of (t ++ call place (HostRequest.Start launch) (HostAnswer.Started ticket) ∷ [])) (HostAnswer.Started ticket)
    (logged_more t (call place (HostRequest.Start launch) (HostAnswer.Started ticket))) (tickets es) were)
started_then t p es new (lands place e rest there is) were =
    subst (λ (numbers : List ℕ). WereStarted (entries_of (t ++ call [] HostRequest.Collect (HostAnswer.Ended e) ∷ [])) numbers)
    (sym (ap (λ (flying : List Flight). keys_of flying) (in_flight_after es (child_exited e.ticket ∷ rest) ∙ all_grounded (landed e.ticket (in_flight es)) rest is)
    ∙ tickets_landed e.ticket (in_flight es)))
    (flown (entries_of t) (entries_of (t ++ call [] HostRequest.Collect (HostAnswer.Ended e) ∷ [])) (HostAnswer.Ended e)
    (logged_more t (call [] HostRequest.Collect (HostAnswer.Ended e))) (tickets es) were)

module _ (s : Scene) (Plans : Progress → List Mark → Type 0) where
  pub were_started : {t : List Pair} {f : Progress} {plans : PlansSoFar} → Goes s Plans t f plans → WereStarted (entries_of t) (tickets f.events)
  were_started (begins plans its) = none_started (entries_of [])
  were_started (asks t f old p work new plans goes may steps its) = started_then t p f.events new (flies s f steps) (were_started goes)

-- tickets that rise are different
rising_are_apart : (numbers : List ℕ) → Rise numbers → IsDistinct nat_eq numbers
rising_are_apart numbers rises =
    IsDistinct-from_apart nat_eq numbers
    (λ i j d before within. ne_eqb (get_or numbers i d) (get_or numbers j d) (λ same. absurd (omega (arith, same, rises i j d before within))))

pub tickets_are_apart : (s : Scene) (Plans : Progress → List Mark → Type 0) {t : List Pair} {f : Progress} {plans : PlansSoFar} → Goes s Plans t f plans →
    Rise (given_tickets (entries_of t)) → IsDistinct nat_eq (keys_of (in_flight f.events))
tickets_are_apart s Plans {f = f} goes rises = rising_are_apart (tickets f.events) ((were_started s Plans goes).rising rises)

-- those that were given before rise where all do
pub rose_before : (t : List Pair) (p : Pair) → Rise (given_tickets (entries_of (t ++ p ∷ []))) → Rise (given_tickets (entries_of t))
rose_before t p rises =
    front_rises (given_tickets (entries_of t)) (given_tickets (entries_of (p ∷ [])))
    (subst Rise (ap (filter_map ticket_in) (logged_more t p) ∙ filter_map-append ticket_in (logged_answers (entries_of t)) (logged_answers (entries_of (p ∷ [])))) rises)

-- ---- one of them lands

-- the child of a job flies on where one has ended, or it is that one
pub flies_or_landed : (flying : List Flight) (ticket : ℕ) (landing place : JobPlace) → IsDistinct nat_eq (keys_of flying) → Contains flying (ticket, landing) → is_flying flying place ≡ true →
    (is_flying (landed ticket flying) place ≡ true) ⊎ (is_same_place landing place ≡ true)
flies_or_landed flying ticket landing place apart there flies_there = by (is_same_place landing place) refl
  where
    by : (same : Bool) → is_same_place landing place ≡ same → (is_flying (landed ticket flying) place ≡ true) ⊎ (is_same_place landing place ≡ true)
    by true is = inr is
    by false is =
        inl (ap (λ (left : List Flight). is_flying left place) (landed_is_one_less flying there.0 (ticket, landing) apart there.1 there.2)
        ∙ others_fly_on flying there.0 (ticket, landing) place there.1 there.2 is ∙ flies_there)
