-- All that is read of the jobs, as one record, and how it goes on with each event.
use Rattle.std.specs.Prelude.{◌||◌}
use Rattle.std.proofs.Common.{◌≡◌, ◌∙◌, ◌+◌, ℕ, suc, Bool, true, false, cond, List, [], ◌∷◌, ◌++◌, length, filter, fold, refl, sym, ap, arith, append_assoc, append-nil}
use Rattle.job_graph.specs.Words.{JobPlace}
use Rattle.run_rules.specs.Events.{Event, file_measured, job_staged, job_started, child_exited, job_succeeded, job_failed, job_failed_for_now, result_delivered, host_failed, collect_failed, row_found, no_row, find_failed, put_failed, row_differs, job_repeated, brings, flight_after, in_flight, is_at_hand, number_at, number_if, store_failed, files_fetched, archive_differs, drop_failed, touch_failed, discard_failed, is_numbered, fetched_if, is_fetched, host_failed_late}
use Rattle.run_rules.specs.End.{gives_up}
use Rattle.run_rules.proofs.events.Flights.{Flight}
use Rattle.run_rules.proofs.events.Readings.{gave_up_after, in_flight_after, is_at_hand_after, fetched_after, number_after, stagings_after}

-- what is read of the jobs
pub record Readings : Type 0 where
  pub flying : List Flight
  pub at_hand : JobPlace → Bool
  pub number : JobPlace → ℕ
  pub fetched : JobPlace → Bool
  pub gave_up : JobPlace → ℕ
  pub stagings : ℕ

abbrev pub readings : List Event → Readings
readings es = record {
  flying = in_flight es;
  at_hand = is_at_hand es;
  number = number_at es;
  fetched = is_fetched es;
  gave_up = λ place. length (filter (gives_up place) es);
  stagings = length (filter is_numbered es);
}

-- after one more event
abbrev pub reads_after : Readings → Event → Readings
reads_after r e = record {
  flying = flight_after r.flying e;
  at_hand = λ place. brings place e || r.at_hand place;
  number = λ place. number_if place (r.number place) e;
  fetched = λ place. fetched_if place (r.fetched place) e;
  gave_up = λ place. cond (gives_up place e) (suc (r.gave_up place)) (r.gave_up place);
  stagings = cond (is_numbered e) (suc r.stagings) r.stagings;
}

turned : (a b : Bool) → (a || (b || false)) ≡ (b || a)
turned true true = refl
turned true false = refl
turned false true = refl
turned false false = refl

one_if : (n : ℕ) (b : Bool) (e : Event) → n + length (cond b (e ∷ []) []) ≡ cond b (suc n) n
one_if n true e = omega arith
one_if n false e = omega arith

one_after : (es : List Event) (e : Event) → readings (es ++ e ∷ []) ≡ reads_after (readings es) e
one_after es e = λ i. record {
  flying = in_flight_after es (e ∷ []) i;
  at_hand = λ place. (is_at_hand_after es (e ∷ []) place ∙ turned (is_at_hand es place) (brings place e)) i;
  number = λ place. number_after es (e ∷ []) place i;
  fetched = λ place. fetched_after es (e ∷ []) place i;
  gave_up = λ place. (gave_up_after es (e ∷ []) place ∙ one_if (length (filter (gives_up place) es)) (gives_up place e) e) i;
  stagings = (stagings_after es (e ∷ []) ∙ one_if (length (filter is_numbered es)) (is_numbered e) e) i;
}

-- after more events
pub readings_after : (es new : List Event) → readings (es ++ new) ≡ fold reads_after (readings es) new
readings_after es [] = ap readings (append-nil es)
readings_after es (e ∷ new) =
    ap readings (sym (append_assoc es (e ∷ []) new)) ∙ readings_after (es ++ e ∷ []) new ∙ ap (λ (r : Readings). fold reads_after r new) (one_after es e)

-- whether nothing is read of an event: it is neither the start nor the end of what is done for a job
abbrev pub is_aside : Event → Bool
is_aside (file_measured path measure) = true
is_aside (job_failed place cause) = true
is_aside (result_delivered plan) = true
is_aside (host_failed place fault) = true
is_aside collect_failed = true
is_aside (row_found place row) = true
is_aside (no_row place) = true
is_aside (find_failed place refusal) = true
is_aside (put_failed place refusal) = true
is_aside (store_failed place) = true
is_aside (host_failed_late place fault) = true
is_aside (row_differs place outputs) = true
is_aside (drop_failed place refusal) = true
is_aside (touch_failed place refusal) = true
is_aside (discard_failed place) = true
is_aside _ = false

pub nothing_read : (r : Readings) (e : Event) → is_aside e ≡ true → reads_after r e ≡ r
nothing_read r (file_measured path measure) aside = refl
nothing_read r (job_staged place number) aside = absurd cc
nothing_read r (job_started place inputs launch ticket) aside = absurd cc
nothing_read r (child_exited ticket) aside = absurd cc
nothing_read r (job_succeeded place outputs) aside = absurd cc
nothing_read r (job_failed place cause) aside = refl
nothing_read r (job_failed_for_now place) aside = absurd cc
nothing_read r (result_delivered plan) aside = refl
nothing_read r (host_failed place fault) aside = refl
nothing_read r collect_failed aside = refl
nothing_read r (row_found place row) aside = refl
nothing_read r (no_row place) aside = refl
nothing_read r (find_failed place refusal) aside = refl
nothing_read r (put_failed place refusal) aside = refl
nothing_read r (store_failed place) aside = refl
nothing_read r (host_failed_late place fault) aside = refl
nothing_read r (row_differs place outputs) aside = refl
nothing_read r (job_repeated place) aside = absurd cc
nothing_read r (files_fetched place number) aside = absurd cc
nothing_read r (archive_differs place its_key number) aside = absurd cc
nothing_read r (drop_failed place refusal) aside = refl
nothing_read r (touch_failed place refusal) aside = refl
nothing_read r (discard_failed place) aside = refl
