-- The files of no place are fetched twice: once they were asked for they are at hand, or their archive is lost, or the end is settled.
use Rattle.std.specs.Prelude.{◌≤◌, ◌&&◌, ◌||◌, bytes_eq, filter, is_some, not}
use Rattle.std.specs.List.{list_all}
use Rattle.std.proofs.Common.{◌≡◌, ◌∙◌, ◌⊎◌, inl, inr, ◌+◌, ℕ, Bool, true, false, cond, List, [], ◌∷◌, ◌++◌, length, fold, Option, Some, None, refl, sym, ap, subst, arith, length-append}
use Rattle.std.proofs.lemmas.Bool.{and_parts, or_left, or_parts, or_right}
use Rattle.std.proofs.lemmas.Cmp.{nat_list_eq_equiv}
use Rattle.std.proofs.lemmas.List.Elements.{filter-append}
use Rattle.std.proofs.lemmas.List.Folds.{list_any-append}
use Rattle.std.proofs.lemmas.List.Sums.{fold-append}
use Rattle.input_files.specs.Measured.{Measures}
use Rattle.job_graph.specs.Unfold.{Resolved, unfolded}
use Rattle.job_graph.specs.Words.{JobPlace, is_same_place}
use Rattle.job_key.specs.Key.{Key}
use Rattle.job_rows.specs.declared.row.Row.{Row}
use Rattle.plan_checker.specs.declared.plan.Mark.{Mark}
use Rattle.proc_host.specs.Answers.{fault_of}
use Rattle.proc_host.specs.declared.call.HostRequest.{HostRequest}
use Rattle.staging.specs.declared.found.Found.{Found}
use Rattle.run_rules.specs.declared.request.Pair.{Pair}
use Rattle.run_rules.specs.declared.request.RecordAnswer.{RecordAnswer}
use Rattle.run_rules.specs.declared.request.RecordRequest.{RecordRequest}
use Rattle.run_rules.specs.declared.request.Request.{Request}
use Rattle.run_rules.specs.Allowed.{Allowed, MayFetch}
use Rattle.run_rules.specs.End.{End, ended_by_host, settled}
use Rattle.run_rules.specs.Events.{Event, Progress, Work, archive_differs, can_load, files_fetched, host_failed, is_archived, is_at_hand, is_looked_up, is_lost, in_flight, looks_up, loses, no_row, row_at, row_found, row_if}
use Rattle.run_rules.specs.HowOften.{is_fetch_of, times}
use Rattle.run_rules.specs.Plans.{InForce, PlansSoFar}
use Rattle.run_rules.specs.Run.{Goes, asks, begins}
use Rattle.run_rules.specs.Scene.{Scene}
use Rattle.run_rules.specs.Steps.{Steps, command, measures_file, stages, reads_input, starts, exits_well, exits_for_now, exits_badly, scans, reads_output, finds_none, finds, finds_wrong, find_fails, puts, put_fails, fetches, fetches_other, drops, drop_fails, touches, touch_fails, discards, discard_fails, delivers, loses_collect, call_fails, call_fails_late, stores, store_fails}
use Rattle.run_rules.proofs.Apart.{apart_at}
use Rattle.run_rules.proofs.Brought.{PassesEnds, collects_pass, starts_pass}
use Rattle.run_rules.proofs.Places.{same_place}
use Rattle.run_rules.proofs.events.Flights.{is_flying}
use Rattle.run_rules.proofs.events.Kept.{fetched_can}
use Rattle.run_rules.proofs.events.Lookups.{is_no_answer}
use Rattle.run_rules.proofs.events.Places.{AreApart}
use Rattle.run_rules.proofs.events.Readings.{is_at_hand_after}
use Rattle.run_rules.proofs.events.Settled.{settled_more, settled_stays}

-- ---- a row that was found stays

told_first : (e : Event) (es : List Event) (place : JobPlace) (last : Option Row) → is_some (row_if place last e) ≡ true →
    (is_some last ≡ true) ⊎ (is_looked_up (e ∷ es) place ≡ true)
told_first (row_found p row) es place last is = by (is_same_place p place) refl is
  where
    by : (same : Bool) → is_same_place p place ≡ same → is_some (cond same (Some row) last) ≡ true → (is_some last ≡ true) ⊎ (is_looked_up (row_found p row ∷ es) place ≡ true)
    by true same its = inr (or_left (is_same_place p place) (is_looked_up es place) same)
    by false same its = inl its
told_first _ es place last is = inl is

told_in : (es : List Event) (place : JobPlace) (last : Option Row) → is_some (fold (row_if place) last es) ≡ true → (is_some last ≡ true) ⊎ (is_looked_up es place ≡ true)
told_in [] place last is = inl is
told_in (e ∷ es) place last is = elim (told_in es place (row_if place last e) is) [
  | inl now ↦ told_first e es place last now
  | inr later ↦ inr (or_right (looks_up place e) (is_looked_up es place) later)
]

-- it was looked for
asked_for : (es : List Event) (place : JobPlace) (row : Row) → row_at es place ≡ Some row → is_looked_up es place ≡ true
asked_for es place row is = elim (told_in es place None (ap is_some is)) [
  | inl never ↦ absurd cc
  | inr asked ↦ asked
]

quiet_row : (place : JobPlace) (last : Option Row) (e : Event) → is_no_answer e ≡ true → row_if place last e ≡ last
quiet_row place last (row_found p row) quiet = absurd cc
quiet_row place last _ quiet = refl

pub quiet_rows : (place : JobPlace) (last : Option Row) (new : List Event) → list_all is_no_answer new ≡ true → fold (row_if place) last new ≡ last
quiet_rows place last [] quiet = refl
quiet_rows place last (e ∷ new) quiet =
    let both = and_parts (is_no_answer e) (list_all is_no_answer new) quiet in
    ap (λ (o : Option Row). fold (row_if place) o new) (quiet_row place last e both.0) ∙ quiet_rows place last new both.1

pub row_after : (es new : List Event) (place : JobPlace) → row_at (es ++ new) place ≡ fold (row_if place) (row_at es place) new
row_after es new place = fold-append (row_if place) None es new

-- what the record tells of a row, and no other step does
pub data TellsOf : Pair → List Event → Type 0 where
  tells_row : (place : JobPlace) (its_key : Key) (row : Row) → TellsOf (command place (RecordRequest.Find its_key) (RecordAnswer.Found (Some row))) (row_found place row ∷ [])
  tells_none : (place : JobPlace) (its_key : Key) (answer : RecordAnswer) → TellsOf (command place (RecordRequest.Find its_key) answer) (no_row place ∷ [])

abbrev pub IsAside : Pair → List Event → Type 0
IsAside p new = (list_all is_no_answer new ≡ true) ⊎ TellsOf p new

ends_are_no_answers : PassesEnds is_no_answer
ends_are_no_answers =
    record { by_failure = λ place cause. refl; by_success = λ place outputs. refl; by_repeating = λ place. refl; by_difference = λ place outputs. refl }

-- one more of those that pass a test, or not
pub count_more : (test : Request → Bool) (t : List Pair) (p : Pair) (b : Bool) → test p.request ≡ b → times test (t ++ p ∷ []) ≡ times test t + cond b 1 0
count_more test t p true is =
    ap length (filter-append (λ (pair : Pair). test pair.request) t (p ∷ []))
    ∙ length-append (filter (λ (pair : Pair). test pair.request) t) (filter (λ (pair : Pair). test pair.request) (p ∷ []))
    ∙ ap (λ b. times test t + length (cond b (p ∷ []) [])) is
count_more test t p false is =
    ap length (filter-append (λ (pair : Pair). test pair.request) t (p ∷ []))
    ∙ length-append (filter (λ (pair : Pair). test pair.request) t) (filter (λ (pair : Pair). test pair.request) (p ∷ []))
    ∙ ap (λ b. times test t + length (cond b (p ∷ []) [])) is

never_and : (a b : Bool) → (a && b && false) ≡ true → ⊥
never_and true true is = cc
never_and true false is = cc
never_and false b is = cc

module _ (s : Scene) where
  -- ---- which steps tell of a row

  pub aside : (f : Progress) {p : Pair} {work : Work} {new : List Event} → Steps s f p work new → IsAside p new
  aside f (measures_file path measure) = inl refl
  aside f (stages place plan number job work more known on) = inl (starts_pass is_no_answer ends_are_no_answers on)
  aside f (reads_input place path limit bytes staged todo read job work more is known on) = inl (starts_pass is_no_answer ends_are_no_answers on)
  aside f (starts place inputs launch ticket is) = inl refl
  aside f (exits_well place e job there known class) = inl refl
  aside f (exits_for_now place e job there known class) = inl refl
  aside f (exits_badly place e job there known class) = inl refl
  aside f (scans place folder millis found job started wanted work more is known was wants on) = inl (collects_pass is_no_answer ends_are_no_answers (row_at f.events place) on)
  aside f (reads_output place path limit bytes millis found name todo read job started work more is known was on) = inl (collects_pass is_no_answer ends_are_no_answers (row_at f.events place) on)
  aside f (finds_none place its_key) = inr (tells_none place its_key (RecordAnswer.Found None))
  aside f (finds place its_key row job known sound) = inr (tells_row place its_key row)
  aside f (finds_wrong place its_key row job known unsound) = inl refl
  aside f (find_fails place its_key refusal) = inl refl
  aside f (puts place row keys) = inl refl
  aside f (put_fails place row refusal) = inl refl
  aside f (fetches place its_key number files found row its same) = inl refl
  aside f (fetches_other place its_key number files found row its other) = inl refl
  aside f (drops place its_key) = inl refl
  aside f (drop_fails place its_key refusal) = inl refl
  aside f (touches place its_key) = inl refl
  aside f (touch_fails place its_key refusal) = inl refl
  aside f (discards place its_key more due) = inl refl
  aside f (discard_fails place its_key more due) = inl refl
  aside f (delivers place plan) = inl refl
  aside f loses_collect = inl refl
  aside f (call_fails place request other unsettled) = inl refl
  aside f (call_fails_late place request end other was) = inl refl
  aside f (stores place key folder files row due) = inl refl
  aside f (store_fails place key folder files row due) = inl refl

  -- ---- what keeps files from being fetched again

  data IsSpent (es : List Event) (place : JobPlace) : Type 0 where
    there : is_at_hand es place ≡ true → IsSpent es place
    gone : (row : Row) → row_at es place ≡ Some row → is_lost es row.key ≡ true → IsSpent es place
    over : (end : End) → settled s es ≡ Some end → IsSpent es place

  lost_still : (es new : List Event) (key : List ℕ) → is_lost es key ≡ true → is_lost (es ++ new) key ≡ true
  lost_still es new key lost = list_any-append (loses key) es new ∙ or_left (is_lost es key) (is_lost new key) lost

  module _ (f : Progress) (marks : List Mark) (place : JobPlace) where
    told_still : {p : Pair} {new : List Event} (row : Row) → Allowed s f marks p.request → row_at f.events place ≡ Some row → TellsOf p new → row_at (f.events ++ new) place ≡ Some row
    told_still row may is (tells_row q its_key other) = row_after f.events (row_found q other ∷ []) place ∙ by (is_same_place q place) refl
      where
        by : (same : Bool) → is_same_place q place ≡ same → cond (is_same_place q place) (Some other) (row_at f.events place) ≡ Some row
        by true same =
            let never : true ≡ false =
            sym (asked_for f.events place row is) ∙ sym (ap (is_looked_up f.events) (same_place q place same)) ∙ may.unasked in absurd cc
        by false same = ap (λ b. cond b (Some other) (row_at f.events place)) same ∙ is
    told_still row may is (tells_none q its_key answer) = row_after f.events (no_row q ∷ []) place ∙ is

    row_still : {p : Pair} {new : List Event} (row : Row) → Allowed s f marks p.request → row_at f.events place ≡ Some row → IsAside p new → row_at (f.events ++ new) place ≡ Some row
    row_still {new = new} row may is (inl quiet) = row_after f.events new place ∙ quiet_rows place (row_at f.events place) new quiet ∙ is
    row_still row may is (inr tells) = told_still row may is tells

    spent_still : {p : Pair} {work : Work} {new : List Event} → Allowed s f marks p.request → Steps s f p work new → IsSpent f.events place → IsSpent (f.events ++ new) place
    spent_still {new = new} may steps (there at) = there (is_at_hand_after f.events new place ∙ or_left (is_at_hand f.events place) (is_at_hand new place) at)
    spent_still {new = new} may steps (gone row found lost) = gone row (row_still row may found (aside f steps)) (lost_still f.events new row.key lost)
    spent_still {new = new} may steps (over end is) = over end (settled_stays s f.events new end is)

    -- ---- a fetch

    record AFetch : Type 0 where
      key : List ℕ
      number : ℕ
      files : List Found
      may : MayFetch s f marks place key number files

    of_fetch : (request : Request) → is_fetch_of place request ≡ true → Allowed s f marks request → AFetch
    of_fetch (Request.Host q (HostRequest.Fetch key number files)) is may =
        record { key = key; number = number; files = files; may = subst (λ (at : JobPlace). MayFetch s f marks at key number files) (same_place q place is) may }
    of_fetch _ is may = absurd cc

    -- is of what was not spent
    not_spent : (it : AFetch) → can_load s f.events place ≡ true → IsSpent f.events place → ⊥
    not_spent it can (there at) =
        let away : is_at_hand f.events place ≡ false = (or_parts (is_flying (in_flight f.events) place) (is_at_hand f.events place) it.may.not_held).1 in
        let never : true ≡ false = sym at ∙ away in cc
    not_spent it can (gone row found lost) =
        never_and s.options.keep row.archived
        (sym (ap (is_archived s.options.keep f.events) found ∙ ap (λ b. s.options.keep && row.archived && not b) lost) ∙ can)
    not_spent it can (over end is) = let never : Some end ≡ None = sym is ∙ it.may.free.still.unsettled in cc

    -- and it is spent then
    spent_then : {p : Pair} {work : Work} {new : List Event} → Steps s f p work new → is_fetch_of place p.request ≡ true → IsSpent (f.events ++ new) place
    spent_then (fetches q its_key number files found row its same) is =
        there (is_at_hand_after f.events (files_fetched q number ∷ []) place
        ∙ or_right (is_at_hand f.events place) (is_same_place q place || false) (or_left (is_same_place q place) false is))
    spent_then (fetches_other q its_key number files found row its other) is =
        gone row (row_after f.events (archive_differs q row.key number ∷ []) place ∙ ap (row_at f.events) (sym (same_place q place is)) ∙ its)
        (list_any-append (loses row.key) f.events (archive_differs q row.key number ∷ [])
        ∙ or_right (is_lost f.events row.key) (bytes_eq row.key row.key || false) (or_left (bytes_eq row.key row.key) false (nat_list_eq_equiv.refl row.key)))
    spent_then (call_fails q request other unsettled) is =
        over (ended_by_host (fault_of request) []) (settled_more s f.events (host_failed q (fault_of request)) unsettled)
    spent_then {new = new} (call_fails_late q request end other was) is = over end (settled_stays s f.events new end was)
    spent_then (measures_file path measure) is = absurd cc
    spent_then (stages q plan number job work more known on) is = absurd cc
    spent_then (reads_input q path limit bytes staged todo read job work more due known on) is = absurd cc
    spent_then (starts q inputs launch ticket due) is = absurd cc
    spent_then (exits_well q e job at known class) is = absurd cc
    spent_then (exits_for_now q e job at known class) is = absurd cc
    spent_then (exits_badly q e job at known class) is = absurd cc
    spent_then (scans q folder millis found job started wanted work more due known was wants on) is = absurd cc
    spent_then (reads_output q path limit bytes millis found name todo read job started work more due known was on) is = absurd cc
    spent_then (finds_none q its_key) is = absurd cc
    spent_then (finds q its_key row job known sound) is = absurd cc
    spent_then (finds_wrong q its_key row job known unsound) is = absurd cc
    spent_then (find_fails q its_key refusal) is = absurd cc
    spent_then (puts q row keys) is = absurd cc
    spent_then (put_fails q row refusal) is = absurd cc
    spent_then (drops q its_key) is = absurd cc
    spent_then (drop_fails q its_key refusal) is = absurd cc
    spent_then (touches q its_key) is = absurd cc
    spent_then (touch_fails q its_key refusal) is = absurd cc
    spent_then (discards q its_key more due) is = absurd cc
    spent_then (discard_fails q its_key more due) is = absurd cc
    spent_then (delivers q plan) is = absurd cc
    spent_then loses_collect is = absurd cc
    spent_then (stores q key folder files row due) is = absurd cc
    spent_then (store_fails q key folder files row due) is = absurd cc

  -- ---- so at most once

  record IsFetchedOnce (t : List Pair) (es : List Event) (place : JobPlace) : Type 0 where
    few : times (is_fetch_of place) t ≤ 1
    spent : (times (is_fetch_of place) t ≡ 0) ⊎ IsSpent es place

  module _ (differ : (all : Measures) (learned : List Resolved) → AreApart (unfolded (s.walker all) learned).jobs) (place : JobPlace) where
    none_more : (t : List Pair) (p : Pair) → is_fetch_of place p.request ≡ false → times (is_fetch_of place) (t ++ p ∷ []) ≡ times (is_fetch_of place) t
    none_more t p not_it = count_more (is_fetch_of place) t p false not_it ∙ omega arith

    module _ {t : List Pair} {f : Progress} {old : PlansSoFar} (goes : Goes s (InForce s) t f old) (before : IsFetchedOnce t f.events place) {p : Pair} {work : Work} {new : List Event}
        (may : Allowed s f old.marks p.request) (steps : Steps s f p work new) where
      next : (test : Bool) → is_fetch_of place p.request ≡ test → IsFetchedOnce (t ++ p ∷ []) (f.events ++ new) place
      next false is =
          let same : times (is_fetch_of place) (t ++ p ∷ []) ≡ times (is_fetch_of place) t = none_more t p is in
          record {
            few = omega (arith, same, before.few);
            spent = elim before.spent [
              | inl never ↦ inl (same ∙ never)
              | inr spent ↦ inr (spent_still f old.marks place may steps spent)
            ];
          }
      next true is =
          let it : AFetch f old.marks place = of_fetch f old.marks place p.request is may in
          let can : can_load s f.events place ≡ true = fetched_can s goes (apart_at s differ f.events) place it.key it.number it.files it.may in
          let one : times (is_fetch_of place) (t ++ p ∷ []) ≡ times (is_fetch_of place) t + 1 = count_more (is_fetch_of place) t p true is in
          let none : times (is_fetch_of place) t ≡ 0 = elim before.spent [
            | inl never ↦ never
            | inr spent ↦ absurd (not_spent f old.marks place it can spent)
          ] in
          record { few = omega (arith, one, none); spent = inr (spent_then f old.marks place steps is) }

    once : {t : List Pair} {f : Progress} {plans : PlansSoFar} → Goes s (InForce s) t f plans → IsFetchedOnce t f.events place
    once (begins plans its) = record { few = omega arith; spent = inl refl }
    once (asks t f old p work new plans goes allowed steps its) = next goes (once goes) allowed steps (is_fetch_of place p.request) refl

    pub fetched_once : {t : List Pair} {f : Progress} {plans : PlansSoFar} → Goes s (InForce s) t f plans → times (is_fetch_of place) t ≤ 1
    fetched_once goes = (once goes).few
