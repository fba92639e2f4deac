-- No place is started more often than once and its retries: a job is started only where it is not held, and each of its starts but the last ended
-- in a failure for now.
use Rattle.std.specs.Prelude.{◌≤◌, ◌||◌, Contains}
use Rattle.std.specs.Bool.{nat_eq}
use Rattle.std.specs.List.{IsDistinct, list_all}
use Rattle.std.specs.Map.{keys_of}
use Rattle.std.proofs.Common.{◌≡◌, ◌∙◌, ◌⊎◌, inl, inr, ◌+◌, ℕ, Bool, true, false, cond, List, [], ◌∷◌, ◌++◌, append-nil, length, fold, Option, Some, None, refl, sym, ap, subst, arith}
use Rattle.std.proofs.lemmas.List.Folds.{list_all-append}
use Rattle.command_line.specs.declared.launch.Launch.{Launch}
use Rattle.std.proofs.lemmas.Bool.{and_from, or_cases, or_from, or_left, or_parts, or_right}
use Rattle.proc_host.specs.Answers.{fault_of}
use Rattle.proc_host.specs.declared.call.HostRequest.{HostRequest}
use Rattle.plan_checker.specs.declared.plan.Mark.{Mark}
use Rattle.job_graph.specs.Words.{Fields, JobPlace, is_same_place}
use Rattle.run_rules.specs.declared.outcome.Cause.{Cause}
use Rattle.run_rules.specs.declared.request.Pair.{Pair}
use Rattle.run_rules.specs.declared.request.RecordRequest.{RecordRequest}
use Rattle.run_rules.specs.declared.request.Request.{Request}
use Rattle.run_rules.specs.Allowed.{Allowed, due_in}
use Rattle.run_rules.specs.Blame.{Rise, given_tickets}
use Rattle.run_rules.specs.End.{End, ended_by_host, settled}
use Rattle.run_rules.specs.Events.{Event, Progress, Work, nothing_due, input_heads_due, start_due, scan_due, output_heads_due, put_due, store_due, drop_due, touch_due, discard_due, brings, child_exited, flight_after, host_failed, in_flight, is_at_hand, is_held, job_failed, job_failed_for_now, job_staged, job_started, row_at, row_differs}
use Rattle.run_rules.specs.HowOften.{is_start_of, times}
use Rattle.run_rules.specs.Plans.{PlansSoFar}
use Rattle.run_rules.specs.Reports.{entries_of}
use Rattle.run_rules.specs.Run.{Goes, asks, begins}
use Rattle.run_rules.specs.Scene.{Scene}
use Rattle.run_rules.specs.Steps.{Steps, progress_with, measures_file, stages, reads_input, starts, exits_well, exits_for_now, exits_badly, scans, reads_output, finds_none, finds, finds_wrong, find_fails, puts, put_fails, fetches, fetches_other, drops, drop_fails, touches, touch_fails, discards, discard_fails, delivers, loses_collect, call_fails, call_fails_late, stores, store_fails, work_to_discard}
use Rattle.run_rules.proofs.FetchedOnce.{count_more}
use Rattle.run_rules.proofs.FailedFew.{failed_few, gave_up}
use Rattle.run_rules.proofs.Discarding.{by_discards}
use Rattle.run_rules.proofs.Working.{CollectsAs, StartsAs, before_not_past, brings_it, collects_as, differs_to, fails_so, fails_to, goes_on, reads, starts_as, works_before, works_past}
use Rattle.run_rules.proofs.Flying.{all_grounded, flies_or_landed, is_grounded, rose_before, tickets_are_apart}
use Rattle.run_rules.proofs.Places.{same_place}
use Rattle.run_rules.proofs.events.Flights.{Flight, flies_more, is_flying, is_held_after, landed}
use Rattle.run_rules.proofs.events.Readings.{gave_up_after}
use Rattle.run_rules.proofs.events.Settled.{settled_at_last, settled_more, settled_quietly, settled_stays}

abbrev one_if : Bool → ℕ
one_if b = cond b 1 0

module _ (s : Scene) (place : JobPlace) where
  -- its child is in flight or has ended well, or its outputs are at hand
  abbrev is_taken : Progress → Bool
  is_taken f = is_held f.events place || works_past place f.work

  abbrev count : List Pair → ℕ
  count t = times (is_start_of place) t

  record IsFew (t : List Pair) (f : Progress) : Type 0 where
    few : count t ≤ 1 + s.options.retries
    going : settled s f.events ≡ None → count t ≤ gave_up f.events place + one_if (is_taken f)
    coming : works_before place f.work ≡ true → (settled s f.events ≡ None) × (is_held f.events place ≡ false)

  -- what a step keeps that starts no child of the job
  record Keeping (f : Progress) (work : Work) (new : List Event) : Type 0 where
    taken : is_taken f ≡ true → settled s (f.events ++ new) ≡ None →
        (is_taken (progress_with f work new) ≡ true) ⊎ (gave_up f.events place + 1 ≤ gave_up (f.events ++ new) place)
    coming : works_before place work ≡ true → (settled s (f.events ++ new) ≡ None) × (is_held (f.events ++ new) place ≡ false)

  -- ---- readings

  unsettled_before : (es new : List Event) → settled s (es ++ new) ≡ None → settled s es ≡ None
  unsettled_before es new still = by (settled s es) refl
    where
      by : (o : Option End) → settled s es ≡ o → settled s es ≡ None
      by None is = is
      by (Some end) is = let never : Some end ≡ None = sym (settled_stays s es new end is) ∙ still in absurd cc

  no_fewer : (es new : List Event) → gave_up es place ≤ gave_up (es ++ new) place
  no_fewer es new = let more : gave_up (es ++ new) place ≡ gave_up es place + gave_up new place = gave_up_after es new place in omega (arith, more)

  held_by : (es new : List Event) → (is_flying (fold flight_after (in_flight es) new) place ≡ true) ⊎ (is_at_hand es place ≡ true) → is_held (es ++ new) place ≡ true
  held_by es new (inl flies) = is_held_after es new place ∙ or_left (is_flying (fold flight_after (in_flight es) new) place) (is_at_hand es place || is_at_hand new place) flies
  held_by es new (inr there) =
      is_held_after es new place
      ∙ or_right (is_flying (fold flight_after (in_flight es) new) place) (is_at_hand es place || is_at_hand new place) (or_left (is_at_hand es place) (is_at_hand new place) there)

  held_still : (es new : List Event) → list_all is_grounded new ≡ true → is_held es place ≡ true → is_held (es ++ new) place ≡ true
  held_still es new quiet held = elim (or_cases (is_flying (in_flight es) place) (is_at_hand es place) held) [
    | inl flies ↦ held_by es new (inl (ap (λ (flying : List Flight). is_flying flying place) (all_grounded (in_flight es) new quiet) ∙ flies))
    | inr there ↦ held_by es new (inr there)
  ]

  not_held_still : (es new : List Event) → list_all is_grounded new ≡ true → is_at_hand new place ≡ false → is_held es place ≡ false → is_held (es ++ new) place ≡ false
  not_held_still es new quiet none away =
      let parts = or_parts (is_flying (in_flight es) place) (is_at_hand es place) away in
      is_held_after es new place
      ∙ or_from (is_flying (fold flight_after (in_flight es) new) place) (is_at_hand es place || is_at_hand new place)
      (ap (λ (flying : List Flight). is_flying flying place) (all_grounded (in_flight es) new quiet) ∙ parts.0)
      (or_from (is_at_hand es place) (is_at_hand new place) parts.1 none)

  held_then : (f : Progress) → works_past place f.work ≡ false → is_taken f ≡ true → is_held f.events place ≡ true
  held_then f not_past taken = elim (or_cases (is_held f.events place) (works_past place f.work) taken) [
    | inl held ↦ held
    | inr past ↦ let never : true ≡ false = sym past ∙ not_past in absurd cc
  ]

  -- ---- steps

  -- one that is not of the job's child
  plainly : (f : Progress) (work : Work) (new : List Event) → list_all is_grounded new ≡ true → works_past place f.work ≡ false → works_before place work ≡ false → Keeping f work new
  plainly f work new quiet not_past not_before = record {
    taken = λ taken still. inl (or_left (is_held (f.events ++ new) place) (works_past place work) (held_still f.events new quiet (held_then f not_past taken)));
    coming = λ is. let never : true ≡ false = sym is ∙ not_before in absurd cc;
  }

  -- one that settles the end
  at_end : (f : Progress) (work : Work) (new : List Event) (end : End) → settled s (f.events ++ new) ≡ Some end → works_before place work ≡ false → Keeping f work new
  at_end f work new end is not_before = record {
    taken = λ taken still. let never : Some end ≡ None = sym is ∙ still in absurd cc;
    coming = λ its. let never : true ≡ false = sym its ∙ not_before in absurd cc;
  }

  idle_not_past : (f : Progress) → f.work ≡ nothing_due → works_past place f.work ≡ false
  idle_not_past f idle = ap (works_past place) idle

  -- what discards archives comes of no job that is still to be started
  not_before : (q : JobPlace) (keys : List (List ℕ)) → works_before place (work_to_discard q keys) ≡ false
  not_before q keys = by_discards (λ work. works_before place work ≡ false) q keys refl (λ key more. refl)

  -- where a command to the record is due
  by_record : (f : Progress) (work : Work) (q : JobPlace) (request : RecordRequest) → due_in s f.events work ≡ Some (Request.Record q request) → works_past place work ≡ false
  by_record f nothing_due q request is = refl
  by_record f (input_heads_due p staged todo read) q request is = refl
  by_record f (start_due p inputs launch) q request is = refl
  by_record f (scan_due p millis) q request is = absurd cc
  by_record f (output_heads_due p millis found [] read) q request is = absurd cc
  by_record f (output_heads_due p millis found (name ∷ todo) read) q request is = absurd cc
  by_record f (put_due p row) q request is = refl
  by_record f (drop_due p key) q request is = refl
  by_record f (touch_due p key) q request is = refl
  by_record f (discard_due p key more) q request is = refl
  by_record f (store_due p row) q request is = refl

  -- one that stages it, or reads for it
  staged_so : (f : Progress) (q : JobPlace) (front : List Event) {work : Work} {more : List Event} → StartsAs q work more → works_past place f.work ≡ false →
      list_all is_grounded front ≡ true → is_at_hand front place ≡ false → (is_same_place q place ≡ true → (settled s (f.events ++ front) ≡ None) × (is_held f.events place ≡ false)) →
      Keeping f work (front ++ more)
  staged_so f q front (goes_on work its) not_past quiet none then =
      subst (λ (new : List Event). Keeping f work new) (sym (append-nil front))
      (record {
        taken = λ taken still. inl (or_left (is_held (f.events ++ front) place) (works_past place work) (held_still f.events front quiet (held_then f not_past taken)));
        coming = λ is. ((then (its place is)).0, not_held_still f.events front quiet none (then (its place is)).1);
      })
  staged_so f q front (fails_so cause) not_past quiet none then =
      record {
        taken = λ taken still. inl (or_left (is_held (f.events ++ (front ++ job_failed q cause ∷ [])) place) false
            (held_still f.events (front ++ job_failed q cause ∷ []) (grounded_more front quiet) (held_then f not_past taken)));
        coming = λ is. absurd cc;
      }
    where
      grounded_more : (new : List Event) → list_all is_grounded new ≡ true → list_all is_grounded (new ++ job_failed q cause ∷ []) ≡ true
      grounded_more new all = list_all-append is_grounded new (job_failed q cause ∷ []) ∙ and_from (list_all is_grounded new) true all refl

  abbrev IsTakenThen : Progress → Work → List Event → Type 0
  IsTakenThen f work new = (is_taken (progress_with f work new) ≡ true) ⊎ (gave_up f.events place + 1 ≤ gave_up (f.events ++ new) place)

  -- one by which a child has ended
  landed_so : (f : Progress) (q : JobPlace) (ticket : ℕ) (work : Work) (rest : List Event) → IsDistinct nat_eq (keys_of (in_flight f.events)) → Contains (in_flight f.events) (ticket, q) →
      f.work ≡ nothing_due → list_all is_grounded rest ≡ true → works_before place work ≡ false →
      (is_same_place q place ≡ true → settled s (f.events ++ child_exited ticket ∷ rest) ≡ None → IsTakenThen f work (child_exited ticket ∷ rest)) → Keeping f work (child_exited ticket ∷ rest)
  landed_so f q ticket work rest apart there idle quiet not_before of_it = record {
    taken = λ taken still. elim (or_cases (is_flying (in_flight f.events) place) (is_at_hand f.events place) (held_then f (idle_not_past f idle) taken)) [
      | inl flies ↦ elim (flies_or_landed (in_flight f.events) ticket q place apart there flies) [
        | inl on ↦ inl (or_left (is_held (f.events ++ child_exited ticket ∷ rest) place) (works_past place work)
            (held_by f.events (child_exited ticket ∷ rest)
            (inl (ap (λ (flying : List Flight). is_flying flying place) (all_grounded (landed ticket (in_flight f.events)) rest quiet) ∙ on))))
        | inr same ↦ of_it same still
      ]
      | inr at ↦ inl (or_left (is_held (f.events ++ child_exited ticket ∷ rest) place) (works_past place work) (held_by f.events (child_exited ticket ∷ rest) (inr at)))
    ];
    coming = λ is. let never : true ≡ false = sym is ∙ not_before in absurd cc;
  }

  -- one by which its outputs are collected, or more is read for that
  collected_so : (f : Progress) (q : JobPlace) {work : Work} {more : List Event} → CollectsAs q work more → works_past place f.work ≡ is_same_place q place → Keeping f work more
  collected_so f q (reads work past before) was = record {
    taken = λ taken still. elim (or_cases (is_held f.events place) (works_past place f.work) taken) [
      | inl held ↦ inl (or_left (is_held (f.events ++ []) place) (works_past place work) (held_still f.events [] refl held))
      | inr its ↦ inl (or_right (is_held (f.events ++ []) place) (works_past place work) (past place ∙ sym was ∙ its))
    ];
    coming = λ is. let never : true ≡ false = sym is ∙ before place in absurd cc;
  }
  collected_so f q (brings_it e work its quiet before) was = record {
    taken = λ taken still. elim (or_cases (is_held f.events place) (works_past place f.work) taken) [
      | inl held ↦ inl (or_left (is_held (f.events ++ e ∷ []) place) (works_past place work)
          (held_still f.events (e ∷ []) (and_from (is_grounded e) true quiet refl) held))
      | inr past ↦ inl (or_left (is_held (f.events ++ e ∷ []) place) (works_past place work)
          (is_held_after f.events (e ∷ []) place
          ∙ or_right (is_flying (fold flight_after (in_flight f.events) (e ∷ [])) place) (is_at_hand f.events place || is_at_hand (e ∷ []) place)
          (or_right (is_at_hand f.events place) (is_at_hand (e ∷ []) place) (or_left (brings place e) false (its place ∙ sym was ∙ past)))))
    ];
    coming = λ is. let never : true ≡ false = sym is ∙ before place in absurd cc;
  }
  collected_so f q (fails_to cause) was = record {
    taken = λ taken still.
        let over = settled_more s f.events (job_failed q cause) (unsettled_before f.events (job_failed q cause ∷ []) still) in
        let never = sym still ∙ over in absurd cc;
    coming = λ is. absurd cc;
  }
  collected_so f q (differs_to outputs) was = record {
    taken = λ taken still.
        let over = settled_more s f.events (row_differs q outputs) (unsettled_before f.events (row_differs q outputs ∷ []) still) in
        let never = sym still ∙ over in absurd cc;
    coming = λ is. absurd cc;
  }

  -- the start of another job's child
  started_apart : (f : Progress) (q : JobPlace) (inputs : Fields) (launch : Launch) (ticket : ℕ) → works_past place f.work ≡ false → Keeping f nothing_due (job_started q inputs launch ticket ∷ [])
  started_apart f q inputs launch ticket not_past = record {
    taken = λ taken still. inl (or_left (is_held (f.events ++ job_started q inputs launch ticket ∷ []) place) false
        (held_by f.events (job_started q inputs launch ticket ∷ [])
        (by (or_cases (is_flying (in_flight f.events) place) (is_at_hand f.events place) (held_then f not_past taken)))));
    coming = λ is. absurd cc;
  }
    where
      by : (is_flying (in_flight f.events) place ≡ true) ⊎ (is_at_hand f.events place ≡ true) →
          (is_flying (in_flight f.events ++ (ticket, q) ∷ []) place ≡ true) ⊎ (is_at_hand f.events place ≡ true)
      by (inl flies) = inl (flies_more (in_flight f.events) ticket q place ∙ or_left (is_flying (in_flight f.events) place) (is_same_place q place || false) flies)
      by (inr there) = inr there

  module _ (f : Progress) (marks : List Mark) (apart : IsDistinct nat_eq (keys_of (in_flight f.events)))
      (before : works_before place f.work ≡ true → (settled s f.events ≡ None) × (is_held f.events place ≡ false)) where
    -- ---- a step that starts no child of the job

    keeps_on : {p : Pair} {work : Work} {new : List Event} → Steps s f p work new → Allowed s f marks p.request → is_start_of place p.request ≡ false → Keeping f work new
    keeps_on (measures_file path measure) may other = plainly f nothing_due _ refl (idle_not_past f may.still.idle) refl
    keeps_on (stages q plan number job work more known on) may other =
        staged_so f q (job_staged q number ∷ []) (starts_as on) (idle_not_past f may.free.still.idle) refl refl
        (λ same. (settled_quietly s f.events (job_staged q number ∷ []) refl ∙ may.free.still.unsettled, ap (is_held f.events) (sym (same_place q place same)) ∙ may.not_held))
    keeps_on (reads_input q path limit bytes staged todo read job work more is known on) may other =
        staged_so f q [] (starts_as on) (ap (works_past place) is) refl refl
        (λ same.
        let was : (settled s f.events ≡ None) × (is_held f.events place ≡ false) = before (ap (works_before place) is ∙ same) in
        (subst (λ (es : List Event). settled s es ≡ None) (sym (append-nil f.events)) was.0, was.1))
    keeps_on (starts q inputs launch ticket is) may other = started_apart f q inputs launch ticket (ap (works_past place) is)
    keeps_on (exits_well q e job there known class) may other =
        landed_so f q e.ticket (scan_due q e.millis) [] apart there may.idle refl refl
        (λ same still. inl (or_right (is_held (f.events ++ child_exited e.ticket ∷ []) place) (is_same_place q place) same))
    keeps_on (exits_for_now q e job there known class) may other =
        landed_so f q e.ticket nothing_due (job_failed_for_now q ∷ []) apart there may.idle refl refl
        (λ same still.
        let more : gave_up (f.events ++ child_exited e.ticket ∷ job_failed_for_now q ∷ []) place ≡ gave_up f.events place + length (cond (is_same_place q place) (job_failed_for_now q ∷ []) []) =
        gave_up_after f.events (child_exited e.ticket ∷ job_failed_for_now q ∷ []) place in
        let one : length (cond (is_same_place q place) (job_failed_for_now q ∷ []) []) ≡ 1 = ap (λ b. length (cond b (job_failed_for_now q ∷ []) [])) same in
        inr (omega (arith, more, one)))
    keeps_on (exits_badly q e job there known class) may other =
        landed_so f q e.ticket nothing_due (job_failed q (Cause.Exit e.code) ∷ []) apart there may.idle refl refl
        (λ same still.
        let over = settled_at_last s f.events (child_exited e.ticket ∷ []) (job_failed q (Cause.Exit e.code)) refl
        (unsettled_before f.events (child_exited e.ticket ∷ job_failed q (Cause.Exit e.code) ∷ []) still) in
        let never = sym still ∙ over in absurd cc)
    keeps_on (scans q folder millis found job started wanted work more is known was wants on) may other =
        collected_so f q (collects_as (row_at f.events q) on) (ap (works_past place) is)
    keeps_on (reads_output q path limit bytes millis found name todo read job started work more is known was on) may other =
        collected_so f q (collects_as (row_at f.events q) on) (ap (works_past place) is)
    keeps_on (finds_none q its_key) may other = plainly f nothing_due _ refl (idle_not_past f may.still.idle) refl
    keeps_on (finds q its_key row job known sound) may other = plainly f nothing_due _ refl (idle_not_past f may.still.idle) refl
    keeps_on (finds_wrong q its_key row job known unsound) may other = plainly f nothing_due _ refl (idle_not_past f may.still.idle) refl
    keeps_on (find_fails q its_key refusal) may other = plainly f nothing_due _ refl (idle_not_past f may.still.idle) refl
    keeps_on (puts q row gone) may other = plainly f _ [] refl (by_record f f.work q (RecordRequest.Put row) may) (not_before q gone)
    keeps_on (put_fails q row refusal) may other = plainly f nothing_due _ refl (by_record f f.work q (RecordRequest.Put row) may) refl
    keeps_on (fetches q its_key number files found row its same) may other = plainly f _ _ refl (idle_not_past f may.free.still.idle) refl
    keeps_on (fetches_other q its_key number files found row its differ) may other = plainly f _ _ refl (idle_not_past f may.free.still.idle) refl
    keeps_on (touches q its_key) may other = plainly f nothing_due [] refl (by_record f f.work q (RecordRequest.Touch its_key) may) refl
    keeps_on (touch_fails q its_key refusal) may other = plainly f nothing_due _ refl (by_record f f.work q (RecordRequest.Touch its_key) may) refl
    keeps_on (drops q its_key) may other = plainly f _ [] refl (by_record f f.work q (RecordRequest.DropArchive its_key) may) refl
    keeps_on (drop_fails q its_key refusal) may other = plainly f _ _ refl (by_record f f.work q (RecordRequest.DropArchive its_key) may) refl
    keeps_on (discards q its_key more is) may other = plainly f _ [] refl (ap (works_past place) is) (not_before q more)
    keeps_on (discard_fails q its_key more is) may other = plainly f _ _ refl (ap (works_past place) is) (not_before q more)
    keeps_on (delivers q plan) may other = plainly f nothing_due _ refl (idle_not_past f may.busy.free.still.idle) refl
    keeps_on loses_collect may other = plainly f nothing_due _ refl (idle_not_past f may.idle) refl
    keeps_on (call_fails q request apart_from unsettled) may other =
        at_end f nothing_due (host_failed q (fault_of request) ∷ []) (ended_by_host (fault_of request) []) (settled_more s f.events (host_failed q (fault_of request)) unsettled) refl
    keeps_on {new = new} (call_fails_late q request end apart_from was) may other = at_end f nothing_due new end (settled_stays s f.events new end was) refl
    keeps_on (stores q key folder files row is) may other = plainly f _ [] refl (ap (works_past place) is) refl
    keeps_on (store_fails q key folder files row is) may other = plainly f _ _ refl (ap (works_past place) is) refl

    -- ---- and one that does

    start_is_due : (work : Work) (q : JobPlace) (launch : Launch) → due_in s f.events work ≡ Some (Request.Host q (HostRequest.Start launch)) → is_same_place q place ≡ true →
        works_before place work ≡ true
    start_is_due nothing_due q launch is same = absurd cc
    start_is_due (input_heads_due p staged [] read) q launch is same = absurd cc
    start_is_due (input_heads_due p staged (path ∷ todo) read) q launch is same = absurd cc
    start_is_due (start_due p inputs its) q launch is same = let at : p ≡ q = cc in ap (λ (x : JobPlace). is_same_place x place) at ∙ same
    start_is_due (scan_due p millis) q launch is same = absurd cc
    start_is_due (output_heads_due p millis found [] read) q launch is same = absurd cc
    start_is_due (output_heads_due p millis found (name ∷ todo) read) q launch is same = absurd cc
    start_is_due (put_due p row) q launch is same = absurd cc
    start_is_due (drop_due p key) q launch is same = absurd cc
    start_is_due (touch_due p key) q launch is same = absurd cc
    start_is_due (discard_due p key more) q launch is same = absurd cc
    start_is_due (store_due p row) q launch is same = absurd cc

    of_start : (request : Request) → is_start_of place request ≡ true → Allowed s f marks request → works_before place f.work ≡ true
    of_start (Request.Host q (HostRequest.Start launch)) is may = start_is_due f.work q launch may is
    of_start _ is may = absurd cc

    record Takes (work : Work) (new : List Event) : Type 0 where
      taken : settled s (f.events ++ new) ≡ None → is_taken (progress_with f work new) ≡ true
      coming : works_before place work ≡ false

    takes : {p : Pair} {work : Work} {new : List Event} → Steps s f p work new → is_start_of place p.request ≡ true → settled s f.events ≡ None → Takes work new
    takes (starts q inputs launch ticket is) it unsettled = record {
      taken = λ still.
          or_left (is_held (f.events ++ job_started q inputs launch ticket ∷ []) place) false
          (held_by f.events (job_started q inputs launch ticket ∷ [])
          (inl (flies_more (in_flight f.events) ticket q place
          ∙ or_right (is_flying (in_flight f.events) place) (is_same_place q place || false) (or_left (is_same_place q place) false it))));
      coming = refl;
    }
    takes (call_fails q request apart_from no_end) it unsettled = record {
      taken = λ still.
          let over = settled_more s f.events (host_failed q (fault_of request)) no_end in
          let never = sym still ∙ over in absurd cc;
      coming = refl;
    }
    takes (call_fails_late q request end apart_from was) it unsettled = let never : Some end ≡ None = sym was ∙ unsettled in absurd cc
    takes (measures_file path measure) it unsettled = absurd cc
    takes (stages q plan number job work more known on) it unsettled = absurd cc
    takes (reads_input q path limit bytes staged todo read job work more is known on) it unsettled = absurd cc
    takes (exits_well q e job there known class) it unsettled = absurd cc
    takes (exits_for_now q e job there known class) it unsettled = absurd cc
    takes (exits_badly q e job there known class) it unsettled = absurd cc
    takes (scans q folder millis found job started wanted work more is known was wants on) it unsettled = absurd cc
    takes (reads_output q path limit bytes millis found name todo read job started work more is known was on) it unsettled = absurd cc
    takes (finds_none q its_key) it unsettled = absurd cc
    takes (finds q its_key row job known sound) it unsettled = absurd cc
    takes (finds_wrong q its_key row job known unsound) it unsettled = absurd cc
    takes (find_fails q its_key refusal) it unsettled = absurd cc
    takes (puts q row gone) it unsettled = absurd cc
    takes (put_fails q row refusal) it unsettled = absurd cc
    takes (fetches q its_key number files found row its same) it unsettled = absurd cc
    takes (fetches_other q its_key number files found row its other) it unsettled = absurd cc
    takes (drops q its_key) it unsettled = absurd cc
    takes (drop_fails q its_key refusal) it unsettled = absurd cc
    takes (touches q its_key) it unsettled = absurd cc
    takes (touch_fails q its_key refusal) it unsettled = absurd cc
    takes (discards q its_key more is) it unsettled = absurd cc
    takes (discard_fails q its_key more is) it unsettled = absurd cc
    takes (delivers q plan) it unsettled = absurd cc
    takes loses_collect it unsettled = absurd cc
    takes (stores q key folder files row is) it unsettled = absurd cc
    takes (store_fails q key folder files row is) it unsettled = absurd cc

  -- ---- so few

  module _ (t : List Pair) (f : Progress) (marks : List Mark) (apart : IsDistinct nat_eq (keys_of (in_flight f.events))) (now : IsFew t f) {p : Pair} {work : Work} {new : List Event}
      (may : Allowed s f marks p.request) (steps : Steps s f p work new) where
    abbrev then : Progress
    then = progress_with f work new

    goes_by : Keeping f work new → settled s (f.events ++ new) ≡ None → (taken : Bool) → is_taken f ≡ taken →
        count t ≤ gave_up (f.events ++ new) place + one_if (is_taken then)
    goes_by keeps_it still true is =
        let was : count t ≤ gave_up f.events place + one_if (is_taken f) = now.going (unsettled_before f.events new still) in
        let one : one_if (is_taken f) ≡ 1 = ap one_if is in
        elim (keeps_it.taken is still) [
          | inl taken ↦ let still_one : one_if (is_taken then) ≡ 1 = ap one_if taken in omega (arith, was, one, still_one, no_fewer f.events new)
          | inr more ↦ omega (arith, was, one, more)
        ]
    goes_by keeps_it still false is =
        let was : count t ≤ gave_up f.events place + one_if (is_taken f) = now.going (unsettled_before f.events new still) in
        let none : one_if (is_taken f) ≡ 0 = ap one_if is in
        omega (arith, was, none, no_fewer f.events new)

    next : (test : Bool) → is_start_of place p.request ≡ test → IsFew (t ++ p ∷ []) then
    next false is =
        let same : count (t ++ p ∷ []) ≡ count t + 0 = count_more (is_start_of place) t p false is in
        let keeps_it : Keeping f work new = keeps_on f marks apart now.coming steps may is in
        record {
          few = omega (arith, same, now.few);
          going = λ still. let most : count t ≤ gave_up (f.events ++ new) place + one_if (is_taken then) = goes_by keeps_it still (is_taken f) refl in omega (arith, same, most);
          coming = keeps_it.coming;
        }
    next true is =
        let one : count (t ++ p ∷ []) ≡ count t + 1 = count_more (is_start_of place) t p true is in
        let due_now : works_before place f.work ≡ true = of_start f marks apart now.coming p.request is may in
        let was : (settled s f.events ≡ None) × (is_held f.events place ≡ false) = now.coming due_now in
        let nothing : one_if (is_taken f) ≡ 0 =
        ap one_if (or_from (is_held f.events place) (works_past place f.work) was.1 (before_not_past place f.work due_now)) in
        let most : count t ≤ gave_up f.events place + one_if (is_taken f) = now.going was.0 in
        let its : Takes f marks apart now.coming work new = takes f marks apart now.coming steps is was.0 in
        record {
          few = omega (arith, one, nothing, most, failed_few s place f.events was.0);
          going = λ still. let taken : one_if (is_taken then) ≡ 1 = ap one_if (its.taken still) in omega (arith, one, nothing, most, taken, no_fewer f.events new);
          coming = λ before. let never : true ≡ false = sym before ∙ its.coming in absurd cc;
        }

  few_then : {Plans : Progress → List Mark → Type 0} {t : List Pair} {f : Progress} {plans : PlansSoFar} → Goes s Plans t f plans → Rise (given_tickets (entries_of t)) → IsFew t f
  few_then (begins plans its) rises = record { few = omega arith; going = λ still. omega arith; coming = λ is. absurd cc }
  few_then {Plans = Plans} (asks t f old p work new plans goes may steps its) rises =
      let rose : Rise (given_tickets (entries_of t)) = rose_before t p rises in
      next t f old.marks (tickets_are_apart s Plans goes rose) (few_then goes rose) may steps (is_start_of place p.request) refl

  pub started_few : {Plans : Progress → List Mark → Type 0} {t : List Pair} {f : Progress} {plans : PlansSoFar} → Goes s Plans t f plans → Rise (given_tickets (entries_of t)) →
      times (is_start_of place) t ≤ 1 + s.options.retries
  started_few goes rises = (few_then goes rises).few
