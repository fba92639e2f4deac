-- What a course reflects once a place is resolved, by the outputs of its job or by a row that was found: more is known, or an equation fails.
use Rattle.std.specs.Prelude.{◌≤◌, IsSome, is_some, Result}
use Rattle.std.proofs.Common.{◌≡◌, ◌∙◌, ◌<◌, ℕ, Bool, true, false, List, [], ◌∷◌, ◌++◌, length, Option, Some, None, refl, sym, ap, subst}
use Rattle.std.proofs.Math.Nat.{le_trans}
use Rattle.job_graph.specs.declared.fault.UnfoldFault.{UnfoldFault}
use Rattle.job_graph.specs.declared.unfolding.Unfolding.{Unfolding}
use Rattle.input_files.specs.Measured.{Measures}
use Rattle.job_graph.specs.Jobs.{Job, Walker}
use Rattle.job_graph.specs.Unfold.{Fault, Resolved, Unfolded, or_else, unfolded}
use Rattle.job_graph.specs.Words.{Fields, JobPlace}
use Rattle.job_rows.specs.declared.row.Row.{Row}
use Rattle.run_rules.specs.declared.outcome.Outcome.{Outcome}
use Rattle.run_rules.specs.declared.outcome.RunFault.{RunFault}
use Rattle.run_rules.specs.declared.request.RecordAnswer.{RecordAnswer}
use Rattle.run_rules.specs.End.{End, fault_end, is_lost_collect, settled, settled_by, unfold_end}
use Rattle.run_rules.specs.Events.{Event, delivered_if, is_lost, is_reusable, job_succeeded, loses, measures, resolved, resolves, row_found, started_at, unfolding_at}
use Rattle.run_rules.specs.Reports.{note_of, outcome_of}
use Rattle.run_rules.specs.Scene.{Scene}
use Rattle.run_rules.proofs.events.Course.{Keeps as AreKept}
use Rattle.run_rules.proofs.events.Known.{IsFront, front_itself, is_measure, measured_still, measures_stay, numbered_still, unfolding_learns}
use Rattle.run_rules.proofs.events.Lookups.{LooksUp, more_looked_up, one_looked_up, still_looked_up}
use Rattle.run_rules.proofs.events.Places.{AreApart, IsJob}
use Rattle.run_rules.proofs.events.Readings.{resolved_after, started_after}
use Rattle.run_rules.proofs.events.Settled.{settled_more, settled_stays}
use Rattle.run_rules.proofs.events.Tally.{readings, reads_after}
use Rattle.run_core.specs.declared.state.Course.{Course}
use Rattle.run_core.specs.inner.Course.{Past, is_lost_in, known_in, past_of, with_answer, with_end, with_hand}
use Rattle.run_core.specs.inner.Keeps.{AreFound, AreTriedOnce, Keeps, Reflects, course_of}
use Rattle.run_core.specs.inner.Knows.{IsKnown, IsUnfolded, Knows, Learns, LearnsUnlessOver, end_by, fails, fault_of, knows}
use Rattle.run_core.proofs.FoundRows.{found_still as rows_still, more_found, row_is_found}
use Rattle.run_core.proofs.States.{taken_within}
use Rattle.run_core.proofs.events.Losses.{none_lost}
use Rattle.run_core.proofs.events.Tried.{answer_leaves, hand_leaves, leaves_same, tried_still}
use Rattle.run_core.proofs.events.Kept.{keeps_bringing}
use Rattle.run_core.proofs.events.Keeping.{KeepsTheRest, front_later, hand_keeps_the_rest, learned_fails_keeps, learned_keeps, never_none, none_settled}
use Rattle.run_core.proofs.events.Reflecting.{Laws, collects_after, end_of, end_reported, fault_ends, moved, no_notes_more, not_open, one_test, settled_late, undelivered_after, unfolds_by}

is_none : {T : Type 0} (o : Option T) → is_some o ≡ false → o ≡ None
is_none None none = refl
is_none (Some x) none = absurd cc

-- an event by which a place is resolved, and what is kept then beside what is known
pub record Teaches (s : Scene) (es : List Event) (old : Course) (at_work : Option ℕ) (e : Event) (one : Resolved) (there : Past) (r : Reflects s es old at_work) : Type 0 where
  pub resolving : resolves e ≡ Some one
  pub measures : is_measure e ≡ false
  pub settles : settled_by s es e ≡ None
  pub collects : is_lost_collect e ≡ false
  pub delivers : delivered_if None e ≡ None
  pub notes : note_of e ≡ None
  pub losses : (key : List ℕ) → loses key e ≡ false
  pub started : (place : JobPlace) → started_at (es ++ e ∷ []) place ≡ started_at es place
  pub rest : KeepsTheRest (past_of old) there
  pub noted : there.notes ≡ old.notes.items
  pub lost : there.lost ≡ old.lost.items
  pub tried : AreTriedOnce there
  pub kept : AreKept (known_in old.known) (reads_after (readings es) e) (course_of there None r.keeps.gave_up)
  pub looks : LooksUp (known_in old.known) (es ++ e ∷ []) there.looked_up
  pub rows : AreFound (known_in old.known) (es ++ e ∷ []) there.rows there.looked_up

module _ (s : Scene) (laws : Laws s) (es : List Event) (old : Course) (at_work : Option ℕ) (e : Event) (one : Resolved) (there : Past) (r : Reflects s es old at_work)
    (t : Teaches s es old at_work e one there r) where
  abbrev walks : Walker
  walks = s.walker (measures es)

  leads : IsFront (known_in old.known) (unfolding_at s (es ++ e ∷ [])).jobs
  leads = front_later s es (known_in old.known) e t.measures r.keeps.front

  lost_then : (key : List ℕ) → is_lost (es ++ e ∷ []) key ≡ is_lost_in there.lost key
  lost_then key = none_lost es e key (t.losses key) ∙ r.lost key ∙ ap (λ (lost : List (List ℕ)). is_lost_in lost key) (sym t.lost)

  -- the same jobs, with what is kept then
  looks_same : (new : Course) → known_in new.known ≡ known_in old.known → new.looked_up ≡ there.looked_up → LooksUp (known_in new.known) (es ++ e ∷ []) new.looked_up
  looks_same new known count =
      subst (λ (jobs : List Job). LooksUp jobs (es ++ e ∷ []) new.looked_up) (sym known)
      (subst (λ n. LooksUp (known_in old.known) (es ++ e ∷ []) n) (sym count) t.looks)

  rows_same : (new : Course) → known_in new.known ≡ known_in old.known → new.rows ≡ there.rows → new.looked_up ≡ there.looked_up →
      AreFound (known_in new.known) (es ++ e ∷ []) new.rows new.looked_up
  rows_same new known rows count =
      subst (λ (jobs : List Job). AreFound jobs (es ++ e ∷ []) new.rows new.looked_up) (sym known)
      (subst (λ (rs : List (Option Row)). AreFound (known_in old.known) (es ++ e ∷ []) rs new.looked_up) (sym rows)
      (subst (λ n. AreFound (known_in old.known) (es ++ e ∷ []) there.rows n) (sym count) t.rows))

  -- once the end is settled, nothing more is learned
  late : (new : Course) → IsSome old.end → past_of new ≡ there → new.known ≡ old.known → Reflects s (es ++ e ∷ []) new None
  late new over past known =
      let still : settled s (es ++ e ∷ []) ≡ settled s es =
      settled_late old.end (settled s es) (settled s (es ++ e ∷ [])) r.keeps.end over (λ end was. settled_stays s es (e ∷ []) end was) in
      record {
        keeps = moved s (es ++ e ∷ []) (known_in old.known) there None new (ap known_in known) past
            (learned_keeps s es (known_in old.known) (past_of old) there t.rest at_work e r.keeps t.started t.kept (known_in old.known) (front_itself (known_in old.known)) r.keeps.books.apart leads still);
        measured = λ none. absurd (not_open old.end over (sym t.rest.end ∙ ap (λ (p : Past). p.end) (sym past) ∙ none));
        knows = λ none. absurd (not_open old.end over (sym t.rest.end ∙ ap (λ (p : Past). p.end) (sym past) ∙ none));
        collects = collects_after s es e r.collects t.collects;
        undelivered = undelivered_after s es e r.undelivered t.delivers;
        looks = looks_same new (ap known_in known) (ap (λ (p : Past). p.looked_up) past);
        rows = rows_same new (ap known_in known) (ap (λ (p : Past). p.rows) past) (ap (λ (p : Past). p.looked_up) past);
        notes = ap (λ (p : Past). p.notes) past ∙ t.noted ∙ r.notes ∙ sym (no_notes_more es e t.notes);
        lost = λ key. lost_then key ∙ ap (λ (lost : List (List ℕ)). is_lost_in lost key) (ap (λ (p : Past). p.lost) (sym past));
        tried = subst (λ (p : Past). AreTriedOnce p) (sym past) t.tried;
      }

  module _ (going : old.end ≡ None) where
    unsettled : settled s es ≡ None
    unsettled = none_settled (settled s es) old.end r.keeps.end going

    learned_is : unfolding_at s (es ++ e ∷ []) ≡ unfolded walks (resolved es ++ one ∷ [])
    learned_is = unfolding_learns s es e one (r.measured going) t.measures t.resolving

    settled_then : (o : Option Fault) → (unfolded walks (resolved es ++ one ∷ [])).fault ≡ o → settled s (es ++ e ∷ []) ≡ fault_end o
    settled_then o is =
        settled_more s es e unsettled ∙ ap (λ (by_it : Option End). or_else by_it (unfold_end s (es ++ e ∷ []))) t.settles
        ∙ ap (λ (u : Unfolded). fault_end u.fault) learned_is ∙ ap fault_end is

    looks_then : (new : Course) → known_in new.known ≡ (unfolded walks (resolved es ++ one ∷ [])).jobs → (unfolding_at s (es ++ e ∷ [])).jobs ≡ known_in new.known →
        LooksUp (known_in new.known) (es ++ e ∷ []) there.looked_up
    looks_then new jobs whole =
        more_looked_up (known_in old.known) (known_in new.known) (es ++ e ∷ []) there.looked_up (subst AreApart (sym jobs) (laws.differ walks (resolved es ++ one ∷ [])))
        (subst (λ (js : List Job). IsFront (known_in old.known) js) whole leads) t.looks

    learns_more : (kept : Unfolding) (new : Course) → Knows walks (resolved es ++ one ∷ []) kept → new.known ≡ Some kept → past_of new ≡ there →
        Reflects s (es ++ e ∷ []) new None
    learns_more kept new k known past =
        let jobs : known_in new.known ≡ (unfolded walks (resolved es ++ one ∷ [])).jobs = ap known_in known ∙ k.jobs in
        let whole : (unfolding_at s (es ++ e ∷ [])).jobs ≡ known_in new.known = ap (λ (u : Unfolded). u.jobs) learned_is ∙ sym jobs in
        record {
          keeps = subst (λ (p : Past). Keeps s (es ++ e ∷ []) (known_in new.known) p None) (sym past)
              (learned_keeps s es (known_in old.known) (past_of old) there t.rest at_work e r.keeps t.started t.kept (known_in new.known)
              (subst (λ (js : List Job). IsFront (known_in old.known) js) whole leads)
              (subst AreApart (sym jobs) (laws.differ walks (resolved es ++ one ∷ [])))
              (subst (λ (js : List Job). IsFront (known_in new.known) js) (sym whole) (front_itself (known_in new.known)))
              (settled_then None k.fault ∙ sym unsettled));
          measured = λ still. measured_still s es (e ∷ []) (r.measured going);
          knows = λ still. subst (λ (o : Option Unfolding). IsKnown (s.walker (measures (es ++ e ∷ []))) (resolved (es ++ e ∷ [])) o) (sym known)
              (subst (λ (m : Measures). Knows (s.walker m) (resolved (es ++ e ∷ [])) kept) (sym (measures_stay es (e ∷ []) (one_test (is_measure e) t.measures)))
              (subst (λ (learned : List Resolved). Knows walks learned kept) (sym (resolved_after es (e ∷ []) ∙ rw t.resolving refl)) k));
          collects = collects_after s es e r.collects t.collects;
          undelivered = undelivered_after s es e r.undelivered t.delivers;
          looks = subst (λ n. LooksUp (known_in new.known) (es ++ e ∷ []) n) (sym (ap (λ (p : Past). p.looked_up) past)) (looks_then new jobs whole);
          rows = subst (λ (p : Past). AreFound (known_in new.known) (es ++ e ∷ []) p.rows p.looked_up) (sym past)
              (more_found (known_in old.known) (es ++ e ∷ []) there.rows there.looked_up t.rows
              (known_in new.known) (subst (λ (js : List Job). IsFront (known_in old.known) js) whole leads) t.looks (looks_then new jobs whole));
          notes = ap (λ (p : Past). p.notes) past ∙ t.noted ∙ r.notes ∙ sym (no_notes_more es e t.notes);
          lost = λ key. lost_then key ∙ ap (λ (lost : List (List ℕ)). is_lost_in lost key) (ap (λ (p : Past). p.lost) (sym past));
          tried = subst (λ (p : Past). AreTriedOnce p) (sym past) t.tried;
        }

    learns_fault : (fault : UnfoldFault) (new : Course) → (unfolded walks (resolved es ++ one ∷ [])).fault ≡ Some (fault_of fault) → known_in new.known ≡ known_in old.known →
        past_of new ≡ with_end (end_by fault) there → Reflects s (es ++ e ∷ []) new None
    learns_fault fault new is known past = record {
      keeps = moved s (es ++ e ∷ []) (known_in old.known) (with_end (outcome_of (end_of fault)) there) None new known
          (past ∙ ap (λ (end : Result Outcome RunFault). with_end end there) (sym (end_reported fault)))
          (learned_fails_keeps s es (known_in old.known) (past_of old) there t.rest at_work e r.keeps t.started t.kept (known_in old.known) (front_itself (known_in old.known)) r.keeps.books.apart leads
          (end_of fault) unsettled (settled_then (Some (fault_of fault)) is ∙ fault_ends fault));
      measured = λ still. absurd (never_none there.end (end_by fault) (ap (λ (p : Past). p.end) (sym past) ∙ still));
      knows = λ still. absurd (never_none there.end (end_by fault) (ap (λ (p : Past). p.end) (sym past) ∙ still));
      collects = collects_after s es e r.collects t.collects;
      undelivered = undelivered_after s es e r.undelivered t.delivers;
      looks = looks_same new known (ap (λ (p : Past). p.looked_up) past);
      rows = rows_same new known (ap (λ (p : Past). p.rows) past) (ap (λ (p : Past). p.looked_up) past);
      notes = ap (λ (p : Past). p.notes) past ∙ t.noted ∙ r.notes ∙ sym (no_notes_more es e t.notes);
      lost = λ key. lost_then key ∙ ap (λ (lost : List (List ℕ)). is_lost_in lost key) (ap (λ (p : Past). p.lost) (sym past));
      tried = subst (λ (p : Past). AreTriedOnce p) (sym past) (tried_still (leaves_same (record { jobs = refl; rows = refl; lost = refl })) t.tried);
    }

    module _ (before : Course) (past : past_of before ≡ there) (known : before.known ≡ old.known) where
      learned_by : {new : Course} → IsUnfolded walks (resolved es ++ one ∷ []) before new → Reflects s (es ++ e ∷ []) new None
      learned_by (knows kept new k now_known same) = learns_more kept new k now_known (same ∙ past)
      learned_by (fails fault new is jobs same) = learns_fault fault new is (jobs ∙ ap known_in known) (same ∙ ap (with_end (end_by fault)) past)

      still_job : {new : Course} (n : ℕ) (job : Job) → IsJob (known_in old.known) n job → IsUnfolded walks (resolved es ++ one ∷ []) before new → IsJob (known_in new.known) n job
      still_job n job it (knows kept new k now_known same) =
          let jobs : known_in new.known ≡ (unfolded walks (resolved es ++ one ∷ [])).jobs = ap known_in now_known ∙ k.jobs in
          let whole : (unfolding_at s (es ++ e ∷ [])).jobs ≡ known_in new.known = ap (λ (u : Unfolded). u.jobs) learned_is ∙ sym jobs in
          numbered_still (known_in old.known) (known_in new.known) n job (subst (λ (js : List Job). IsFront (known_in old.known) js) whole leads) it
      still_job n job it (fails fault new is jobs same) = subst (λ (js : List Job). IsJob js n job) (sym (jobs ∙ ap known_in known)) it

      unfolds : (new : Course) → Learns one before new → IsUnfolded walks (resolved es ++ one ∷ []) before new
      unfolds new learns =
          unfolds_by before.known walks (resolved es) one before new refl (subst (λ (o : Option Unfolding). IsKnown walks (resolved es) o) (sym known) (r.knows going)) learns

  module _ (before : Course) (past : past_of before ≡ there) (known : before.known ≡ old.known) (new : Course) (l : LearnsUnlessOver one before new) where
    same_end : before.end ≡ old.end
    same_end = ap (λ (p : Past). p.end) past ∙ t.rest.end

    by_end : (over : Bool) → is_some old.end ≡ over → Reflects s (es ++ e ∷ []) new None
    by_end true over =
        let settled_so : IsSome before.end = ap is_some same_end ∙ over in
        late new over (l.settled settled_so ∙ past) (l.unlearned settled_so ∙ known)
    by_end false still =
        let going : old.end ≡ None = is_none old.end still in
        learned_by going before past known (unfolds going before past known new (l.learned (same_end ∙ going)))

    -- what it reflects then
    pub taught : Reflects s (es ++ e ∷ []) new None
    taught = by_end (is_some old.end) refl

    job_by : (over : Bool) → is_some old.end ≡ over → (n : ℕ) (job : Job) → IsJob (known_in old.known) n job → IsJob (known_in new.known) n job
    job_by true over n job it =
        let settled_so : IsSome before.end = ap is_some same_end ∙ over in
        subst (λ (o : Option Unfolding). IsJob (known_in o) n job) (sym (l.unlearned settled_so ∙ known)) it
    job_by false still n job it =
        let going : old.end ≡ None = is_none old.end still in
        still_job going before past known n job it (unfolds going before past known new (l.learned (same_end ∙ going)))

    -- and a known job is known still
    pub job_is_still_known : (n : ℕ) (job : Job) → IsJob (known_in old.known) n job → IsJob (known_in new.known) n job
    job_is_still_known = job_by (is_some old.end) refl

module _ (s : Scene) (es : List Event) (old : Course) (n : ℕ) (job : Job) (it : IsJob (known_in old.known) n job) where
  -- the outputs of the job that is worked on
  pub outputs_teach : (outputs : Fields) (r : Reflects s es old (Some n)) →
      Teaches s es old (Some n) (job_succeeded job.place outputs) (record { place = job.place; outputs = outputs }) (with_hand n (past_of old)) r
  outputs_teach outputs r =
      let e : Event = job_succeeded job.place outputs in
      let within : n < length old.jobs = taken_within old.jobs n (r.keeps.books.worked_on n refl) in
      record {
        resolving = refl;
        measures = refl;
        settles = refl;
        collects = refl;
        delivers = refl;
        notes = refl;
        losses = λ key. refl;
        started = λ place. started_after es (e ∷ []) place;
        rest = hand_keeps_the_rest (past_of old) n within;
        noted = refl;
        lost = refl;
        tried = tried_still (hand_leaves (past_of old) n within) r.tried;
        kept = keeps_bringing (past_of old) n within (known_in old.known) (readings es) r.keeps.gave_up job it r.keeps.books;
        looks = still_looked_up (known_in old.known) es (e ∷ []) old.looked_up refl r.looks;
        rows = rows_still (known_in old.known) es old.rows old.looked_up r.rows (e ∷ []) refl;
      }

  -- the row of the first job that is left
  pub row_teaches : (row : Row) (r : Reflects s es old None) → old.looked_up ≤ n →
      ((other : ℕ) (its : Job) → IsJob (known_in old.known) other its → old.looked_up ≤ other → other < n → is_reusable its ≡ false) →
      Teaches s es old None (row_found job.place row) (record { place = job.place; outputs = row.outputs }) (with_answer n (RecordAnswer.Found (Some row)) None (past_of old)) r
  row_teaches row r left first =
      let e : Event = row_found job.place row in
      record {
        resolving = refl;
        measures = refl;
        settles = refl;
        collects = refl;
        delivers = refl;
        notes = refl;
        losses = λ key. refl;
        started = λ place. started_after es (e ∷ []) place;
        rest = record { few = refl; tries = λ m. refl; tickets = refl; flights = refl; end = refl };
        noted = refl;
        lost = refl;
        tried = tried_still (answer_leaves (past_of old) n (RecordAnswer.Found (Some row)) (le_trans r.rows.few left)) r.tried;
        kept = r.keeps.books;
        looks = one_looked_up (known_in old.known) es e old.looked_up n job r.keeps.books.apart it (λ at. refl) left first r.looks;
        rows = row_is_found (known_in old.known) es old.rows old.looked_up r.rows n job it r.keeps.books.apart left r.looks row;
      }
