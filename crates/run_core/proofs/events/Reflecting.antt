-- What a course reflects goes on with each event: a lemma for each.
use Rattle.std.specs.Prelude.{Ok, ◌<◌, ◌||◌, Contains, IsSome, is_some, Result, Err, option_map, ◌&&◌, ◌≤◌}
use Rattle.std.specs.List.{list_any}
use Rattle.std.proofs.Common.{◌≡◌, ◌∙◌, ◌+◌, ℕ, Bool, true, false, List, [], ◌∷◌, ◌++◌, length, Option, Some, None, refl, sym, ap, subst, cond, filter_map, append-nil}
use Rattle.std.proofs.lemmas.Bool.{or_from, or_parts}
use Rattle.command_line.specs.declared.launch.Launch.{Launch}
use Rattle.input_files.specs.Measured.{Measures}
use Rattle.proc_host.specs.Tickets.{IsFresh, without}
use Rattle.proc_host.specs.declared.call.HostFault.{HostFault}
use Rattle.job_graph.specs.declared.fault.UnfoldFault.{UnfoldFault}
use Rattle.job_graph.specs.declared.unfolding.Unfolding.{Unfolding}
use Rattle.staging.specs.declared.plan.StagePlan.{StagePlan}
use Rattle.job_graph.specs.Jobs.{Job, Walker}
use Rattle.job_graph.specs.Unfold.{Resolved, outputs_at, unfolded}
use Rattle.job_graph.specs.Words.{Fields, JobPlace, is_same_place}
use Rattle.run_rules.specs.declared.outcome.Cause.{Cause}
use Rattle.run_rules.specs.declared.outcome.Outcome.{Outcome}
use Rattle.run_rules.specs.declared.outcome.RunFault.{RunFault}
use Rattle.run_rules.specs.End.{End, beyond_limits, ended_by_host, fails_permanently, fault_end, is_lost_collect, settled_by, ended_by_record, mismatches}
use Rattle.run_rules.specs.Events.{Event, child_exited, delivered_at, delivered_if, in_flight, job_at, job_failed, job_failed_for_now, job_staged, job_started, host_failed, measures, number_at, resolved, started_at, unfolding_at, find_failed, is_reusable, looks_up, no_row, started_if, Started, row_differs, put_failed, row_at, job_repeated, store_failed, archive_differs, discard_failed, drop_failed, touch_failed, files_fetched, is_at_hand, is_fetched, is_lost, loses, host_failed_late}
use Rattle.run_rules.specs.Reports.{outcome_of, note_of, notes_of}
use Rattle.run_rules.specs.Scene.{Scene}
use Rattle.run_rules.proofs.events.Known.{found_still, front_itself, is_measure, measured_still, measures_stay, resolved_stay, teaches}
use Rattle.run_rules.proofs.events.Places.{AreApart, IsJob, found_at}
use Rattle.run_rules.proofs.events.Readings.{delivered_after, lost_after, started_after}
use Rattle.run_rules.proofs.events.Settled.{is_quiet, settled_quietly}
use Rattle.run_rules.proofs.events.Tally.{is_aside, readings}
use Rattle.run_rules.proofs.events.Turns.{FliesAt, flight_of}
use Rattle.run_rules.proofs.events.Lookups.{LooksUp, is_no_answer, one_looked_up, still_looked_up}
use Rattle.job_rows.specs.declared.refusal.RecordRefusal.{RecordRefusal}
use Rattle.job_rows.specs.declared.row.Row.{Row}
use Rattle.run_core.specs.declared.state.Course.{Course}
use Rattle.run_core.specs.declared.state.Flight.{Flight}
use Rattle.run_core.specs.declared.state.Kept.{Kept}
use Rattle.plan_keeper.specs.declared.planned.Planned.{Planned}
use Rattle.run_core.specs.inner.Course.{GivesUp, Past, TakesOut, again, known_in, past_of, place_at, too_often, with_end, with_giving_up, with_staging, with_start, with_answer, with_hand, failure_by, failure_in, put_note, with_note, store_note, discard_note, drop_note, touch_note, is_lost_in, key_in, with_load, with_loss, late_note, with_plan}
use Rattle.run_core.specs.inner.Due.{IsKept}
use Rattle.run_core.specs.inner.Keeps.{AreTriedOnce, Keeps, Reflects, course_of, numbers_of, AreFound}
use Rattle.run_core.specs.inner.Knows.{IsKnown, IsUnfolded, Learns, end_by, fault_of}
use Rattle.run_core.specs.inner.Standing.{HasStarted}
use Rattle.run_core.proofs.events.Keeping.{HasLanded, failed_keeps, front_later, gave_up_keeps, hand_keeps_the_rest, landed_keeps, learned_keeps, never_none, staged_keeps, started_keeps, too_often_keeps, aside_keeps, loaded_keeps, looked_keeps, missed_keeps, noted_keeps, over_keeps, planned_keeps}
use Rattle.run_core.proofs.events.Kept.{keeps_bringing}
use Rattle.run_core.proofs.events.Numbers.{place_there}
use Rattle.run_core.proofs.States.{taken_within}
use Rattle.run_core.specs.inner.JobStates.{is_there, state_at, waits_in}
use Rattle.run_rules.proofs.events.Flights.{is_flying}
use Rattle.std.proofs.lemmas.List.Elements.{filter_map-append}
use Rattle.run_rules.specs.declared.outcome.Note.{Note}
use Rattle.run_rules.specs.declared.request.RecordAnswer.{RecordAnswer}
use Rattle.run_core.specs.inner.FoundRows.{row_in, rows_after}
use Rattle.run_core.proofs.events.Losses.{aside_loses_nothing, none_lost, one_lost}
use Rattle.run_core.proofs.events.Tried.{LeavesTried, answer_leaves, giving_up_leaves, hand_leaves, leaves_same, load_tried, loss_tried, staging_leaves, tried_still}
use Rattle.std.proofs.lemmas.Option.{slice_get_within}
use Rattle.std.proofs.Math.Nat.{le_trans}
use Rattle.std.specs.Option.{option_map_or}
use Rattle.run_core.proofs.FoundRows.{found_still as rows_still}

-- whether an event leaves what is known, delivered and collected as it was
abbrev pub is_plain : Event → Bool
is_plain (job_staged place number) = true
is_plain (job_started place inputs launch ticket) = true
is_plain (child_exited ticket) = true
is_plain (job_failed place cause) = true
is_plain (job_failed_for_now place) = true
is_plain (host_failed place fault) = true
is_plain (find_failed place refusal) = true
is_plain (row_differs place outputs) = true
is_plain (job_repeated place) = true
is_plain (files_fetched place number) = true
is_plain (archive_differs place its_key number) = true
is_plain _ = false

plain_teaches_nothing : (e : Event) → is_plain e ≡ true → teaches e ≡ false
plain_teaches_nothing (job_staged place number) plain = refl
plain_teaches_nothing (job_started place inputs launch ticket) plain = refl
plain_teaches_nothing (child_exited ticket) plain = refl
plain_teaches_nothing (job_failed place cause) plain = refl
plain_teaches_nothing (job_failed_for_now place) plain = refl
plain_teaches_nothing (host_failed place fault) plain = refl
plain_teaches_nothing (find_failed place refusal) plain = refl
plain_teaches_nothing (row_differs place outputs) plain = refl
plain_teaches_nothing (job_repeated place) plain = refl
plain_teaches_nothing (files_fetched place number) plain = refl
plain_teaches_nothing (archive_differs place its_key number) plain = refl
plain_teaches_nothing _ plain = absurd cc

plain_measures_nothing : (e : Event) → is_plain e ≡ true → is_measure e ≡ false
plain_measures_nothing (job_staged place number) plain = refl
plain_measures_nothing (job_started place inputs launch ticket) plain = refl
plain_measures_nothing (child_exited ticket) plain = refl
plain_measures_nothing (job_failed place cause) plain = refl
plain_measures_nothing (job_failed_for_now place) plain = refl
plain_measures_nothing (host_failed place fault) plain = refl
plain_measures_nothing (find_failed place refusal) plain = refl
plain_measures_nothing (row_differs place outputs) plain = refl
plain_measures_nothing (job_repeated place) plain = refl
plain_measures_nothing (files_fetched place number) plain = refl
plain_measures_nothing (archive_differs place its_key number) plain = refl
plain_measures_nothing _ plain = absurd cc

plain_loses_nothing : (e : Event) → is_plain e ≡ true → is_lost_collect e ≡ false
plain_loses_nothing (job_staged place number) plain = refl
plain_loses_nothing (job_started place inputs launch ticket) plain = refl
plain_loses_nothing (child_exited ticket) plain = refl
plain_loses_nothing (job_failed place cause) plain = refl
plain_loses_nothing (job_failed_for_now place) plain = refl
plain_loses_nothing (host_failed place fault) plain = refl
plain_loses_nothing (find_failed place refusal) plain = refl
plain_loses_nothing (row_differs place outputs) plain = refl
plain_loses_nothing (job_repeated place) plain = refl
plain_loses_nothing (files_fetched place number) plain = refl
plain_loses_nothing (archive_differs place its_key number) plain = refl
plain_loses_nothing _ plain = absurd cc

plain_delivers_nothing : (e : Event) → is_plain e ≡ true → delivered_if None e ≡ None
plain_delivers_nothing (job_staged place number) plain = refl
plain_delivers_nothing (job_started place inputs launch ticket) plain = refl
plain_delivers_nothing (child_exited ticket) plain = refl
plain_delivers_nothing (job_failed place cause) plain = refl
plain_delivers_nothing (job_failed_for_now place) plain = refl
plain_delivers_nothing (host_failed place fault) plain = refl
plain_delivers_nothing (find_failed place refusal) plain = refl
plain_delivers_nothing (row_differs place outputs) plain = refl
plain_delivers_nothing (job_repeated place) plain = refl
plain_delivers_nothing (files_fetched place number) plain = refl
plain_delivers_nothing (archive_differs place its_key number) plain = refl
plain_delivers_nothing _ plain = absurd cc

plain_tells_nothing : (e : Event) → is_plain e ≡ true → is_no_answer e ≡ true
plain_tells_nothing (job_staged place number) plain = refl
plain_tells_nothing (job_started place inputs launch ticket) plain = refl
plain_tells_nothing (child_exited ticket) plain = refl
plain_tells_nothing (job_failed place cause) plain = refl
plain_tells_nothing (job_failed_for_now place) plain = refl
plain_tells_nothing (host_failed place fault) plain = refl
plain_tells_nothing (find_failed place refusal) plain = refl
plain_tells_nothing (row_differs place outputs) plain = refl
plain_tells_nothing (job_repeated place) plain = refl
plain_tells_nothing (files_fetched place number) plain = refl
plain_tells_nothing (archive_differs place its_key number) plain = refl
plain_tells_nothing _ plain = absurd cc

plain_notes_nothing : (e : Event) → is_plain e ≡ true → note_of e ≡ None
plain_notes_nothing (put_failed place refusal) plain = absurd cc
plain_notes_nothing (drop_failed place refusal) plain = absurd cc
plain_notes_nothing (touch_failed place refusal) plain = absurd cc
plain_notes_nothing (discard_failed place) plain = absurd cc
plain_notes_nothing (store_failed place) plain = absurd cc
plain_notes_nothing (host_failed_late place fault) plain = absurd cc
plain_notes_nothing _ plain = refl

-- notes after one more event
pub notes_more : (es : List Event) (e : Event) (o : Option Note) → note_of e ≡ o → notes_of (es ++ e ∷ []) ≡ notes_of es ++ filter_map (λ (n : Option Note). n) (o ∷ [])
notes_more es e o is = filter_map-append note_of es (e ∷ []) ∙ ap (λ (n : Option Note). notes_of es ++ filter_map (λ (x : Option Note). x) (n ∷ [])) is

pub no_notes_more : (es : List Event) (e : Event) → note_of e ≡ None → notes_of (es ++ e ∷ []) ≡ notes_of es
no_notes_more es e none = notes_more es e None none ∙ append-nil (notes_of es)

pub one_test : (b : Bool) → b ≡ false → (b || false) ≡ false
one_test b is = ap (λ c. c || false) is

-- an end that is there is not open
pub not_open : {T : Type 0} (o : Option T) → IsSome o → o ≡ None → ⊥
not_open None some none = let never : false ≡ true = some in cc
not_open (Some x) some none = let never : Some x ≡ None = none in cc

-- what was settled stays
pub settled_late : (kept : Option (Result Outcome RunFault)) (before after : Option End) → kept ≡ option_map outcome_of before → IsSome kept →
    ((old : End) → before ≡ Some old → after ≡ Some old) → after ≡ before
settled_late kept None after is some stays = absurd (not_open kept some is)
settled_late kept (Some old) after is some stays = stays old refl

-- the end by a fault
abbrev pub end_of : UnfoldFault → End
end_of UnfoldFault.TooManyJobs = beyond_limits
end_of (UnfoldFault.Fault place cause) = fails_permanently place (Cause.Equation cause)

pub fault_ends : (fault : UnfoldFault) → fault_end (Some (fault_of fault)) ≡ Some (end_of fault)
fault_ends UnfoldFault.TooManyJobs = refl
fault_ends (UnfoldFault.Fault place cause) = refl

pub end_reported : (fault : UnfoldFault) → outcome_of (end_of fault) ≡ end_by fault
end_reported UnfoldFault.TooManyJobs = refl
end_reported (UnfoldFault.Fault place cause) = refl

pub unfolds_by : (o : Option Unfolding) (walks : Walker) (learned : List Resolved) (one : Resolved) (old new : Course) → old.known ≡ o → IsKnown walks learned o →
    Learns one old new → IsUnfolded walks (learned ++ one ∷ []) old new
unfolds_by None walks learned one old new is known learns = absurd known
unfolds_by (Some kept) walks learned one old new is known learns = learns walks learned kept is known

-- two laws of walks: known jobs are at different places; and where each known job is resolved and no equation fails the result is there
pub record Laws (s : Scene) : Type 0 where
  pub differ : (walks : Walker) (learned : List Resolved) → AreApart (unfolded walks learned).jobs
  pub results : (measures : Measures) (learned : List Resolved) → (unfolded (s.walker measures) learned).fault ≡ None →
      ((job : Job) → Contains (unfolded (s.walker measures) learned).jobs job → is_some (outputs_at learned job.place) ≡ true) →
      IsSome (unfolded (s.walker measures) learned).result

-- the record's answer on the job at a place is an event that nothing else is read of
pub record IsTold (place : JobPlace) (e : Event) : Type 0 where
  pub aside : is_aside e ≡ true
  pub quiet : is_quiet e ≡ true
  pub teaches : teaches e ≡ false
  pub measures : is_measure e ≡ false
  pub collects : is_lost_collect e ≡ false
  pub delivers : delivered_if None e ≡ None
  pub started : (last : Option Started) (at : JobPlace) → started_if at last e ≡ last
  pub tells : (at : JobPlace) → looks_up at e ≡ is_same_place place at
  pub notes : note_of e ≡ None
  pub losses : (key : List ℕ) → loses key e ≡ false

pub none_is_told : (place : JobPlace) → IsTold place (no_row place)
none_is_told place = record { aside = refl; quiet = refl; teaches = refl; measures = refl; collects = refl; delivers = refl; started = λ last at. refl; tells = λ at. refl; notes = refl; losses = λ key. refl }

-- an event that is noted, and of which nothing else is read
record IsNoted (e : Event) (note : Note) : Type 0 where
  aside : is_aside e ≡ true
  quiet : is_quiet e ≡ true
  teaches : teaches e ≡ false
  measures : is_measure e ≡ false
  collects : is_lost_collect e ≡ false
  delivers : delivered_if None e ≡ None
  started : (last : Option Started) (at : JobPlace) → started_if at last e ≡ last
  answers : is_no_answer e ≡ true
  notes : note_of e ≡ Some note

module _ (s : Scene) where
  -- the same course
  pub moved : (es : List Event) (jobs : List Job) (past : Past) (at_work : Option ℕ) (new : Course) → known_in new.known ≡ jobs → past_of new ≡ past →
      Keeps s es jobs past at_work → Keeps s es (known_in new.known) (past_of new) at_work
  moved es jobs past at_work new known same keeps =
      subst (λ (js : List Job). Keeps s es js (past_of new) at_work) (sym known) (subst (λ (p : Past). Keeps s es jobs p at_work) (sym same) keeps)

  -- the same rows were looked for
  pub looks_moved : (es : List Event) (old new : Course) → known_in new.known ≡ known_in old.known → new.looked_up ≡ old.looked_up →
      LooksUp (known_in old.known) es old.looked_up → LooksUp (known_in new.known) es new.looked_up
  looks_moved es old new known count looks =
      subst (λ (jobs : List Job). LooksUp jobs es new.looked_up) (sym known) (subst (λ n. LooksUp (known_in old.known) es n) (sym count) looks)

  -- the same rows were found
  pub found_moved : (es : List Event) (old new : Course) → known_in new.known ≡ known_in old.known → new.rows ≡ old.rows → new.looked_up ≡ old.looked_up →
      AreFound (known_in old.known) es old.rows old.looked_up → AreFound (known_in new.known) es new.rows new.looked_up
  found_moved es old new known rows count found =
      subst (λ (jobs : List Job). AreFound jobs es new.rows new.looked_up) (sym known)
      (subst (λ (rs : List (Option Row)). AreFound (known_in old.known) es rs new.looked_up) (sym rows)
      (subst (λ n. AreFound (known_in old.known) es old.rows n) (sym count) found))

  pub reflects_same : (es : List Event) (old new : Course) (at_work : Option ℕ) → past_of new ≡ past_of old → new.known ≡ old.known → Reflects s es old at_work →
      Reflects s es new at_work
  reflects_same es old new at_work past known r = record {
    keeps = moved es (known_in old.known) (past_of old) at_work new (ap known_in known) past r.keeps;
    measured = λ still. r.measured (ap (λ (p : Past). p.end) (sym past) ∙ still);
    knows = λ still. subst (λ (k : Option Unfolding). IsKnown (s.walker (measures es)) (resolved es) k) (sym known) (r.knows (ap (λ (p : Past). p.end) (sym past) ∙ still));
    collects = r.collects;
    undelivered = r.undelivered;
    looks = looks_moved es old new (ap known_in known) (ap (λ (p : Past). p.looked_up) past) r.looks;
    rows = found_moved es old new (ap known_in known) (ap (λ (p : Past). p.rows) past) (ap (λ (p : Past). p.looked_up) past) r.rows;
    notes = ap (λ (p : Past). p.notes) past ∙ r.notes;
    lost = λ key. r.lost key ∙ ap (λ (lost : List (List ℕ)). is_lost_in lost key) (ap (λ (p : Past). p.lost) (sym past));
    tried = subst (λ (p : Past). AreTriedOnce p) (sym past) r.tried;
  }

  known_after : (es : List Event) (e : Event) (known : Option Unfolding) → is_measure e ≡ false → teaches e ≡ false →
      IsKnown (s.walker (measures es)) (resolved es) known → IsKnown (s.walker (measures (es ++ e ∷ []))) (resolved (es ++ e ∷ [])) known
  known_after es e known no_measure none is =
      subst (λ (m : Measures). IsKnown (s.walker m) (resolved (es ++ e ∷ [])) known) (sym (measures_stay es (e ∷ []) (one_test (is_measure e) no_measure)))
      (subst (λ (learned : List Resolved). IsKnown (s.walker (measures es)) learned known) (sym (resolved_stay es (e ∷ []) (one_test (teaches e) none))) is)

  pub undelivered_after : (es : List Event) (e : Event) → delivered_at es ≡ None → delivered_if None e ≡ None → delivered_at (es ++ e ∷ []) ≡ None
  undelivered_after es e none so = delivered_after es (e ∷ []) ∙ ap (λ (o : Option StagePlan). delivered_if o e) none ∙ so

  pub collects_after : (es : List Event) (e : Event) → list_any is_lost_collect es ≡ false → is_lost_collect e ≡ false → list_any is_lost_collect (es ++ e ∷ []) ≡ false
  collects_after es e none so = lost_after es (e ∷ []) ∙ or_from (list_any is_lost_collect es) (is_lost_collect e || false) none (one_test (is_lost_collect e) so)

  -- what the record has told stays, and what was noted; and so what is kept of archives
  record KeepsRecord (es : List Event) (e : Event) (past : Past) (old : Course) : Type 0 where
    pub looked_up : past.looked_up ≡ old.looked_up
    pub rows : past.rows ≡ old.rows
    pub notes : past.notes ≡ old.notes.items
    pub lost : (key : List ℕ) → is_lost (es ++ e ∷ []) key ≡ is_lost_in past.lost key
    pub tried : AreTriedOnce past

  -- where nothing is lost, and no fetch is asked for
  keeps_all : (es : List Event) (e : Event) (old : Course) (past : Past) (at_work : Option ℕ) → ((key : List ℕ) → loses key e ≡ false) → past.looked_up ≡ old.looked_up → past.rows ≡ old.rows →
      past.notes ≡ old.notes.items → past.lost ≡ old.lost.items → LeavesTried (past_of old) past → Reflects s es old at_work → KeepsRecord es e past old
  keeps_all es e old past at_work none count rows notes lost leaves r = record {
    looked_up = count;
    rows = rows;
    notes = notes;
    lost = λ key. none_lost es e key (none key) ∙ r.lost key ∙ ap (λ (l : List (List ℕ)). is_lost_in l key) (sym lost);
    tried = tried_still leaves r.tried;
  }

  -- also where it leaves the jobs
  keeps_jobs : (es : List Event) (e : Event) (old : Course) (past : Past) (at_work : Option ℕ) → ((key : List ℕ) → loses key e ≡ false) → past.looked_up ≡ old.looked_up → past.rows ≡ old.rows →
      past.notes ≡ old.notes.items → past.lost ≡ old.lost.items → past.jobs ≡ old.jobs → Reflects s es old at_work → KeepsRecord es e past old
  keeps_jobs es e old past at_work none count rows notes lost jobs r =
      keeps_all es e old past at_work none count rows notes lost (leaves_same (record { jobs = jobs; rows = rows; lost = lost })) r

  -- a plain event leaves what is known
  reflects_on : (es : List Event) (e : Event) (old new : Course) (past : Past) (before after : Option ℕ) → is_plain e ≡ true → past_of new ≡ past → new.known ≡ old.known →
      KeepsRecord es e past old → (past.end ≡ None → old.end ≡ None) → Reflects s es old before → Keeps s (es ++ e ∷ []) (known_in old.known) past after → Reflects s (es ++ e ∷ []) new after
  reflects_on es e old new past before after plain same known count opens r keeps = record {
    keeps = moved (es ++ e ∷ []) (known_in old.known) past after new (ap known_in known) same keeps;
    measured = λ still. measured_still s es (e ∷ []) (r.measured (opens (ap (λ (p : Past). p.end) (sym same) ∙ still)));
    knows = λ still. subst (λ (k : Option Unfolding). IsKnown (s.walker (measures (es ++ e ∷ []))) (resolved (es ++ e ∷ [])) k) (sym known)
        (known_after es e old.known (plain_measures_nothing e plain) (plain_teaches_nothing e plain) (r.knows (opens (ap (λ (p : Past). p.end) (sym same) ∙ still))));
    collects = collects_after es e r.collects (plain_loses_nothing e plain);
    undelivered = undelivered_after es e r.undelivered (plain_delivers_nothing e plain);
    looks = looks_moved (es ++ e ∷ []) old new (ap known_in known) (ap (λ (p : Past). p.looked_up) same ∙ count.looked_up)
        (still_looked_up (known_in old.known) es (e ∷ []) old.looked_up (ap (λ b. b && true) (plain_tells_nothing e plain)) r.looks);
    rows = found_moved (es ++ e ∷ []) old new (ap known_in known) (ap (λ (p : Past). p.rows) same ∙ count.rows) (ap (λ (p : Past). p.looked_up) same ∙ count.looked_up)
        (rows_still (known_in old.known) es old.rows old.looked_up r.rows (e ∷ []) (ap (λ b. b && true) (plain_tells_nothing e plain)));
    notes = ap (λ (p : Past). p.notes) same ∙ count.notes ∙ r.notes ∙ sym (no_notes_more es e (plain_notes_nothing e plain));
    lost = λ key. count.lost key ∙ ap (λ (lost : List (List ℕ)). is_lost_in lost key) (ap (λ (p : Past). p.lost) (sym same));
    tried = subst (λ (p : Past). AreTriedOnce p) (sym same) count.tried;
  }

  pub staged_reflects : (es : List Event) (old new : Course) (n : ℕ) (job : Job) → IsJob (known_in old.known) n job → waits_in old.jobs n ≡ true →
      length (in_flight es) < s.options.slots → past_of new ≡ with_staging n (past_of old) → new.known ≡ old.known →
      Reflects s es old None → Reflects s (es ++ job_staged job.place (old.folders + 1) ∷ []) new (Some n)
  staged_reflects es old new n job it free slot past known r =
      reflects_on es (job_staged job.place (old.folders + 1)) old new (with_staging n (past_of old)) None (Some n) refl past known
      (keeps_all es (job_staged job.place (old.folders + 1)) old (with_staging n (past_of old)) None (λ key. refl) refl refl refl refl (staging_leaves (past_of old) n) r) (λ still. still) r
      (staged_keeps s es (known_in old.known) (past_of old) n job it free slot r.keeps)

  pub started_reflects : (es : List Event) (old new : Course) (n : ℕ) (job : Job) (inputs : Fields) (launch : Launch) (kept : Kept) (ticket : ℕ) → IsJob (known_in old.known) n job →
      IsKept kept (record { inputs = inputs; launch = launch }) → IsFresh ticket old.tickets.items → past_of new ≡ with_start n kept ticket (past_of old) → new.known ≡ old.known →
      Reflects s es old (Some n) → Reflects s (es ++ job_started job.place inputs launch ticket ∷ []) new None
  started_reflects es old new n job inputs launch kept ticket it same fresh past known r =
      reflects_on es (job_started job.place inputs launch ticket) old new (with_start n kept ticket (past_of old)) (Some n) None refl past known
      (keeps_jobs es (job_started job.place inputs launch ticket) old (with_start n kept ticket (past_of old)) (Some n) (λ key. refl) refl refl refl refl refl r) (λ still. still) r
      (started_keeps s es (known_in old.known) (past_of old) n job inputs launch kept ticket it same fresh r.keeps)

  -- a child has ended
  pub record Landed (es : List Event) (old new : Course) (ticket : ℕ) (flight : Flight) : Type 0 where
    pub job : Job
    pub it : IsJob (known_in old.known) flight.job job
    pub there : Contains (in_flight es) (ticket, job.place)
    pub left : new.tickets.items ≡ without ticket old.tickets.items
    pub begun : HasStarted (es ++ child_exited ticket ∷ []) job.place flight.kept
    pub reflects : Reflects s (es ++ child_exited ticket ∷ []) new (Some flight.job)

  pub landed_reflects : (es : List Event) (old new : Course) (ticket : ℕ) (flight : Flight) → TakesOut ticket flight (past_of old) (past_of new) → new.known ≡ old.known →
      Reflects s es old None → Landed es old new ticket flight
  landed_reflects es old new ticket flight taken known r =
      let lands : HasLanded s es (known_in old.known) ticket flight (past_of old) (past_of new) =
      landed_keeps s es (known_in old.known) (past_of old) (past_of new) ticket flight taken r.keeps in
      record {
        job = lands.job;
        it = lands.it;
        there = lands.there;
        left = lands.left;
        begun = lands.begun;
        reflects = reflects_on es (child_exited ticket) old new (past_of new) None (Some flight.job) refl refl known
            (keeps_jobs es (child_exited ticket) old (past_of new) None (λ key. refl) (ap (λ (p : Past). p.looked_up) taken.is) (ap (λ (p : Past). p.rows) taken.is)
            (ap (λ (p : Past). p.notes) taken.is) (ap (λ (p : Past). p.lost) taken.is) (ap (λ (p : Past). p.jobs) taken.is) r)
            (λ still. ap (λ (p : Past). p.end) (sym taken.is) ∙ still) r lands.keeps;
      }

  -- a failure settles the end
  failure_reflects : (es : List Event) (old new : Course) (at_work : Option ℕ) (e : Event) (end : End) → is_plain e ≡ true → is_aside e ≡ true →
      ((place : JobPlace) → started_at (es ++ e ∷ []) place ≡ started_at es place) → settled_by s es e ≡ Some end →
      past_of new ≡ with_end (outcome_of end) (past_of old) → new.known ≡ old.known → Reflects s es old at_work → Reflects s (es ++ e ∷ []) new None
  failure_reflects es old new at_work e end plain aside same is past known r =
      reflects_on es e old new (with_end (outcome_of end) (past_of old)) at_work None plain past known
      (keeps_jobs es e old (with_end (outcome_of end) (past_of old)) at_work (aside_loses_nothing e aside) refl refl refl refl refl r) (λ still. absurd (never_none old.end (outcome_of end) still)) r
      (failed_keeps s es (known_in old.known) (past_of old) at_work e end aside (plain_teaches_nothing e plain) same is r.keeps)

  -- a job failed, or did not give what its row has
  failure_is : (row : Option Row) (place : JobPlace) (cause : Cause) → outcome_of (cond (is_some row) (mismatches place) (fails_permanently place cause)) ≡ failure_by row place cause
  failure_is None place cause = refl
  failure_is (Some row) place cause = refl

  pub job_failed_reflects : (es : List Event) (old new : Course) (at_work : Option ℕ) (n : ℕ) (job : Job) (cause : Cause) → IsJob (known_in old.known) n job →
      past_of new ≡ with_end (failure_in (past_of old) n job.place cause) (past_of old) → new.known ≡ old.known → Reflects s es old at_work →
      Reflects s (es ++ job_failed job.place cause ∷ []) new None
  job_failed_reflects es old new at_work n job cause it past known r =
      failure_reflects es old new at_work (job_failed job.place cause) (cond (is_some (row_at es job.place)) (mismatches job.place) (fails_permanently job.place cause)) refl refl
      (λ p. started_after es (job_failed job.place cause ∷ []) p) refl
      (past ∙ ap (λ (end : Result Outcome RunFault). with_end end (past_of old))
      (ap (λ (row : Option Row). failure_by row job.place cause) (sym (r.rows.each n job it)) ∙ sym (failure_is (row_at es job.place) job.place cause)))
      known r

  pub mismatch_reflects : (es : List Event) (old new : Course) (at_work : Option ℕ) (place : JobPlace) (outputs : Fields) →
      past_of new ≡ with_end (Err (RunFault.Mismatch place)) (past_of old) → new.known ≡ old.known → Reflects s es old at_work → Reflects s (es ++ row_differs place outputs ∷ []) new None
  mismatch_reflects es old new at_work place outputs past known r =
      failure_reflects es old new at_work (row_differs place outputs) (mismatches place) refl refl (λ p. started_after es (row_differs place outputs ∷ []) p) refl past known r

  pub host_failed_reflects : (es : List Event) (old new : Course) (at_work : Option ℕ) (place : JobPlace) (fault : HostFault) →
      past_of new ≡ with_end (Err (RunFault.Host fault [])) (past_of old) → new.known ≡ old.known → Reflects s es old at_work → Reflects s (es ++ host_failed place fault ∷ []) new None
  host_failed_reflects es old new at_work place fault past known r =
      failure_reflects es old new at_work (host_failed place fault) (ended_by_host fault []) refl refl (λ p. started_after es (host_failed place fault ∷ []) p) refl past known r

  pub find_failed_reflects : (es : List Event) (old new : Course) (at_work : Option ℕ) (place : JobPlace) (refusal : RecordRefusal) →
      past_of new ≡ with_end (Err (RunFault.Record refusal)) (past_of old) → new.known ≡ old.known → Reflects s es old at_work → Reflects s (es ++ find_failed place refusal ∷ []) new None
  find_failed_reflects es old new at_work place refusal past known r =
      failure_reflects es old new at_work (find_failed place refusal) (ended_by_record refusal) refl refl (λ p. started_after es (find_failed place refusal ∷ []) p) refl past known r

  -- the row of the first job that is left was looked for
  pub answer_reflects : (es : List Event) (old new : Course) (n : ℕ) (job : Job) (e : Event) → IsTold job.place e → IsJob (known_in old.known) n job → old.looked_up ≤ n →
      ((other : ℕ) (its : Job) → IsJob (known_in old.known) other its → old.looked_up ≤ other → other < n → is_reusable its ≡ false) →
      (answer : RecordAnswer) → AreFound (known_in old.known) (es ++ e ∷ []) (rows_after n answer old.rows) (n + 1) →
      past_of new ≡ with_answer n answer None (past_of old) → new.known ≡ old.known → Reflects s es old None → Reflects s (es ++ e ∷ []) new None
  answer_reflects es old new n job e told it left first answer found past known r = record {
    keeps = moved (es ++ e ∷ []) (known_in old.known) (with_answer n answer None (past_of old)) None new (ap known_in known) past
        (looked_keeps s (es ++ e ∷ []) (known_in old.known) (past_of old) n answer
        (aside_keeps s es (known_in old.known) (past_of old) None e told.aside told.quiet told.teaches (λ place. started_after es (e ∷ []) place ∙ told.started (started_at es place) place)
        (settled_quietly s es (e ∷ []) (ap (λ b. b && true) told.quiet)) r.keeps));
    measured = λ still. measured_still s es (e ∷ []) (r.measured (ap (λ (p : Past). p.end) (sym past) ∙ still));
    knows = λ still. subst (λ (k : Option Unfolding). IsKnown (s.walker (measures (es ++ e ∷ []))) (resolved (es ++ e ∷ [])) k) (sym known)
        (known_after es e old.known told.measures told.teaches (r.knows (ap (λ (p : Past). p.end) (sym past) ∙ still)));
    collects = collects_after es e r.collects told.collects;
    undelivered = undelivered_after es e r.undelivered told.delivers;
    looks = subst (λ (jobs : List Job). LooksUp jobs (es ++ e ∷ []) new.looked_up) (sym (ap known_in known))
        (subst (λ count. LooksUp (known_in old.known) (es ++ e ∷ []) count) (sym (ap (λ (p : Past). p.looked_up) past))
        (one_looked_up (known_in old.known) es e old.looked_up n job r.keeps.books.apart it told.tells left first r.looks));
    rows = subst (λ (jobs : List Job). AreFound jobs (es ++ e ∷ []) new.rows new.looked_up) (sym (ap known_in known))
        (subst (λ (p : Past). AreFound (known_in old.known) (es ++ e ∷ []) p.rows p.looked_up) (sym past) found);
    notes = ap (λ (p : Past). p.notes) past ∙ r.notes ∙ sym (no_notes_more es e told.notes);
    lost = λ key. none_lost es e key (told.losses key) ∙ r.lost key ∙ ap (λ (lost : List (List ℕ)). is_lost_in lost key) (ap (λ (p : Past). p.lost) (sym past));
    tried = subst (λ (p : Past). AreTriedOnce p) (sym past) (tried_still (answer_leaves (past_of old) n answer (le_trans r.rows.few left)) r.tried);
  }

  -- what went wrong without changing the end is noted
  noted_reflects : (es : List Event) (old new : Course) (at_work : Option ℕ) (e : Event) (note : Note) → IsNoted e note → past_of new ≡ with_note note (past_of old) →
      new.known ≡ old.known → Reflects s es old at_work → Keeps s es (known_in old.known) (past_of old) None → Reflects s (es ++ e ∷ []) new None
  noted_reflects es old new at_work e note told past known r idle = record {
    keeps = moved (es ++ e ∷ []) (known_in old.known) (with_note note (past_of old)) None new (ap known_in known) past
        (noted_keeps s (es ++ e ∷ []) (known_in old.known) (past_of old) note
        (aside_keeps s es (known_in old.known) (past_of old) None e told.aside told.quiet told.teaches (λ place. started_after es (e ∷ []) place ∙ told.started (started_at es place) place)
        (settled_quietly s es (e ∷ []) (ap (λ b. b && true) told.quiet)) idle));
    measured = λ still. measured_still s es (e ∷ []) (r.measured (ap (λ (p : Past). p.end) (sym past) ∙ still));
    knows = λ still. subst (λ (k : Option Unfolding). IsKnown (s.walker (measures (es ++ e ∷ []))) (resolved (es ++ e ∷ [])) k) (sym known)
        (known_after es e old.known told.measures told.teaches (r.knows (ap (λ (p : Past). p.end) (sym past) ∙ still)));
    collects = collects_after es e r.collects told.collects;
    undelivered = undelivered_after es e r.undelivered told.delivers;
    looks = looks_moved (es ++ e ∷ []) old new (ap known_in known) (ap (λ (p : Past). p.looked_up) past)
        (still_looked_up (known_in old.known) es (e ∷ []) old.looked_up (ap (λ b. b && true) told.answers) r.looks);
    rows = found_moved (es ++ e ∷ []) old new (ap known_in known) (ap (λ (p : Past). p.rows) past) (ap (λ (p : Past). p.looked_up) past)
        (rows_still (known_in old.known) es old.rows old.looked_up r.rows (e ∷ []) (ap (λ b. b && true) told.answers));
    notes = ap (λ (p : Past). p.notes) past ∙ ap (λ (ns : List Note). ns ++ note ∷ []) r.notes ∙ sym (notes_more es e (Some note) told.notes);
    lost = λ key. none_lost es e key (aside_loses_nothing e told.aside key) ∙ r.lost key ∙ ap (λ (lost : List (List ℕ)). is_lost_in lost key) (ap (λ (p : Past). p.lost) (sym past));
    tried = subst (λ (p : Past). AreTriedOnce p) (sym past) (tried_still (leaves_same (record { jobs = refl; rows = refl; lost = refl })) r.tried);
  }

  -- the record refused to keep a row
  pub put_failed_reflects : (es : List Event) (old new : Course) (place : JobPlace) (refusal : RecordRefusal) → past_of new ≡ with_note (put_note place refusal) (past_of old) →
      new.known ≡ old.known → Reflects s es old None → Reflects s (es ++ put_failed place refusal ∷ []) new None
  put_failed_reflects es old new place refusal past known r =
      noted_reflects es old new None (put_failed place refusal) (put_note place refusal)
      (record { aside = refl; quiet = refl; teaches = refl; measures = refl; collects = refl; delivers = refl; started = λ last at. refl; answers = refl; notes = refl })
      past known r r.keeps

  -- a job's files could not be archived
  pub store_failed_reflects : (es : List Event) (old new : Course) (place : JobPlace) → past_of new ≡ with_note (store_note place HostFault.Store) (past_of old) →
      new.known ≡ old.known → Reflects s es old None → Reflects s (es ++ store_failed place ∷ []) new None
  store_failed_reflects es old new place past known r =
      noted_reflects es old new None (store_failed place) (store_note place HostFault.Store)
      (record { aside = refl; quiet = refl; teaches = refl; measures = refl; collects = refl; delivers = refl; started = λ last at. refl; answers = refl; notes = refl })
      past known r r.keeps

  -- a call for a job failed once the end was settled
  pub host_failed_late_reflects : (es : List Event) (old new : Course) (at_work : Option ℕ) (place : JobPlace) (fault : HostFault) → IsSome old.end →
      past_of new ≡ with_note (late_note place fault) (past_of old) → new.known ≡ old.known → Reflects s es old at_work → Reflects s (es ++ host_failed_late place fault ∷ []) new None
  host_failed_late_reflects es old new at_work place fault over past known r =
      noted_reflects es old new at_work (host_failed_late place fault) (late_note place fault)
      (record { aside = refl; quiet = refl; teaches = refl; measures = refl; collects = refl; delivers = refl; started = λ last at. refl; answers = refl; notes = refl })
      past known r (over_keeps s es (known_in old.known) (past_of old) at_work over r.keeps)

  -- or to note that an archive is gone
  pub drop_failed_reflects : (es : List Event) (old new : Course) (place : JobPlace) (refusal : RecordRefusal) → past_of new ≡ with_note (drop_note place refusal) (past_of old) →
      new.known ≡ old.known → Reflects s es old None → Reflects s (es ++ drop_failed place refusal ∷ []) new None
  drop_failed_reflects es old new place refusal past known r =
      noted_reflects es old new None (drop_failed place refusal) (drop_note place refusal)
      (record { aside = refl; quiet = refl; teaches = refl; measures = refl; collects = refl; delivers = refl; started = λ last at. refl; answers = refl; notes = refl })
      past known r r.keeps

  -- or that one was used
  pub touch_failed_reflects : (es : List Event) (old new : Course) (place : JobPlace) (refusal : RecordRefusal) → past_of new ≡ with_note (touch_note place refusal) (past_of old) →
      new.known ≡ old.known → Reflects s es old None → Reflects s (es ++ touch_failed place refusal ∷ []) new None
  touch_failed_reflects es old new place refusal past known r =
      noted_reflects es old new None (touch_failed place refusal) (touch_note place refusal)
      (record { aside = refl; quiet = refl; teaches = refl; measures = refl; collects = refl; delivers = refl; started = λ last at. refl; answers = refl; notes = refl })
      past known r r.keeps

  -- an archive could not be discarded
  pub discard_failed_reflects : (es : List Event) (old new : Course) (place : JobPlace) → past_of new ≡ with_note (discard_note place HostFault.Discard) (past_of old) →
      new.known ≡ old.known → Reflects s es old None → Reflects s (es ++ discard_failed place ∷ []) new None
  discard_failed_reflects es old new place past known r =
      noted_reflects es old new None (discard_failed place) (discard_note place HostFault.Discard)
      (record { aside = refl; quiet = refl; teaches = refl; measures = refl; collects = refl; delivers = refl; started = λ last at. refl; answers = refl; notes = refl })
      past known r r.keeps

  -- the files of a job's row were fetched
  pub loaded_reflects : (es : List Event) (old new : Course) (n : ℕ) (job : Job) (row : Row) → IsJob (known_in old.known) n job → waits_in old.jobs n ≡ true → row_in old.rows n ≡ Some row →
      past_of new ≡ with_load n (past_of old) → new.known ≡ old.known → Reflects s es old None → Reflects s (es ++ files_fetched job.place (old.folders + 1) ∷ []) new None
  loaded_reflects es old new n job row it free found past known r =
      let e : Event = files_fetched job.place (old.folders + 1) in
      reflects_on es e old new (with_load n (past_of old)) None None refl past known
      (record {
        looked_up = refl;
        rows = refl;
        notes = refl;
        lost = λ key. none_lost es e key refl ∙ r.lost key;
        tried = load_tried (past_of old) n row found r.tried;
      })
      (λ still. still) r
      (loaded_keeps s es (known_in old.known) (past_of old) n job it free r.keeps)

  -- what was fetched is not what the row has
  pub missed_reflects : (es : List Event) (old new : Course) (n : ℕ) (job : Job) (row : Row) → IsJob (known_in old.known) n job → row_in old.rows n ≡ Some row →
      past_of new ≡ with_loss n (past_of old) → new.known ≡ old.known → Reflects s es old None → Reflects s (es ++ archive_differs job.place row.key (old.folders + 1) ∷ []) new None
  missed_reflects es old new n job row it found past known r =
      let e : Event = archive_differs job.place row.key (old.folders + 1) in
      let its_key : key_in old.rows n ≡ row.key = ap (λ (o : Option Row). option_map_or (λ (r : Row). r.key) o []) found in
      reflects_on es e old new (with_loss n (past_of old)) None None refl past known
      (record {
        looked_up = refl;
        rows = refl;
        notes = refl;
        lost = λ key. one_lost es job.place row.key (old.folders + 1) old.lost.items key (r.lost key)
            ∙ ap (λ (k : List ℕ). is_lost_in (old.lost.items ++ k ∷ []) key) (sym its_key);
        tried = loss_tried (past_of old) n row found r.tried;
      })
      (λ still. still) r
      (missed_keeps s es (known_in old.known) (past_of old) n job.place row.key it.within r.keeps)

  -- a job failed for now: it waits again, or was started often enough
  pub gave_up_reflects : (es : List Event) (old new : Course) (n : ℕ) (job : Job) (past : Past) → IsJob (known_in old.known) n job →
      GivesUp (known_in old.known) n s.options.retries (past_of old) past → past_of new ≡ past → new.known ≡ old.known →
      Reflects s es old (Some n) → Reflects s (es ++ job_failed_for_now job.place ∷ []) new None
  gave_up_reflects es old new n job past it (again state is below) same known r =
      reflects_on es (job_failed_for_now job.place) old new (with_giving_up n (past_of old)) (Some n) None refl same known
      (keeps_all es (job_failed_for_now job.place) old (with_giving_up n (past_of old)) (Some n) (λ key. refl) refl refl refl refl
      (giving_up_leaves (past_of old) n (slice_get_within old.jobs n state is)) r) (λ still. still) r
      (gave_up_keeps s es (known_in old.known) (past_of old) n job state it is below r.keeps)
  gave_up_reflects es old new n job past it (too_often state is often) same known r =
      let place : place_at (known_in old.known) n ≡ job.place = place_there (known_in old.known) n job it in
      reflects_on es (job_failed_for_now job.place) old new (with_end (Ok (Outcome.TemporaryFail job.place)) (past_of old)) (Some n) None refl
      (same ∙ ap (λ (p : JobPlace). with_end (Ok (Outcome.TemporaryFail p)) (past_of old)) place) known
      (keeps_jobs es (job_failed_for_now job.place) old (with_end (Ok (Outcome.TemporaryFail job.place)) (past_of old)) (Some n) (λ key. refl) refl refl refl refl refl r)
      (λ still. absurd (never_none old.end (Ok (Outcome.TemporaryFail job.place)) still)) r
      (too_often_keeps s es (known_in old.known) (past_of old) n job state it is often r.keeps)

  -- outputs that are told already
  pub repeated_reflects : (es : List Event) (old new : Course) (n : ℕ) (job : Job) → IsJob (known_in old.known) n job → past_of new ≡ with_hand n (past_of old) →
      new.known ≡ old.known → Reflects s es old (Some n) → Reflects s (es ++ job_repeated job.place ∷ []) new None
  repeated_reflects es old new n job it past known r =
      let e : Event = job_repeated job.place in
      let within : n < length old.jobs = taken_within old.jobs n (r.keeps.books.worked_on n refl) in
      reflects_on es e old new (with_hand n (past_of old)) (Some n) None refl past known
      (keeps_all es e old (with_hand n (past_of old)) (Some n) (λ key. refl) refl refl refl refl (hand_leaves (past_of old) n within) r) (λ still. still) r
      (learned_keeps s es (known_in old.known) (past_of old) (with_hand n (past_of old)) (hand_keeps_the_rest (past_of old) n within) (Some n) e r.keeps
      (λ place. started_after es (e ∷ []) place) (keeps_bringing (past_of old) n within (known_in old.known) (readings es) r.keeps.gave_up job it r.keeps.books)
      (known_in old.known) (front_itself (known_in old.known)) r.keeps.books.apart (front_later s es (known_in old.known) e refl r.keeps.front) (settled_quietly s es (e ∷ []) refl))

  -- a plan was made
  pub planned_reflects : (es : List Event) (old new : Course) (at_work : Option ℕ) (after : ℕ) (made : Planned) → past_of new ≡ with_plan after made (past_of old) → new.known ≡ old.known →
      Reflects s es old at_work → Reflects s es new at_work
  planned_reflects es old new at_work after made past known r = record {
    keeps = moved es (known_in old.known) (with_plan after made (past_of old)) at_work new (ap known_in known) past
        (planned_keeps s es (known_in old.known) (past_of old) at_work after made r.keeps);
    measured = λ still. r.measured (ap (λ (p : Past). p.end) (sym past) ∙ still);
    knows = λ still. subst (λ (k : Option Unfolding). IsKnown (s.walker (measures es)) (resolved es) k) (sym known) (r.knows (ap (λ (p : Past). p.end) (sym past) ∙ still));
    collects = r.collects;
    undelivered = r.undelivered;
    looks = looks_moved es old new (ap known_in known) (ap (λ (p : Past). p.looked_up) past) r.looks;
    rows = found_moved es old new (ap known_in known) (ap (λ (p : Past). p.rows) past) (ap (λ (p : Past). p.looked_up) past) r.rows;
    notes = ap (λ (p : Past). p.notes) past ∙ r.notes;
    lost = λ key. r.lost key ∙ ap (λ (p : Past). is_lost_in p.lost key) (sym past);
    tried = subst (λ (p : Past). AreTriedOnce p) (sym past) (record { each = λ n tried. (record { row = (r.tried.each n tried).row; found = (r.tried.each n tried).found; gone = (r.tried.each n tried).gone }); there = r.tried.there });
  }

  -- Jobs

  pub known_there : (es : List Event) (course : Course) (at_work : Option ℕ) (n : ℕ) (job : Job) → IsJob (known_in course.known) n job → Reflects s es course at_work →
      job_at s es job.place ≡ Some job
  known_there es course at_work n job it r =
      found_still job.place job (known_in course.known) (unfolding_at s es).jobs r.keeps.front (found_at (known_in course.known) r.keeps.books.apart n job it)

  pub folder_there : (es : List Event) (course : Course) (at_work : Option ℕ) (n : ℕ) (job : Job) → IsJob (known_in course.known) n job → Reflects s es course at_work →
      number_at es job.place ≡ (state_at course.jobs n).folder
  folder_there es course at_work n job it r = r.keeps.books.number n job it

  -- one that is worked on was staged last, and not fetched
  pub staged_there : (es : List Event) (course : Course) (n : ℕ) (job : Job) → IsJob (known_in course.known) n job → Reflects s es course (Some n) →
      (number_at es job.place ≡ (state_at course.jobs n).folder) × (is_fetched es job.place ≡ false)
  staged_there es course n job it r = (folder_there es course (Some n) n job it r, by (state_at course.jobs n).fetched refl)
    where
      away : is_there course.jobs n ≡ false
      away =
          sym (r.keeps.books.hand n job it) ∙ (or_parts (is_flying (in_flight es) job.place) (is_at_hand es job.place) (r.keeps.books.worked n job it refl)).1

      by : (fetched : Bool) → (state_at course.jobs n).fetched ≡ fetched → is_fetched es job.place ≡ false
      by true is = let never : true ≡ false = sym (r.tried.there n is) ∙ away in absurd cc
      by false is = r.keeps.books.fetches n job it ∙ is

  -- the job of a child in flight
  pub record FliesThere (es : List Event) (course : Course) (ticket : ℕ) : Type 0 where
    pub number : ℕ
    pub job : Job
    pub it : IsJob (known_in course.known) number job
    pub there : Contains (in_flight es) (ticket, job.place)

  pub flies_there : (es : List Event) (course : Course) (at_work : Option ℕ) (ticket : ℕ) → Contains course.tickets.items ticket → Reflects s es course at_work →
      FliesThere es course ticket
  flies_there es course at_work ticket there r =
      let at : FliesAt (known_in course.known) (in_flight es) (numbers_of course.flights.items) there.0 ticket =
      flight_of (known_in course.known) (readings es) (course_of (past_of course) at_work r.keeps.gave_up) r.keeps.books there.0 ticket there.1 there.2 in
      record { number = at.number; job = at.job; it = at.it; there = (there.0, at.within, at.flight) }
