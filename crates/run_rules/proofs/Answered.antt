-- The faults that a run ends with, and those that it notes, came of answers.
use Rattle.std.specs.Prelude.{◌||◌, Contains, is_some, nat_lt, not, ◌==◌, fold, filter, length, map}
use Rattle.std.specs.List.{cons_option, list_any}
use Rattle.std.proofs.Common.{◌≡◌, ◌∙◌, ◌⊎◌, inl, inr, ℕ, zero, suc, Bool, true, false, cond, List, [], ◌∷◌, ◌++◌, append_assoc, Option, Some, None, refl, ap, subst, arith}
use Rattle.std.proofs.lemmas.List.Elements.{Contains-append_left, Contains-append_cases, Contains-push, Contains-push_cases}
use Rattle.proc_host.specs.declared.call.HostFault.{HostFault}
use Rattle.proc_host.specs.declared.call.HostRequest.{HostRequest}
use Rattle.job_graph.specs.Unfold.{Fault, fault_at, too_many_jobs, or_else}
use Rattle.command_line.specs.declared.launch.Launch.{Launch}
use Rattle.collected_outputs.specs.Contents.{Heads}
use Rattle.job_graph.specs.Jobs.{Job}
use Rattle.job_graph.specs.Words.{Fields, JobPlace, Name}
use Rattle.staging.specs.declared.found.Found.{Found}
use Rattle.job_rows.specs.declared.refusal.RecordRefusal.{RecordRefusal}
use Rattle.job_rows.specs.declared.refusal.RecordRefusal.TheVariants.{NotARecord}
use Rattle.job_rows.specs.declared.row.Row.{Row}
use Rattle.plan_checker.specs.declared.plan.Mark.{Mark}
use Rattle.run_rules.specs.CollectsOn.{CollectsOn, reads_on as collects_reading, collects, collects_none}
use Rattle.run_rules.specs.End.{End, beyond_limits, ended_by_host, ended_by_record, fails_permanently, fails_temporarily, fault_end, gives_up, is_lost_collect, mismatches, settled, settled_by, settled_from, unfold_end}
use Rattle.run_rules.specs.EndsSo.{EndsSo, lost, fails, succeeds}
use Rattle.run_rules.specs.Events.{Event, file_measured, job_staged, job_started, child_exited, job_succeeded, job_failed, job_failed_for_now, result_delivered, host_failed, collect_failed, row_found, no_row, find_failed, put_failed, row_differs, job_repeated, store_failed, files_fetched, archive_differs, drop_failed, touch_failed, discard_failed, host_failed_late, Progress, Started, Work, flight_after, in_flight, row_at, tickets, unfolding_at}
use Rattle.run_rules.specs.Keeps.{Keeps, keeps, keeps_none, differs, told_of}
use Rattle.run_rules.specs.OfAnswers.{CallFailed, PutRefused, DropRefused, TouchRefused, FindRefused, HostFailed, WasStarted, was_refused, was_unsound, EndIsOf, NoteIsOf}
use Rattle.run_rules.specs.Plans.{PlansSoFar}
use Rattle.run_rules.specs.Reports.{note_of, notes_of}
use Rattle.run_rules.specs.Run.{Goes, begins, asks}
use Rattle.run_rules.specs.Scene.{Scene}
use Rattle.run_rules.specs.StartsOn.{StartsOn, reads_on as starts_reading, has_launch, has_no_launch, has_no_contents}
use Rattle.run_rules.specs.Steps.{Steps, measures_file, stages, reads_input, starts, exits_well, exits_for_now, exits_badly, scans, reads_output, delivers, loses_collect, call_fails, finds_none, finds, finds_wrong, find_fails, puts, put_fails, stores, store_fails, fetches, fetches_other, drops, drop_fails, touches, touch_fails, discards, discard_fails, call_fails_late}
use Rattle.run_rules.specs.declared.outcome.Cause.{Cause}
use Rattle.run_rules.specs.declared.outcome.Note.{Note}
use Rattle.run_rules.specs.declared.outcome.NoteKind.{NoteKind}
use Rattle.run_rules.specs.declared.request.Pair.{Pair}
use Rattle.run_rules.proofs.TranscriptTells.{Flight, none_in, only_in, was_there}

-- ---- lists

later_in : {X : Type 0} (x y : X) (xs : List X) → Contains xs y → Contains (x ∷ xs) y
later_in x y xs (k, within, is) = (suc k, omega (arith, within), is)

-- a note is of an event among these
abbrev WasNoted : List Event → Note → Type 0
WasNoted es note = (e : Event) × (Contains es e) × (note_of e ≡ Some note)

noted_later : (e : Event) (es : List Event) (note : Note) → WasNoted es note → WasNoted (e ∷ es) note
noted_later e es note (from, there, is) = (from, later_in e from es there, is)

noted_by : (e : Event) (es : List Event) (note : Note) → (Contains (notes_of es) note → WasNoted es note) → (o : Option Note) → note_of e ≡ o → Contains (cons_option o (notes_of es)) note →
    WasNoted (e ∷ es) note
noted_by e es note rest None is there = noted_later e es note (rest there)
noted_by e es note rest (Some one) is (zero, within, same) = (e, (zero, omega arith, refl), is ∙ ap Some same)
noted_by e es note rest (Some one) is (suc k, within, same) = noted_later e es note (rest (k, omega (arith, within), same))

noted : (es : List Event) (note : Note) → Contains (notes_of es) note → WasNoted es note
noted [] note there = absurd (none_in note there)
noted (e ∷ es) note there = noted_by e es note (λ rest. noted es note rest) (note_of e) refl there

lost_here : (e : Event) → is_lost_collect e ≡ true → e ≡ collect_failed
lost_here collect_failed is = refl
lost_here _ is = absurd cc

lost_by : (e : Event) (es : List Event) → (list_any is_lost_collect es ≡ true → Contains es collect_failed) → (b : Bool) → is_lost_collect e ≡ b → b || list_any is_lost_collect es ≡ true →
    Contains (e ∷ es) collect_failed
lost_by e es rest true is any = (zero, omega arith, lost_here e is)
lost_by e es rest false is any = later_in e collect_failed es (rest any)

lost_among : (es : List Event) → list_any is_lost_collect es ≡ true → Contains es collect_failed
lost_among [] any = absurd cc
lost_among (e ∷ es) any = lost_by e es (λ later. lost_among es later) (is_lost_collect e) refl any

-- a ticket is that of a flight
of_ticket : (flying : List Flight) (ticket : ℕ) → Contains (map (λ (x : Flight). x.0) flying) ticket → (place : JobPlace) × Contains flying (ticket, place)
of_ticket [] ticket there = absurd (none_in ticket there)
of_ticket ((n, place) ∷ flying) ticket (zero, within, is) = (place, (zero, omega arith, ap (λ (m : ℕ). (m, place)) is))
of_ticket ((n, place) ∷ flying) ticket (suc k, within, is) =
    let rest = of_ticket flying ticket (k, omega (arith, within), is) in (rest.0, later_in (n, place) (ticket, rest.0) flying rest.1)

abbrev Began : List Event → Flight → Type 0
Began es x = (inputs : Fields) × (launch : Launch) × Contains es (job_started x.1 inputs launch x.0)

began_later : (e : Event) (es : List Event) (x : Flight) → Began es x → Began (e ∷ es) x
began_later e es x (inputs, launch, there) = (inputs, launch, later_in e (job_started x.1 inputs launch x.0) es there)

-- an event lets fly what flew, or what it starts
flew_or_began : (acc : List Flight) (e : Event) (es : List Event) (x : Flight) → Contains (flight_after acc e) x → Contains acc x ⊎ Began (e ∷ es) x
flew_or_began acc (job_started place inputs launch ticket) es x there = elim (Contains-push_cases acc (ticket, place) x there) [
  | inl before ↦ inl before
  | inr same ↦ inr (inputs, launch, (zero, omega arith, ap (λ (y : Flight). job_started y.1 inputs launch y.0) same))
]
flew_or_began acc (child_exited ticket) es x there = inl (was_there (λ (y : Flight). not (y.0 == ticket)) acc x there)
flew_or_began acc _ es x there = inl there

-- what flies flew before, or a start is among the events
began : (acc : List Flight) (es : List Event) (x : Flight) → Contains (fold flight_after acc es) x → Contains acc x ⊎ Began es x
began acc [] x there = inl there
began acc (e ∷ es) x there = elim (began (flight_after acc e) es x there) [
  | inl first ↦ flew_or_began acc e es x first
  | inr later ↦ inr (began_later e es x later)
]

-- what a fault among the events came of
abbrev EventIsOf : Scene → List Pair → List Event → Event → Type 0
EventIsOf s t es (find_failed place refusal) = FindRefused s t es refusal
EventIsOf s t es (put_failed place refusal) = PutRefused t place refusal
EventIsOf s t es (drop_failed place refusal) = DropRefused t place refusal
EventIsOf s t es (touch_failed place refusal) = TouchRefused t place refusal
EventIsOf s t es (discard_failed place) = CallFailed t place HostFault.Discard
EventIsOf s t es (store_failed place) = CallFailed t place HostFault.Store
EventIsOf s t es (host_failed place fault) = CallFailed t place fault
EventIsOf s t es (host_failed_late place fault) = CallFailed t place fault
EventIsOf s t es collect_failed = CallFailed t [] HostFault.Collect
EventIsOf s t es (job_started place inputs launch ticket) = WasStarted t ticket
EventIsOf s t es _ = Unit {0}

-- the fault of an end is among the events
abbrev IsAmong : List Event → End → Type 0
IsAmong es (ended_by_record refusal) = (place : JobPlace) × Contains es (find_failed place refusal)
IsAmong es (ended_by_host fault running) = ((place : JobPlace) × Contains es (host_failed place fault)) × (running ≡ [])
IsAmong es end = Unit {0}

later_among : (e : Event) (es : List Event) (end : End) → IsAmong es end → IsAmong (e ∷ es) end
later_among e es (ended_by_record refusal) among = (among.0, later_in e _ es among.1)
later_among e es (ended_by_host fault running) among = ((among.0.0, later_in e _ es among.0.1), among.1)
later_among e es _ among = tt

fault_among : (es : List Event) (fault : Option Fault) (end : End) → fault_end fault ≡ Some end → IsAmong es end
fault_among es None end is = absurd cc
fault_among es (Some (fault_at place cause)) end is = let same : fails_permanently place (Cause.Equation cause) ≡ end = cc in subst (IsAmong es) same tt
fault_among es (Some too_many_jobs) end is = let same : beyond_limits ≡ end = cc in subst (IsAmong es) same tt

either : (one two : Option End) (end : End) → or_else one two ≡ Some end → (one ≡ Some end) ⊎ (two ≡ Some end)
either None two end is = inr is
either (Some first) two end is = inl is

abbrev AreOf : Scene → List Pair → List Event → List Event → Type 0
AreOf s t es new = (e : Event) → Contains new e → EventIsOf s t es e

kind_of : (s : Scene) (t : List Pair) (es : List Event) (e : Event) (note : Note) → note_of e ≡ Some note → EventIsOf s t es e → NoteIsOf t note
kind_of s t es (put_failed place refusal) note is its = let same : record { place = place; kind = NoteKind.Put refusal } ≡ note = cc in subst (NoteIsOf t) same its
kind_of s t es (drop_failed place refusal) note is its = let same : record { place = place; kind = NoteKind.Drop refusal } ≡ note = cc in subst (NoteIsOf t) same its
kind_of s t es (touch_failed place refusal) note is its = let same : record { place = place; kind = NoteKind.Touch refusal } ≡ note = cc in subst (NoteIsOf t) same its
kind_of s t es (discard_failed place) note is its = let same : record { place = place; kind = NoteKind.Discard HostFault.Discard } ≡ note = cc in subst (NoteIsOf t) same its
kind_of s t es (store_failed place) note is its = let same : record { place = place; kind = NoteKind.Store HostFault.Store } ≡ note = cc in subst (NoteIsOf t) same its
kind_of s t es (host_failed_late place fault) note is its = let same : record { place = place; kind = NoteKind.Late fault } ≡ note = cc in subst (NoteIsOf t) same its
kind_of s t es _ note is its = absurd cc

module _ (s : Scene) where
  none_of : (t : List Pair) (es : List Event) → AreOf s t es []
  none_of t es e there = absurd (none_in e there)

  one_of : (t : List Pair) (es : List Event) (e : Event) → EventIsOf s t es e → AreOf s t es (e ∷ [])
  one_of t es e its other there = subst (EventIsOf s t es) (only_in e other there) its

  first_of : (t : List Pair) (es : List Event) (e : Event) (more : List Event) → EventIsOf s t es e → AreOf s t es more → AreOf s t es (e ∷ more)
  first_of t es e more its rest other (zero, within, is) = subst (EventIsOf s t es) is its
  first_of t es e more its rest other (suc k, within, is) = rest other (k, omega (arith, within), is)

  -- with one pair and these events more

  module _ (t : List Pair) (p : Pair) (es new : List Event) where
    abbrev longer : List Pair
    longer = t ++ p ∷ []

    still : (q : Pair) → Contains t q → Contains longer q
    still q there = Contains-append_left t (p ∷ []) q there

    find_still : (refusal : RecordRefusal) → FindRefused s t es refusal → FindRefused s longer (es ++ new) refusal
    find_still refusal (was_refused place key there) = was_refused place key (still _ there)
    find_still refusal (was_unsound place key row job first later is there es_is known unsound) =
        was_unsound place key row job first (later ++ new) is (still _ there)
        (ap (λ (all : List Event). all ++ new) es_is ∙ append_assoc first later new) known unsound

    call_still : (place : JobPlace) (fault : HostFault) → CallFailed t place fault → CallFailed longer place fault
    call_still place fault failed = record { request = failed.request; there = still _ failed.there; own = failed.own }

    of_still : (e : Event) → EventIsOf s t es e → EventIsOf s longer (es ++ new) e
    of_still (find_failed place refusal) its = find_still refusal its
    of_still (put_failed place refusal) its = record { row = its.row; there = still _ its.there }
    of_still (drop_failed place refusal) its = record { key = its.key; there = still _ its.there }
    of_still (touch_failed place refusal) its = record { key = its.key; there = still _ its.there }
    of_still (discard_failed place) its = call_still place HostFault.Discard its
    of_still (store_failed place) its = call_still place HostFault.Store its
    of_still (host_failed place fault) its = call_still place fault its
    of_still (host_failed_late place fault) its = call_still place fault its
    of_still collect_failed its = call_still [] HostFault.Collect its
    of_still (file_measured path measure) its = tt
    of_still (job_staged place number) its = tt
    of_still (job_started place inputs launch ticket) its = record { place = its.place; launch = its.launch; there = still _ its.there }
    of_still (child_exited ticket) its = tt
    of_still (job_succeeded place outputs) its = tt
    of_still (row_differs place outputs) its = tt
    of_still (job_failed place cause) its = tt
    of_still (job_failed_for_now place) its = tt
    of_still (result_delivered plan) its = tt
    of_still (row_found place row) its = tt
    of_still (no_row place) its = tt
    of_still (job_repeated place) its = tt
    of_still (files_fetched place number) its = tt
    of_still (archive_differs place key number) its = tt

  -- ---- each kind of step: what it brings about came of its pair, which is the last one

  module _ (t : List Pair) (now : List Event) where
    starts_of : {place : JobPlace} {job : Job} {number : ℕ} {its_inputs : Fields} {read : Heads} {todo : List Name} {work : Work} {more : List Event} →
        StartsOn s.options place job number its_inputs read todo work more → AreOf s t now more
    starts_of (starts_reading path rest) = none_of t now
    starts_of (has_launch inputs launch with_them is) = none_of t now
    starts_of (has_no_launch inputs fault with_them is) = one_of t now _ tt
    starts_of (has_no_contents fault is) = one_of t now _ tt

    told_is_of : (place : JobPlace) (outputs : Fields) (row : Option Row) → AreOf s t now (told_of place outputs row ∷ [])
    told_is_of place outputs None = one_of t now _ tt
    told_is_of place outputs (Some row) = one_of t now _ tt

    keeps_of : {keep : Bool} {place : JobPlace} {job : Job} {row : Option Row} {millis : ℕ} {found : List Found} {outputs : Fields} {work : Work} {more : List Event} →
        Keeps keep place job row millis found outputs work more → AreOf s t now more
    keeps_of (keeps_none once) = one_of t now _ tt
    keeps_of {row = row} (keeps reusable agrees) = told_is_of _ _ row
    keeps_of (differs other reusable found differ) = one_of t now _ tt

    collects_of : {keep : Bool} {place : JobPlace} {job : Job} {row : Option Row} {started : Started} {millis : ℕ} {found : List Found} {read : Heads} {todo : List Name} {work : Work} {more : List Event} →
        CollectsOn keep place job row started millis found read todo work more → AreOf s t now more
    collects_of (collects_reading name rest) = none_of t now
    collects_of (collects outputs work more is kept) = keeps_of kept
    collects_of (collects_none fault is) = one_of t now _ tt

  step_of : (t : List Pair) (f : Progress) (p : Pair) (work : Work) (new : List Event) → Contains t p → Steps s f p work new → AreOf s t (f.events ++ new) new
  step_of t f _ _ _ there (measures_file path measure) = one_of _ _ _ tt
  step_of t f _ _ _ there (stages place plan number job work more known on) = first_of _ _ _ _ tt (starts_of _ _ on)
  step_of t f _ _ _ there (reads_input place path limit bytes its_inputs todo read job work more is known on) = starts_of _ _ on
  step_of t f _ _ _ there (starts place inputs launch ticket is) = one_of _ _ _ (record { place = place; launch = launch; there = there })
  step_of t f _ _ _ there (exits_well place e job flies known well) = one_of _ _ _ tt
  step_of t f _ _ _ there (exits_for_now place e job flies known class) =
      first_of t _ (child_exited e.ticket) (job_failed_for_now place ∷ []) tt (one_of t _ (job_failed_for_now place) tt)
  step_of t f _ _ _ there (exits_badly place e job flies known class) =
      first_of t _ (child_exited e.ticket) (job_failed place (Cause.Exit e.code) ∷ []) tt (one_of t _ (job_failed place (Cause.Exit e.code)) tt)
  step_of t f _ _ _ there (scans place folder millis found job started wanted work more is known was wants on) = collects_of _ _ on
  step_of t f _ _ _ there (reads_output place path limit bytes millis found name todo read job started work more is known was on) = collects_of _ _ on
  step_of t f _ _ _ there (finds_none place its_key) = one_of _ _ _ tt
  step_of t f _ _ _ there (finds place its_key row job known sound) = one_of _ _ _ tt
  step_of t f _ _ _ there (finds_wrong place its_key row job known unsound) =
      one_of _ _ _ (was_unsound place its_key row job f.events (find_failed place NotARecord ∷ []) refl there refl known unsound)
  step_of t f _ _ _ there (find_fails place its_key refusal) = one_of _ _ _ (was_refused place its_key there)
  step_of t f _ _ _ there (puts place row gone) = none_of _ _
  step_of t f _ _ _ there (put_fails place row refusal) = one_of _ _ _ (record { row = row; there = there })
  step_of t f _ _ _ there (fetches place its_key number files found row its same) = one_of _ _ _ tt
  step_of t f _ _ _ there (fetches_other place its_key number files found row its other) = one_of _ _ _ tt
  step_of t f _ _ _ there (drops place its_key) = none_of _ _
  step_of t f _ _ _ there (drop_fails place its_key refusal) = one_of _ _ _ (record { key = its_key; there = there })
  step_of t f _ _ _ there (touches place its_key) = none_of _ _
  step_of t f _ _ _ there (touch_fails place its_key refusal) = one_of _ _ _ (record { key = its_key; there = there })
  step_of t f _ _ _ there (discards place its_key more due) = none_of _ _
  step_of t f _ _ _ there (discard_fails place its_key more due) = one_of _ _ _ (record { request = HostRequest.Discard its_key; there = there; own = refl })
  step_of t f _ _ _ there (delivers place plan) = one_of _ _ _ tt
  step_of t f _ _ _ there loses_collect = one_of _ _ _ (record { request = HostRequest.Collect; there = there; own = refl })
  step_of t f _ _ _ there (call_fails place request other unsettled) = one_of _ _ _ (record { request = request; there = there; own = refl })
  step_of t f _ _ _ there (call_fails_late place request end other over) = one_of _ _ _ (record { request = request; there = there; own = refl })
  step_of t f _ _ _ there (stores place key folder files row due) = none_of _ _
  step_of t f _ _ _ there (store_fails place key folder files row due) = one_of _ _ _ (record { request = HostRequest.Store key folder files; there = there; own = refl })

  module _ (Plans : Progress → List Mark → Type 0) where
    -- each fault among what happened came of an answer
    pub all_of : {t : List Pair} {f : Progress} {plans : PlansSoFar} → Goes s Plans t f plans → AreOf s t f.events f.events
    all_of (begins plans its) = none_of [] []
    all_of (asks t f old p work new plans goes allowed steps its) = λ e there. elim (Contains-append_cases f.events new e there) [
      | inl before ↦ of_still t p f.events new e (all_of goes e before)
      | inr now ↦ step_of (t ++ p ∷ []) f p work new (Contains-push t p) steps e now
    ]

    pub note_of_answer : {t : List Pair} {f : Progress} {plans : PlansSoFar} → Goes s Plans t f plans → (note : Note) → Contains (notes_of f.events) note → NoteIsOf t note
    note_of_answer {t = t} {f = f} goes note there =
        let from = noted f.events note there in
        kind_of s t f.events from.0 note from.2 (all_of goes from.0 from.1)

  -- ---- what settles the end

  by_bool : (all : List Event) (b : Bool) (one other end : End) → IsAmong all one → IsAmong all other → Some (cond b one other) ≡ Some end → IsAmong all end
  by_bool all true one other end its ours is = let same : one ≡ end = cc in subst (IsAmong all) same its
  by_bool all false one other end its ours is = let same : other ≡ end = cc in subst (IsAmong all) same ours

  by_retries : (all : List Event) (b : Bool) (one end : End) → IsAmong all one → cond b None (Some one) ≡ Some end → IsAmong all end
  by_retries all true one end its is = absurd cc
  by_retries all false one end its is = let same : one ≡ end = cc in subst (IsAmong all) same its

  by_event : (acc : List Event) (e : Event) (later : List Event) (end : End) → settled_by s acc e ≡ Some end → IsAmong (e ∷ later) end
  by_event acc (job_failed place cause) later end is = by_bool (job_failed place cause ∷ later) (is_some (row_at acc place)) (mismatches place) (fails_permanently place cause) end tt tt is
  by_event acc (row_differs place outputs) later end is = let same : mismatches place ≡ end = cc in subst (IsAmong (row_differs place outputs ∷ later)) same tt
  by_event acc (job_failed_for_now place) later end is =
      by_retries (job_failed_for_now place ∷ later) (nat_lt (length (filter (gives_up place) acc)) s.options.retries) (fails_temporarily place) end tt is
  by_event acc (host_failed place fault) later end is =
      let same : ended_by_host fault [] ≡ end = cc in subst (IsAmong (host_failed place fault ∷ later)) same ((place, (zero, omega arith, refl)), refl)
  by_event acc (find_failed place refusal) later end is =
      let same : ended_by_record refusal ≡ end = cc in subst (IsAmong (find_failed place refusal ∷ later)) same (place, (zero, omega arith, refl))
  by_event acc _ later end is = absurd cc

  from : (acc es : List Event) (end : End) → settled_from s acc es ≡ Some end → IsAmong es end
  from acc [] end is = absurd cc
  from acc (e ∷ later) end is = elim (either (settled_by s acc e) (or_else (unfold_end s (acc ++ e ∷ [])) (settled_from s (acc ++ e ∷ []) later)) end is) [
    | inl now ↦ by_event acc e later end now
    | inr after ↦ elim (either (unfold_end s (acc ++ e ∷ [])) (settled_from s (acc ++ e ∷ []) later) end after) [
      | inl fault ↦ fault_among (e ∷ later) (unfolding_at s (acc ++ e ∷ [])).fault end fault
      | inr on ↦ later_among e later end (from (acc ++ e ∷ []) later end on)
    ]
  ]

  settled_among : (es : List Event) (end : End) → settled s es ≡ Some end → IsAmong es end
  settled_among es end is = elim (either (unfold_end s []) (settled_from s [] es) end is) [
    | inl fault ↦ fault_among es (unfolding_at s []).fault end fault
    | inr after ↦ from [] es end after
  ]

  host_of : (t : List Pair) (place : JobPlace) (fault : HostFault) (running : List ℕ) → CallFailed t place fault → ((ticket : ℕ) → Contains running ticket → WasStarted t ticket) → HostFailed t fault running
  host_of t place fault running failed each = record { place = place; request = failed.request; there = failed.there; own = failed.own; started = each }

  -- the children in flight were started
  was_started : (t : List Pair) (es : List Event) → AreOf s t es es → (ticket : ℕ) → Contains (tickets es) ticket → WasStarted t ticket
  was_started t es its ticket there =
      let (place, flies) = of_ticket (in_flight es) ticket there in
      elim (began [] es (ticket, place) flies) [
        | inl before ↦ absurd (none_in _ before)
        | inr (inputs, launch, now) ↦ its (job_started place inputs launch ticket) now
      ]

  by_fault : (t : List Pair) (es : List Event) (end : End) → AreOf s t es es → IsAmong es end → EndIsOf s t es end
  by_fault t es (ended_by_record refusal) its among = its (find_failed among.0 refusal) among.1
  by_fault t es (ended_by_host fault running) its among =
      host_of t among.0.0 fault running (its (host_failed among.0.0 fault) among.0.1) (λ ticket there. absurd (none_in ticket (subst (λ (ns : List ℕ). Contains ns ticket) among.1 there)))
  by_fault t es _ its among = tt

  pub end_of_answer : (t : List Pair) (f : Progress) (marks : List Mark) (end : End) → EndsSo s f marks end → AreOf s t f.events f.events → EndIsOf s t f.events end
  end_of_answer t f marks _ (lost idle lost_one) its =
      host_of t [] HostFault.Collect (tickets f.events) (its collect_failed (lost_among f.events lost_one)) (λ ticket there. was_started t f.events its ticket there)
  end_of_answer t f marks _ (fails end idle kept landed is) its = by_fault t f.events end its (settled_among f.events end is)
  end_of_answer t f marks _ (succeeds outputs delivered busy landed there is) its = tt
