-- What has happened in a run, its transcript tells, of each job.
use Rattle.std.specs.Prelude.{Contains}
use Rattle.std.proofs.Common.{◌≡◌, ◌∙◌, ◌⊎◌, inl, inr, ℕ, zero, suc, ◌==◌, Bool, true, false, not, List, [], ◌∷◌, ◌++◌, filter, fold, Some, None, refl, sym, ap, subst, arith, Option}
use Rattle.std.proofs.lemmas.List.{append_assoc}
use Rattle.std.proofs.lemmas.List.Elements.{Contains-append_left, Contains-append_cases, Contains-push, Contains-push_cases, All-contains, All-filter, All-contains_itself}
use Rattle.std.proofs.lemmas.List.Sums.{fold-append}
use Rattle.command_line.specs.declared.launch.Launch.{Launch}
use Rattle.proc_host.specs.Answers.{fault_of}
use Rattle.proc_host.specs.declared.call.HostAnswer.{HostAnswer}
use Rattle.proc_host.specs.declared.call.HostRequest.{HostRequest}
use Rattle.proc_host.specs.declared.child.ChildEnd.{ChildEnd}
use Rattle.proc_host.specs.declared.child.ExitClass.{ExitClass}
use Rattle.proc_host.specs.ExitClass.{class_of}
use Rattle.run_rules.specs.declared.outcome.Cause.{Cause}
use Rattle.job_rows.specs.declared.refusal.RecordRefusal.TheVariants.{NotARecord}
use Rattle.run_rules.specs.declared.request.Request.{Request}
use Rattle.run_rules.specs.declared.request.Pair.{Pair}
use Rattle.cwl_process.specs.declared.tool.ExitCodes.{ExitCodes}
use Rattle.staging.specs.declared.found.Found.{Found}
use Rattle.collected_outputs.specs.Contents.{Heads}
use Rattle.job_graph.specs.Jobs.{Job}
use Rattle.job_graph.specs.Words.{Name, Fields, JobPlace}
use Rattle.run_rules.specs.Scene.{Scene}
use Rattle.run_rules.specs.Events.{Event, file_measured, job_staged, job_started, child_exited, job_succeeded, job_failed, job_failed_for_now, result_delivered, host_failed, collect_failed, row_found, no_row, find_failed, put_failed, job_repeated, Work, nothing_due, input_heads_due, start_due, scan_due, output_heads_due, Progress, Started, flight_after, in_flight, job_at, put_due, store_failed, store_due, files_fetched, archive_differs, drop_failed, touch_failed, discard_failed, drop_due, touch_due, discard_due, host_failed_late}
use Rattle.run_rules.specs.StartsOn.{StartsOn, reads_on as starts_reading, has_launch, has_no_launch, has_no_contents}
use Rattle.run_rules.specs.CollectsOn.{CollectsOn, reads_on as collects_reading, collects, collects_none}
use Rattle.run_rules.specs.Steps.{Steps, measures_file, stages, reads_input, starts, exits_well, exits_for_now, exits_badly, scans, reads_output, delivers, loses_collect, call_fails, call, progress_with, finds_none, finds, finds_wrong, find_fails, puts, put_fails, stores, store_fails, fetches, fetches_other, drops, drop_fails, touches, touch_fails, discards, discard_fails, call_fails_late, work_to_discard}
use Rattle.plan_checker.specs.declared.plan.Mark.{Mark}
use Rattle.run_rules.specs.Allowed.{Allowed, due_in}
use Rattle.run_rules.specs.Plans.{PlansSoFar}
use Rattle.run_rules.specs.Run.{Goes, begins, asks}
use Rattle.run_rules.specs.RanWell.{RanWell, HadRow}
use Rattle.run_rules.specs.Keeps.{Keeps, keeps, keeps_none, differs, told_of, work_to_keep}
use Rattle.job_rows.specs.declared.row.Row.{Row}
use Rattle.run_rules.proofs.Discarding.{by_discards}

pub none_in : {X : Type 0} (x : X) → Contains [] x → ⊥
none_in x (k, within, is) = omega arith

pub only_in : {X : Type 0} (x y : X) → Contains (x ∷ []) y → x ≡ y
only_in x y (zero, within, is) = is
only_in x y (suc k, within, is) = absurd (omega arith)

abbrev pub Flight : Type 0
Flight = ℕ × JobPlace

-- a child was started for the job at a place, under a ticket
pub record WasStarted (t : List Pair) (flight : Flight) : Type 0 where
  pub launch : Launch
  pub there : Contains t (call flight.1 (HostRequest.Start launch) (HostAnswer.Started flight.0))

pub was_there : (p : Flight → Bool) (flying : List Flight) (x : Flight) → Contains (filter p flying) x → Contains flying x
was_there p flying x there = All-contains (Contains flying) (filter p flying) x (All-filter p (Contains flying) flying (All-contains_itself flying)) there

either_in : {X : Type 0} (x z y : X) → Contains (x ∷ z ∷ []) y → (x ≡ y) ⊎ (z ≡ y)
either_in x z y (zero, within, is) = inl is
either_in x z y (suc k, within, is) = inr (only_in z y (k, omega arith, is))

not_first : {X : Type 0} (x y : X) (xs : List X) → Contains (x ∷ xs) y → (x ≡ y → ⊥) → Contains xs y
not_first x y xs (zero, within, is) other = absurd (other is)
not_first x y xs (suc k, within, is) other = (k, omega (arith, within), is)

-- neither a success nor a row that was found
abbrev is_other : Event → Bool
is_other (job_succeeded place outputs) = false
is_other (row_found place row) = false
is_other _ = true

other_than_success : (e : Event) (place : JobPlace) (outputs : Fields) → is_other e ≡ true → e ≡ job_succeeded place outputs → ⊥
other_than_success e place outputs other is = let never : true ≡ false = sym other ∙ ap is_other is in cc

other_than_row : (e : Event) (place : JobPlace) (row : Row) → is_other e ≡ true → e ≡ row_found place row → ⊥
other_than_row e place row other is = let never : true ≡ false = sym other ∙ ap is_other is in cc

-- What is told, where the jobs at a place have these exit codes

module _ (codes : JobPlace → ExitCodes) where
  -- a job whose folder is listed or read next ran well
  abbrev pub WorkTold : List Pair → Work → Type 0
  WorkTold t (scan_due place millis) = RanWell t place (codes place)
  WorkTold t (output_heads_due place millis found todo read) = RanWell t place (codes place)
  WorkTold t _ = Unit {0}

  -- and the children in flight were started, each job that succeeded ran well, and the record had each row that was found
  pub record Knows (t : List Pair) (f : Progress) : Type 0 where
    pub flights : (x : Flight) → Contains (in_flight f.events) x → WasStarted t x
    pub work : WorkTold t f.work
    pub success : (place : JobPlace) (outputs : Fields) → Contains f.events (job_succeeded place outputs) → RanWell t place (codes place)
    pub rows : (place : JobPlace) (row : Row) → Contains f.events (row_found place row) → HadRow t place

  -- what a step may bring about, where this was told
  record IsTold (t : List Pair) (flying : List Flight) (work : Work) (new : List Event) : Type 0 where
    pub flights : (x : Flight) → Contains (fold flight_after flying new) x → Contains flying x ⊎ WasStarted t x
    pub next : WorkTold t work
    pub success : (place : JobPlace) (outputs : Fields) → Contains new (job_succeeded place outputs) → RanWell t place (codes place)
    pub rows : (place : JobPlace) (row : Row) → Contains new (row_found place row) → HadRow t place

  later : (t : List Pair) (f : Progress) (work : Work) (new : List Event) → Knows t f → IsTold t (in_flight f.events) work new → Knows t (progress_with f work new)
  later t f work new knows told = record {
    flights = λ x there. elim (told.flights x (subst (λ (xs : List Flight). Contains xs x) (fold-append flight_after [] f.events new) there)) [
      | inl before ↦ knows.flights x before
      | inr now ↦ now
    ];
    work = told.next;
    success = λ place outputs there. elim (Contains-append_cases f.events new (job_succeeded place outputs) there) [
      | inl before ↦ knows.success place outputs before
      | inr now ↦ told.success place outputs now
    ];
    rows = λ place row there. elim (Contains-append_cases f.events new (row_found place row) there) [
      | inl before ↦ knows.rows place row before
      | inr now ↦ told.rows place row now
    ];
  }

  -- Still told with one pair more

  module _ (t : List Pair) (p : Pair) where
    still : (q : Pair) → Contains t q → Contains (t ++ p ∷ []) q
    still q there = Contains-append_left t (p ∷ []) q there

    ran_still : (place : JobPlace) → RanWell t place (codes place) → RanWell (t ++ p ∷ []) place (codes place)
    ran_still place ran = record { launch = ran.launch; ending = ran.ending; started = still _ ran.started; ended = still _ ran.ended; well = ran.well }

    work_still : (work : Work) → WorkTold t work → WorkTold (t ++ p ∷ []) work
    work_still nothing_due told = tt
    work_still (input_heads_due place staged todo read) told = tt
    work_still (start_due place inputs launch) told = tt
    work_still (scan_due place millis) told = ran_still place told
    work_still (output_heads_due place millis found todo read) told = ran_still place told
    work_still (put_due place row) told = tt
    work_still (drop_due place its_key) told = tt
    work_still (touch_due place its_key) told = tt
    work_still (discard_due place its_key more) told = tt
    work_still (store_due place row) told = tt

    knows_still : (f : Progress) → Knows t f → Knows (t ++ p ∷ []) f
    knows_still f knows = record {
      flights = λ x there. let was : WasStarted t x = knows.flights x there in record { launch = was.launch; there = still _ was.there };
      work = work_still f.work knows.work;
      success = λ place outputs there. ran_still place (knows.success place outputs there);
      rows = λ place row there. let had : HadRow t place = knows.rows place row there in record { key = had.key; row = had.row; found = still _ had.found };
    }

  -- Each kind of step

  -- what is due is a scan of this job's, so it ran well
  scanned : (t : List Pair) (s : Scene) (es : List Event) (work : Work) (place : JobPlace) (folder : Name) → WorkTold t work →
      due_in s es work ≡ Some (Request.Host place (HostRequest.Scan folder)) → RanWell t place (codes place)
  scanned t s es nothing_due place folder told is = absurd cc
  scanned t s es (input_heads_due at staged [] read) place folder told is = absurd cc
  scanned t s es (input_heads_due at staged (path ∷ todo) read) place folder told is = absurd cc
  scanned t s es (start_due at inputs launch) place folder told is = absurd cc
  scanned t s es (scan_due at millis) place folder told is = let same : at ≡ place = cc in subst (λ (p : JobPlace). RanWell t p (codes p)) same told
  scanned t s es (output_heads_due at millis found [] read) place folder told is = absurd cc
  scanned t s es (output_heads_due at millis found (name ∷ todo) read) place folder told is = absurd cc
  scanned t s es (put_due at row) place folder told is = absurd cc
  scanned t s es (drop_due at its_key) place folder told is = absurd cc
  scanned t s es (touch_due at its_key) place folder told is = absurd cc
  scanned t s es (discard_due at its_key more) place folder told is = absurd cc
  scanned t s es (store_due at row) place folder told is = absurd cc

  module _ (t : List Pair) (s : Scene) (f : Progress) (its_codes : (place : JobPlace) (job : Job) → job_at s f.events place ≡ Some job → job.tool.exit_codes ≡ codes place)
      (marks : List Mark) (knows : Knows t f) where
    abbrev flying : List Flight
    flying = in_flight f.events

    quiet_after : (e : Event) (work : Work) → WorkTold t work → fold flight_after flying (e ∷ []) ≡ flying → is_other e ≡ true → IsTold t flying work (e ∷ [])
    quiet_after e work told stays other = record {
      flights = λ x there. inl (subst (λ (xs : List Flight). Contains xs x) stays there);
      next = told;
      success = λ place outputs there. absurd (other_than_success e place outputs other (only_in e _ there));
      rows = λ place row there. absurd (other_than_row e place row other (only_in e _ there));
    }

    quiet_one : (e : Event) → fold flight_after flying (e ∷ []) ≡ flying → is_other e ≡ true → IsTold t flying nothing_due (e ∷ [])
    quiet_one e stays other = quiet_after e nothing_due tt stays other

    no_event : (work : Work) → WorkTold t work → IsTold t flying work []
    no_event work told = record {
      flights = λ x there. inl there;
      next = told;
      success = λ place outputs there. absurd (none_in _ there);
      rows = λ place row there. absurd (none_in _ there);
    }

    -- a child of this job's ended well
    ran : (place : JobPlace) (e : ChildEnd) (job : Job) → Contains flying (e.ticket, place) → job_at s f.events place ≡ Some job →
        class_of job.tool.exit_codes e.code ≡ ExitClass.Success →
        Contains t (call [] HostRequest.Collect (HostAnswer.Ended e)) → RanWell t place (codes place)
    ran place e job there known well ended =
        let was : WasStarted t (e.ticket, place) = knows.flights (e.ticket, place) there in
        record {
          launch = was.launch;
          ending = e;
          started = was.there;
          ended = ended;
          well = subst (λ (c : ExitCodes). class_of c e.code ≡ ExitClass.Success) (its_codes place job known) well;
        }

    landed : (ticket : ℕ) (x : Flight) → Contains (filter (λ (y : Flight). not (y.0 == ticket)) flying) x → Contains flying x
    landed ticket x there = was_there (λ (y : Flight). not (y.0 == ticket)) flying x there

    exits : (ticket : ℕ) (e : Event) → fold flight_after flying (child_exited ticket ∷ e ∷ []) ≡ filter (λ (y : Flight). not (y.0 == ticket)) flying →
        is_other e ≡ true → IsTold t flying nothing_due (child_exited ticket ∷ e ∷ [])
    exits ticket e stays other = record {
      flights = λ x there. inl (landed ticket x (subst (λ (xs : List Flight). Contains xs x) stays there));
      next = tt;
      success = λ place outputs there. elim (either_in (child_exited ticket) e _ there) [
        | inl first ↦ absurd cc
        | inr second ↦ absurd (other_than_success e place outputs other second)
      ];
      rows = λ place row there. elim (either_in (child_exited ticket) e _ there) [
        | inl first ↦ absurd cc
        | inr second ↦ absurd (other_than_row e place row other second)
      ];
    }

    -- before the job is started, or collected, there is no success
    staged : (place : JobPlace) (number : ℕ) (work : Work) (more : List Event) → IsTold t flying work more → IsTold t flying work (job_staged place number ∷ more)
    staged place number work more told = record {
      flights = told.flights;
      next = told.next;
      success = λ at outputs there. told.success at outputs (not_first (job_staged place number) (job_succeeded at outputs) more there (λ is. cc));
      rows = λ at row there. told.rows at row (not_first (job_staged place number) (row_found at row) more there (λ is. cc));
    }

    starts_told : {place : JobPlace} {job : Job} {number : ℕ} {its_inputs : Fields} {read : Heads} {todo : List Name} {work : Work} {more : List Event} →
        StartsOn s.options place job number its_inputs read todo work more → IsTold t flying work more
    starts_told (starts_reading path rest) = no_event _ tt
    starts_told (has_launch inputs launch with_them is) = no_event _ tt
    starts_told (has_no_launch inputs fault with_them is) = quiet_one _ refl refl
    starts_told (has_no_contents fault is) = quiet_one _ refl refl

    -- outputs that were collected are those of a job that ran well
    one_success : (place : JobPlace) (outputs : Fields) (work : Work) → WorkTold t work → RanWell t place (codes place) →
        IsTold t flying work (job_succeeded place outputs ∷ [])
    one_success place outputs work told its = record {
      flights = λ x there. inl there;
      next = told;
      success = λ at others there. let same : job_succeeded place outputs ≡ job_succeeded at others = only_in _ _ there in
          let here : place ≡ at = cc in subst (λ (p : JobPlace). RanWell t p (codes p)) here its;
      rows = λ at row there. let never : job_succeeded place outputs ≡ row_found at row = only_in _ _ there in absurd cc;
    }

    one_told : (place : JobPlace) (outputs : Fields) (row : Option Row) (work : Work) → WorkTold t work → RanWell t place (codes place) →
        IsTold t flying work (told_of place outputs row ∷ [])
    one_told place outputs None work told its = one_success place outputs work told its
    one_told place outputs (Some row) work told its = quiet_after (job_repeated place) work told refl refl

    -- neither an archive nor a row needs that it ran well
    kept_told : (keep : Bool) (place : JobPlace) (row : Row) → WorkTold t (work_to_keep keep place row)
    kept_told true place row = tt
    kept_told false place row = tt

    discards_told : (place : JobPlace) (keys : List (List ℕ)) → WorkTold t (work_to_discard place keys)
    discards_told place keys = by_discards (WorkTold t) place keys tt (λ key more. tt)

    keeps_told : {keep : Bool} {place : JobPlace} {job : Job} {row : Option Row} {millis : ℕ} {found : List Found} {outputs : Fields} {work : Work} {more : List Event} →
        RanWell t place (codes place) → Keeps keep place job row millis found outputs work more → IsTold t flying work more
    keeps_told its (keeps_none once) = one_success _ _ nothing_due tt its
    keeps_told {keep = keep} {row = row} its (keeps reusable agrees) = one_told _ _ row _ (kept_told keep _ _) its
    keeps_told its (differs other reusable found differ) = quiet_one _ refl refl

    collects_told : {keep : Bool} {place : JobPlace} {job : Job} {row : Option Row} {started : Started} {millis : ℕ} {found : List Found} {read : Heads} {todo : List Name} {work : Work} {more : List Event} →
        RanWell t place (codes place) → CollectsOn keep place job row started millis found read todo work more → IsTold t flying work more
    collects_told its (collects_reading name rest) = no_event _ its
    collects_told its (collects outputs work more is kept) = keeps_told its kept
    collects_told its (collects_none fault is) = quiet_one _ refl refl

    step_told : {p : Pair} {work : Work} {new : List Event} → Contains t p → Allowed s f marks p.request → Steps s f p work new → IsTold t flying work new
    step_told now may (measures_file path measure) = quiet_one (file_measured path measure) refl refl
    step_told now may (stages place plan number job work more known on) = staged place number work more (starts_told on)
    step_told now may (reads_input place path limit bytes its_inputs todo read job work more is known on) = starts_told on
    step_told now may (starts place inputs launch ticket is) = record {
      flights = λ x there. elim (Contains-push_cases flying (ticket, place) x there) [
        | inl before ↦ inl before
        | inr same ↦ inr (subst (WasStarted t) same (record { launch = launch; there = now }))
      ];
      next = tt;
      success = λ at outputs there. let never : job_started place inputs launch ticket ≡ job_succeeded at outputs = only_in _ _ there in absurd cc;
      rows = λ at row there. let never : job_started place inputs launch ticket ≡ row_found at row = only_in _ _ there in absurd cc;
    }
    step_told now may (exits_well place e job there known well) = record {
      flights = λ x in_air. inl (landed e.ticket x in_air);
      next = ran place e job there known well now;
      success = λ at outputs in_new. let never : child_exited e.ticket ≡ job_succeeded at outputs = only_in _ _ in_new in absurd cc;
      rows = λ at row in_new. let never : child_exited e.ticket ≡ row_found at row = only_in _ _ in_new in absurd cc;
    }
    step_told now may (exits_for_now place e job there known class) = exits e.ticket (job_failed_for_now place) refl refl
    step_told now may (exits_badly place e job there known class) = exits e.ticket (job_failed place (Cause.Exit e.code)) refl refl
    step_told now may (scans place folder millis found job started wanted work more is known was wants on) =
        collects_told (scanned t s f.events f.work place folder knows.work may) on
    step_told now may (reads_output place path limit bytes millis found name todo read job started work more is known was on) =
        collects_told (subst (WorkTold t) is knows.work) on
    step_told now may (fetches place its_key number files found row its same) = quiet_after (files_fetched place number) (touch_due place row.key) tt refl refl
    step_told now may (fetches_other place its_key number files found row its other) = quiet_after (archive_differs place row.key number) (drop_due place row.key) tt refl refl
    step_told now may (touches place its_key) = no_event nothing_due tt
    step_told now may (touch_fails place its_key refusal) = quiet_one (touch_failed place refusal) refl refl
    step_told now may (drops place its_key) = no_event (discard_due place its_key []) tt
    step_told now may (drop_fails place its_key refusal) = quiet_after (drop_failed place refusal) (discard_due place its_key []) tt refl refl
    step_told now may (discards place its_key more due) = no_event (work_to_discard place more) (discards_told place more)
    step_told now may (discard_fails place its_key more due) = quiet_after (discard_failed place) (work_to_discard place more) (discards_told place more) refl refl
    step_told now may (delivers place plan) = quiet_one (result_delivered plan) refl refl
    step_told now may loses_collect = quiet_one collect_failed refl refl
    step_told now may (call_fails place request other unsettled) = quiet_one (host_failed place (fault_of request)) refl refl
    step_told now may (call_fails_late place request end other over) = quiet_one (host_failed_late place (fault_of request)) refl refl
    step_told now may (finds_none place its_key) = quiet_one (no_row place) refl refl
    step_told now may (finds place its_key row job known sound) = record {
      flights = λ x there. inl there;
      next = tt;
      success = λ at outputs there. let never : row_found place row ≡ job_succeeded at outputs = only_in _ _ there in absurd cc;
      rows = λ at other there. let same : row_found place row ≡ row_found at other = only_in _ _ there in
          let here : place ≡ at = cc in subst (HadRow t) here (record { key = its_key; row = row; found = now });
    }
    step_told now may (finds_wrong place its_key row job known unsound) = quiet_one (find_failed place NotARecord) refl refl
    step_told now may (find_fails place its_key refusal) = quiet_one (find_failed place refusal) refl refl
    step_told now may (puts place row gone) = no_event (work_to_discard place gone) (discards_told place gone)
    step_told now may (put_fails place row refusal) = quiet_one (put_failed place refusal) refl refl
    step_told now may (stores place key folder files row due) = no_event _ tt
    step_told now may (store_fails place key folder files row due) = record {
      flights = λ x there. inl there;
      next = tt;
      success = λ at outputs there. let never : store_failed place ≡ job_succeeded at outputs = only_in _ _ there in absurd cc;
      rows = λ at other there. let never : store_failed place ≡ row_found at other = only_in _ _ there in absurd cc;
    }

  -- of a run whose events are the first of these, where the jobs that are known after any first events have these codes
  module _ (s : Scene) (all : List Event) (its_codes : (es rest : List Event) → es ++ rest ≡ all → (place : JobPlace) (job : Job) →
      job_at s es place ≡ Some job → job.tool.exit_codes ≡ codes place) (Plans : Progress → List Mark → Type 0) where
    pub knows : {t : List Pair} {f : Progress} {plans : PlansSoFar} → Goes s Plans t f plans → (rest : List Event) → f.events ++ rest ≡ all → Knows t f
    knows (begins plans its) rest is = record {
      flights = λ x there. absurd (none_in x there);
      work = tt;
      success = λ place outputs there. absurd (none_in _ there);
      rows = λ place row there. absurd (none_in _ there);
    }
    knows (asks t f old p work new plans goes allowed steps its) rest is =
        let front : f.events ++ (new ++ rest) ≡ all = sym (append_assoc f.events new rest) ∙ is in
        let before : Knows (t ++ p ∷ []) f = knows_still t p f (knows goes (new ++ rest) front) in
        later (t ++ p ∷ []) f work new before
        (step_told (t ++ p ∷ []) s f (λ place job known. its_codes f.events (new ++ rest) front place job known) old.marks before (Contains-push t p) allowed steps)
