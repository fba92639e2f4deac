-- All that is asked under a key is asked under that of its job: what the record gives has the key that was asked for.
use Rattle.std.specs.Prelude.{Contains}
use Rattle.std.proofs.Common.{◌≡◌, ◌∙◌, ◌⊎◌, inl, inr, ℕ, Bool, true, false, cond, List, [], ◌∷◌, ◌++◌, Option, Some, None, refl, sym, ap, subst}
use Rattle.std.proofs.lemmas.List.Elements.{Contains-append_left, Contains-push, Contains-push_cases}
use Rattle.collected_outputs.specs.Contents.{Heads}
use Rattle.job_graph.specs.Jobs.{Job}
use Rattle.job_graph.specs.Words.{Fields, JobPlace, Name, is_same_place}
use Rattle.job_key.specs.Key.{Key, key}
use Rattle.job_reuse.specs.Rows.{made_row}
use Rattle.job_rows.specs.declared.row.Row.{Row}
use Rattle.cwl_value.specs.declared.value.TheConstants.{MOST_CONTENTS}
use Rattle.collected_outputs.specs.HeadsWanted.{limit_of}
use Rattle.plan_checker.specs.declared.plan.Mark.{Mark}
use Rattle.proc_host.specs.declared.call.HostRequest.{HostRequest}
use Rattle.staging.specs.Groups.{path_in}
use Rattle.staging.specs.declared.found.Found.{Found}
use Rattle.run_rules.specs.Allowed.{Allowed, due, due_in}
use Rattle.run_rules.specs.Answers.{AreAnswers, CanTell, MayAnswer, by_host, by_record, is_found}
use Rattle.run_rules.specs.CollectsOn.{CollectsOn, reads_on as collects_reading, collects, collects_none}
use Rattle.run_rules.specs.Events.{Event, Progress, Started, Work, drop_due, touch_due, discard_due, folder_at, input_heads_due, job_at, job_staged, nothing_due, output_heads_due, put_due, row_at, row_found, row_if, scan_due, start_due, store_due, is_reusable}
use Rattle.run_rules.specs.Keeps.{Keeps, differs, keeps, keeps_none, work_to_keep}
use Rattle.run_rules.specs.Plans.{PlansSoFar}
use Rattle.run_rules.specs.Recorded.{key_of}
use Rattle.run_rules.specs.Run.{Goes, asks, begins}
use Rattle.run_rules.specs.Scene.{Scene}
use Rattle.run_rules.specs.StartsOn.{StartsOn, reads_on as starts_reading, has_launch, has_no_launch, has_no_contents}
use Rattle.run_rules.specs.Steps.{Steps, command, measures_file, stages, reads_input, starts, exits_well, exits_for_now, exits_badly, scans, reads_output, delivers, loses_collect, call_fails, finds_none, finds, finds_wrong, find_fails, puts, put_fails, stores, store_fails, fetches, fetches_other, drops, drop_fails, touches, touch_fails, discards, discard_fails, call_fails_late, work_to_discard}
use Rattle.run_rules.proofs.Discarding.{by_discards}
use Rattle.run_rules.specs.UnderKey.{IsKeyOf, IsUnderKey}
use Rattle.run_rules.specs.declared.request.Answer.{Answer}
use Rattle.run_rules.specs.declared.request.Pair.{Pair}
use Rattle.run_rules.specs.declared.request.RecordAnswer.{RecordAnswer}
use Rattle.run_rules.specs.declared.request.RecordRequest.{RecordRequest}
use Rattle.run_rules.specs.declared.request.Request.{Request}
use Rattle.run_rules.proofs.FetchedOnce.{IsAside, TellsOf, aside, quiet_rows, row_after, tells_none, tells_row}
use Rattle.run_rules.proofs.Measuring.{Fits, step_fits}
use Rattle.run_rules.proofs.Places.{same_place}
use Rattle.run_rules.proofs.Staying.{stays_known}
use Rattle.run_rules.proofs.TranscriptTells.{none_in}

-- what the record gives has the key that was asked for
told_key : (its_key : Key) (row : Row) → CanTell (RecordRequest.Find its_key) (RecordAnswer.Found (Some row)) → row.key ≡ its_key
told_key its_key row (is_found asked given its) = its

given_key : (flying : List ℕ) (place : JobPlace) (its_key : Key) (row : Row) →
    MayAnswer flying (Request.Record place (RecordRequest.Find its_key)) (Answer.Record (RecordAnswer.Found (Some row))) → row.key ≡ its_key
given_key flying place its_key row (by_record at request answer can) = told_key its_key row can

module _ (s : Scene) where
  -- a key stays that of its job
  stays_key : (es new : List Event) (place : JobPlace) (its_key : Key) → Fits s es new → IsKeyOf s es place its_key → IsKeyOf s (es ++ new) place its_key
  stays_key es new place its_key fits is = record { job = is.job; known = stays_known s es new place is.job fits is.known; keyed = is.keyed }

  stays_under : (es new : List Event) (request : Request) → Fits s es new → IsUnderKey s es request → IsUnderKey s (es ++ new) request
  stays_under es new (Request.Record place command) fits is = stays_key es new place (key_of command) fits is
  stays_under es new (Request.Host place (HostRequest.Fetch its_key number files)) fits is = stays_key es new place its_key fits is
  stays_under es new (Request.Host place (HostRequest.Store its_key folder files)) fits is = stays_key es new place its_key fits is
  stays_under es new _ fits is = tt

  -- the work that is due is under the key of its job
  abbrev IsWorkUnderKey : List Event → Work → Type 0
  IsWorkUnderKey es (put_due place row) = IsKeyOf s es place row.key
  IsWorkUnderKey es (store_due place row) = IsKeyOf s es place row.key
  IsWorkUnderKey es (touch_due place its_key) = IsKeyOf s es place its_key
  IsWorkUnderKey es (drop_due place its_key) = IsKeyOf s es place its_key
  IsWorkUnderKey es _ = Unit {0}

  due_under : (es : List Event) (work : Work) (request : Request) → IsWorkUnderKey es work → due_in s es work ≡ Some request → IsUnderKey s es request
  due_under es nothing_due request its is = absurd cc
  due_under es (input_heads_due place staged [] read) request its is = absurd cc
  due_under es (input_heads_due place staged (path ∷ todo) read) request its is =
      let same : Request.Host place (HostRequest.Head path MOST_CONTENTS) ≡ request = cc in subst (IsUnderKey s es) same tt
  due_under es (start_due place inputs launch) request its is =
      let same : Request.Host place (HostRequest.Start launch) ≡ request = cc in subst (IsUnderKey s es) same tt
  due_under es (scan_due place millis) request its is =
      let same : Request.Host place (HostRequest.Scan (folder_at s es place)) ≡ request = cc in subst (IsUnderKey s es) same tt
  due_under es (output_heads_due place millis found [] read) request its is = absurd cc
  due_under es (output_heads_due place millis found (name ∷ todo) read) request its is =
      let same : Request.Host place (HostRequest.Head (path_in (folder_at s es place) name) (limit_of name)) ≡ request = cc in subst (IsUnderKey s es) same tt
  due_under es (put_due place row) request its is =
      let same : Request.Record place (RecordRequest.Put row) ≡ request = cc in subst (IsUnderKey s es) same its
  due_under es (touch_due place its_key) request its is =
      let same : Request.Record place (RecordRequest.Touch its_key) ≡ request = cc in subst (IsUnderKey s es) same its
  due_under es (discard_due place its_key more) request its is =
      let same : Request.Host place (HostRequest.Discard its_key) ≡ request = cc in subst (IsUnderKey s es) same tt
  due_under es (drop_due place its_key) request its is =
      let same : Request.Record place (RecordRequest.DropArchive its_key) ≡ request = cc in subst (IsUnderKey s es) same its
  due_under es (store_due place row) request its is =
      let same : Request.Host place (HostRequest.Store row.key (folder_at s es place) row.files) ≡ request = cc in subst (IsUnderKey s es) same its

  -- what has come of a run: each row that was found has the key of its job, and so has the work that is due
  record AreKeyed (es : List Event) (work : Work) : Type 0 where
    rows : (place : JobPlace) (row : Row) → row_at es place ≡ Some row → IsKeyOf s es place row.key
    due : IsWorkUnderKey es work

  -- so all that may be asked next is under a key of its job
  under_key : (f : Progress) (marks : List Mark) → AreKeyed f.events f.work → (request : Request) → Allowed s f marks request → IsUnderKey s f.events request
  under_key f marks are (Request.Host place (HostRequest.Fetch its_key number files)) may =
      subst (IsKeyOf s f.events place) (sym may.its_key) (are.rows place may.row may.found)
  under_key f marks are (Request.Record place (RecordRequest.Find its_key)) may = record { job = may.job; known = may.known; keyed = may.keyed }
  under_key f marks are (Request.Host place (HostRequest.Measure path)) may = tt
  under_key f marks are (Request.Host place (HostRequest.Stage plan number)) may = tt
  under_key f marks are (Request.Host place HostRequest.Collect) may = tt
  under_key f marks are (Request.Host place (HostRequest.Deliver plan)) may = tt
  under_key f marks are request may = due_under f.events f.work request are.due may

  -- a step

  starts_due : {place : JobPlace} {job : Job} {number : ℕ} {staged : Fields} {read : Heads} {todo : List Name} {work : Work} {more : List Event} (es : List Event) →
      StartsOn s.options place job number staged read todo work more → IsWorkUnderKey es work
  starts_due es (starts_reading path rest) = tt
  starts_due es (has_launch inputs launch given is) = tt
  starts_due es (has_no_launch inputs fault given is) = tt
  starts_due es (has_no_contents fault is) = tt

  kept_due : (keep : Bool) (es : List Event) (place : JobPlace) (row : Row) → IsKeyOf s es place row.key → IsWorkUnderKey es (work_to_keep keep place row)
  kept_due true es place row its = its
  kept_due false es place row its = its

  discards_due : (es : List Event) (place : JobPlace) (keys : List (List ℕ)) → IsWorkUnderKey es (work_to_discard place keys)
  discards_due es place keys = by_discards (IsWorkUnderKey es) place keys tt (λ key more. tt)

  keeps_due : {keep : Bool} {place : JobPlace} {job : Job} {found_row : Option Row} {millis : ℕ} {found : List Found} {outputs : Fields} {work : Work} {more : List Event} (es : List Event) →
      job_at s es place ≡ Some job → Keeps keep place job found_row millis found outputs work more → IsWorkUnderKey es work
  keeps_due es known (keeps_none once) = tt
  keeps_due {keep = keep} {place = place} {job = job} {millis = millis} {found = found} {outputs = outputs} es known (keeps reusable agrees) =
      kept_due keep es place (made_row (key job.tool job.inputs) outputs found millis false) (record { job = job; known = known; keyed = refl })
  keeps_due es known (differs row reusable found other) = tt

  collects_due : {keep : Bool} {place : JobPlace} {job : Job} {found_row : Option Row} {started : Started} {millis : ℕ} {found : List Found} {read : Heads} {todo : List Name} {work : Work} {more : List Event}
      (es : List Event) → job_at s es place ≡ Some job → CollectsOn keep place job found_row started millis found read todo work more → IsWorkUnderKey es work
  collects_due es known (collects_reading name rest) = tt
  collects_due es known (collects outputs work more is kept) = keeps_due es known kept
  collects_due es known (collects_none fault is) = tt

  module _ (f : Progress) (marks : List Mark) (are : AreKeyed f.events f.work) where
    due_still : {p : Pair} {work : Work} {new : List Event} → Allowed s f marks p.request → Steps s f p work new → IsWorkUnderKey (f.events ++ new) work
    due_still may (measures_file path measure) = tt
    due_still may (stages place plan number job work more known on) = starts_due (f.events ++ job_staged place number ∷ more) on
    due_still {new = new} may (reads_input place path limit bytes staged todo read job work more is known on) = starts_due (f.events ++ new) on
    due_still may (starts place inputs launch ticket is) = tt
    due_still may (exits_well place e job there known class) = tt
    due_still may (exits_for_now place e job there known class) = tt
    due_still may (exits_badly place e job there known class) = tt
    due_still {new = new} may (scans place folder millis found job started wanted work more is known was wants on) =
        collects_due (f.events ++ new)
        (stays_known s f.events new place job (step_fits s f marks may (scans place folder millis found job started wanted work more is known was wants on)) known) on
    due_still {new = new} may (reads_output place path limit bytes millis found name todo read job started work more is known was on) =
        collects_due (f.events ++ new)
        (stays_known s f.events new place job (step_fits s f marks may (reads_output place path limit bytes millis found name todo read job started work more is known was on)) known) on
    due_still may (finds_none place its_key) = tt
    due_still may (finds place its_key row job known sound) = tt
    due_still may (finds_wrong place its_key row job known unsound) = tt
    due_still may (find_fails place its_key refusal) = tt
    due_still {new = new} may (puts place row gone) = discards_due (f.events ++ new) place gone
    due_still may (put_fails place row refusal) = tt
    due_still {new = new} may (fetches place its_key number files found row its same) =
        stays_key f.events new place row.key (step_fits s f marks may (fetches place its_key number files found row its same)) (are.rows place row its)
    due_still {new = new} may (fetches_other place its_key number files found row its other) =
        stays_key f.events new place row.key (step_fits s f marks may (fetches_other place its_key number files found row its other)) (are.rows place row its)
    due_still may (drops place its_key) = tt
    due_still may (drop_fails place its_key refusal) = tt
    due_still may (touches place its_key) = tt
    due_still may (touch_fails place its_key refusal) = tt
    due_still {new = new} may (discards place its_key more is) = discards_due (f.events ++ new) place more
    due_still {new = new} may (discard_fails place its_key more is) = discards_due (f.events ++ new) place more
    due_still may (delivers place plan) = tt
    due_still may loses_collect = tt
    due_still may (call_fails place request other unsettled) = tt
    due_still may (call_fails_late place request end other was) = tt
    due_still {new = new} may (stores place its_key folder files row is) =
        stays_key f.events new place row.key (step_fits s f marks may (stores place its_key folder files row is)) (subst (IsWorkUnderKey f.events) is are.due)
    due_still {new = new} may (store_fails place its_key folder files row is) =
        stays_key f.events new place row.key (step_fits s f marks may (store_fails place its_key folder files row is)) (subst (IsWorkUnderKey f.events) is are.due)

    -- a row that is found has the key that was asked for, which is that of its job
    rows_told : {p : Pair} {new : List Event} → Allowed s f marks p.request → ((flying : List ℕ) × MayAnswer flying p.request p.answer) → TellsOf p new →
        (place : JobPlace) (row : Row) → row_at (f.events ++ new) place ≡ Some row → IsKeyOf s f.events place row.key
    rows_told may answers (tells_row at its_key found) place row is = by (is_same_place at place) refl
      where
        here : IsKeyOf s f.events at found.key
        here = record { job = may.job; known = may.known; keyed = given_key answers.0 at its_key found answers.1 ∙ may.keyed }

        now : cond (is_same_place at place) (Some found) (row_at f.events place) ≡ Some row
        now = sym (row_after f.events (row_found at found ∷ []) place) ∙ is

        by : (same : Bool) → is_same_place at place ≡ same → IsKeyOf s f.events place row.key
        by true same =
            let one : Some found ≡ Some row = sym (ap (λ b. cond b (Some found) (row_at f.events place)) same) ∙ now in
            let its : found ≡ row = cc in
            subst (λ (p : JobPlace). IsKeyOf s f.events p row.key) (same_place at place same)
            (subst (λ (r : Row). IsKeyOf s f.events at r.key) its here)
        by false same = are.rows place row (sym (ap (λ b. cond b (Some found) (row_at f.events place)) same) ∙ now)
    rows_told may answers (tells_none at its_key answer) place row is = are.rows place row (sym (row_after f.events _ place) ∙ is)

    rows_still : {p : Pair} {new : List Event} → Allowed s f marks p.request → ((flying : List ℕ) × MayAnswer flying p.request p.answer) → IsAside p new →
        (place : JobPlace) (row : Row) → row_at (f.events ++ new) place ≡ Some row → IsKeyOf s f.events place row.key
    rows_still {new = new} may answers (inl quiet) place row is =
        are.rows place row (sym (row_after f.events new place ∙ quiet_rows place (row_at f.events place) new quiet) ∙ is)
    rows_still may answers (inr tells) place row is = rows_told may answers tells place row is

    step_keyed : {p : Pair} {work : Work} {new : List Event} → Allowed s f marks p.request → ((flying : List ℕ) × MayAnswer flying p.request p.answer) → Steps s f p work new →
        AreKeyed (f.events ++ new) work
    step_keyed {new = new} may answers steps = record {
      rows = λ place row is. stays_key f.events new place row.key (step_fits s f marks may steps) (rows_still may answers (aside s f steps) place row is);
      due = due_still may steps;
    }

  first_keyed : AreKeyed [] nothing_due
  first_keyed = record { rows = λ place row is. absurd cc; due = tt }

  module _ (Plans : Progress → List Mark → Type 0) where
    keyed : {t : List Pair} {f : Progress} {plans : PlansSoFar} → Goes s Plans t f plans → AreAnswers t → AreKeyed f.events f.work
    keyed (begins plans its) answers = first_keyed
    keyed (asks t f old p work new plans goes allowed steps its) answers =
        step_keyed f old.marks (keyed goes (λ pair there. answers pair (Contains-append_left t (p ∷ []) pair there))) allowed (answers p (Contains-push t p)) steps

    pub next_under_key : {t : List Pair} {f : Progress} {plans : PlansSoFar} → Goes s Plans t f plans → AreAnswers t → (request : Request) → Allowed s f plans.marks request →
        IsUnderKey s f.events request
    next_under_key {f = f} {plans = plans} goes answers = under_key f plans.marks (keyed goes answers)

    pub asked_under_key : {t : List Pair} {f : Progress} {plans : PlansSoFar} → Goes s Plans t f plans → AreAnswers t → (pair : Pair) → Contains t pair → IsUnderKey s f.events pair.request
    asked_under_key (begins plans its) answers pair there = absurd (none_in pair there)
    asked_under_key (asks t f old p work new plans goes allowed steps its) answers pair there = elim (Contains-push_cases t p pair there) [
      | inl before ↦ stays_under f.events new pair.request (step_fits s f old.marks allowed steps)
          (asked_under_key goes (λ other at. answers other (Contains-append_left t (p ∷ []) other at)) pair before)
      | inr same ↦ stays_under f.events new pair.request (step_fits s f old.marks allowed steps)
          (subst (λ (x : Pair). IsUnderKey s f.events x.request) same
          (next_under_key goes (λ other at. answers other (Contains-append_left t (p ∷ []) other at)) p.request allowed))
    ]
