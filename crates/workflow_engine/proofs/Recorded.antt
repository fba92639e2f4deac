-- What is reported of the record, and of the host by a plan, came of their answers.
use Rattle.std.specs.Prelude.{Contains, IfErr}
use Rattle.std.specs.List.{cons_option, filter_map, list_all}
use Rattle.std.proofs.Common.{◌≡◌, ◌∙◌, ◌++◌, ℕ, zero, suc, Bool, true, List, [], ◌∷◌, map, Option, Some, None, Result, Ok, Err, refl, sym, ap, subst, arith, true≢false}
use Rattle.std.proofs.lemmas.Bool.{and_parts}
use Rattle.command_line.proofs.Answered.{Contains-map}
use Rattle.document_links.specs.declared.process.Process.{Process}
use Rattle.job_graph.specs.Words.{Fields}
use Rattle.job_rows.specs.Map.{RowMap}
use Rattle.job_rows.specs.declared.refusal.RecordRefusal.{RecordRefusal}
use Rattle.proc_host.specs.declared.call.Entry.{Entry}
use Rattle.proc_host.specs.declared.call.HostAnswer.{HostAnswer}
use Rattle.proc_host.specs.declared.call.HostFault.{HostFault}
use Rattle.run_rules.specs.Blame.{Rise, IsToBlame, logged_answers}
use Rattle.run_rules.specs.End.{End, beyond_limits, ended_by_host, ended_by_record, fails_permanently, fails_temporarily, mismatches, succeeds_with}
use Rattle.run_rules.specs.Events.{Event, Progress}
use Rattle.run_rules.specs.OfAnswers.{EndIsOf, FindRefused, HostFailed, KindIsOf, WasStarted, was_refused, was_unsound}
use Rattle.run_rules.specs.Plans.{PlansSoFar}
use Rattle.run_rules.specs.PlannedFirst.{are_looks, is_look}
use Rattle.run_rules.specs.Recorded.{Line, lines_of}
use Rattle.run_rules.specs.Reports.{Concludes, lost, whole, GainsRun, entries_of, entry_of, notes_of, outcome_of, report_of}
use Rattle.run_rules.specs.Run.{IsRun, IsRunSoFar}
use Rattle.run_rules.specs.Scene.{Scene, scene_of}
use Rattle.run_rules.specs.declared.outcome.Note.{Note}
use Rattle.run_rules.specs.declared.outcome.NoteKind.{NoteKind}
use Rattle.run_rules.specs.declared.outcome.Report.{Report}
use Rattle.run_rules.specs.declared.outcome.RunFault.{RunFault}
use Rattle.run_rules.specs.declared.request.Pair.{Pair}
use Rattle.run_rules.specs.declared.setting.Options.{Options}
use Rattle.run_rules.specs.declared.setting.Setting.{Setting}
use Rattle.run_rules.proofs.Answered.{all_of, end_of_answer, note_of_answer}
use Rattle.workflow_engine.specs.Blame.{BlamesRecord, IsHostsPlanFault, IsToldOfFind, refused, unsound, KindHasLine, PlanBlamesRecord, PlanFaultHasLine, ReportHasLines}
use Rattle.workflow_engine.specs.FirstPlan.{HasNoPlan, PlansByMap, ended, fault_told, ran_out}
use Rattle.workflow_engine.specs.declared.planned.PlanFault.{PlanFault}
use Rattle.workflow_engine.specs.declared.planned.Planned.{Planned}
use Rattle.workflow_engine.proofs.Blamed.{hosts_fault}
use Rattle.workflow_engine.proofs.Numbered.{none_numbered}

past : {Y : Type 0} (o : Option Y) (ys : List Y) (y : Y) → Contains ys y → Contains (cons_option o ys) y
past None ys y there = there
past (Some one) ys y (j, low, same) = (suc j, omega (arith, low), same)

-- what a map gives of an element is in the list
pub in_filter_map : {X Y : Type 0} (h : X → Option Y) (xs : List X) (x : X) (y : Y) → Contains xs x → h x ≡ Some y → Contains (filter_map h xs) y
in_filter_map h [] x y (k, within, is) gives = absurd (omega (arith, within))
in_filter_map {Y = Y} h (first ∷ xs) x y (zero, within, is) gives =
    subst (λ (o : Option Y). Contains (cons_option o (filter_map h xs)) y) (sym (ap h is ∙ gives)) (zero, omega arith, refl)
in_filter_map h (first ∷ xs) x y (suc k, within, is) gives = past (h first) (filter_map h xs) y (in_filter_map h xs x y (k, omega (arith, within), is) gives)

in_map : {X Y : Type 0} (f : X → Y) (xs : List X) (x : X) → Contains xs x → Contains (map f xs) (f x)
in_map f xs x (k, within, is) = Contains-map f xs k x within (sym is)

all_are : {X : Type 0} (p : X → Bool) (xs : List X) → list_all p xs ≡ true → (x : X) → Contains xs x → p x ≡ true
all_are p [] all x (k, within, is) = absurd (omega (arith, within))
all_are p (first ∷ xs) all x (zero, within, is) = ap p (sym is) ∙ (and_parts (p first) (list_all p xs) all).0
all_are p (first ∷ xs) all x (suc k, within, is) = all_are p xs (and_parts (p first) (list_all p xs) all).1 x (k, omega (arith, within), is)

rise_of_none : (tickets : List ℕ) → ((ticket : ℕ) → Contains tickets ticket → ⊥) → Rise tickets
rise_of_none [] none = (none_numbered 0).rising
rise_of_none (ticket ∷ tickets) none = absurd (none ticket (zero, omega arith, refl))

module _ (t : List Pair) where
  find_has_line : (s : Scene) (es : List Event) (refusal : RecordRefusal) → FindRefused s t es refusal → IsToldOfFind (lines_of t) refusal
  find_has_line s es refusal (was_refused place key there) = refused (record { key = key; there = in_filter_map _ t _ _ there refl })
  find_has_line s es refusal (was_unsound place key row job first later is there es_is known not_sound) = unsound key is (in_filter_map _ t _ _ there refl)

  kind_has_line : (note : Note) (kind : NoteKind) → KindIsOf t note.place kind → KindHasLine (lines_of t) kind
  kind_has_line note (NoteKind.Put refusal) its = record { key = its.row.key; there = in_filter_map _ t _ _ its.there refl }
  kind_has_line note (NoteKind.Drop refusal) its = record { key = its.key; there = in_filter_map _ t _ _ its.there refl }
  kind_has_line note (NoteKind.Touch refusal) its = record { key = its.key; there = in_filter_map _ t _ _ its.there refl }
  kind_has_line note (NoteKind.Discard fault) its = tt
  kind_has_line note (NoteKind.Store fault) its = tt
  kind_has_line note (NoteKind.Late fault) its = tt

  module _ (setting : Setting) where
    note_has_line : (f : Progress) (plans : PlansSoFar) → IsRunSoFar setting t f plans → (note : Note) → Contains (notes_of f.events) note → KindHasLine (lines_of t) note.kind
    note_has_line f plans goes note there = kind_has_line note note.kind (note_of_answer (scene_of setting) _ goes note there)

    came : (end : End) (run : IsRun setting t end) → EndIsOf (scene_of setting) t run.happened.events end
    came end run = end_of_answer (scene_of setting) t run.happened run.plans.marks end run.ended (all_of (scene_of setting) _ run.goes)

    end_has_line : (end : End) (run : IsRun setting t end) → ReportHasLines (lines_of t) (report_of run.plans.notes run.happened.events end)
    end_has_line (ended_by_record refusal) run = find_has_line (scene_of setting) run.happened.events refusal (came (ended_by_record refusal) run)
    end_has_line (ended_by_host fault running) run = tt
    end_has_line (mismatches place) run = tt
    end_has_line beyond_limits run = tt
    end_has_line (succeeds_with outputs delivered) run = note_has_line run.happened run.plans run.goes
    end_has_line (fails_permanently place cause) run = note_has_line run.happened run.plans run.goes
    end_has_line (fails_temporarily place) run = note_has_line run.happened run.plans run.goes

    concluded_has_lines : (result : Result Report RunFault) → Concludes setting t result → ReportHasLines (lines_of t) result
    concluded_has_lines _ (lost front waits f plans goes waited is) = tt
    concluded_has_lines _ (whole end run right) = end_has_line end run

    -- ---- plans

    started_answer : (ticket : ℕ) → WasStarted t ticket → Contains (logged_answers (entries_of t)) (HostAnswer.Started ticket)
    started_answer ticket was = in_map (λ (entry : Entry). entry.answer) (entries_of t) _ (in_filter_map entry_of t _ _ was.there refl)

    none_started : are_looks t ≡ true → (ticket : ℕ) → WasStarted t ticket → ⊥
    none_started looks ticket was = true≢false (sym (all_are (λ (pair : Pair). is_look pair.request) t looks _ was.there))

    to_blame : are_looks t ≡ true → (fault : HostFault) (running : List ℕ) → HostFailed t fault running → IsToBlame (entries_of t) fault running
    to_blame looks fault running failed = record {
      failed = in_map (λ (entry : Entry). entry.answer) (entries_of t) _ (in_filter_map entry_of t _ _ failed.there refl);
      started = record {
        each = λ ticket there. started_answer ticket (failed.started ticket there);
        rising = λ rises. rise_of_none running (λ ticket there. none_started looks ticket (failed.started ticket there));
      };
    }

    host_of_end : are_looks t ≡ true → (before after : List Entry) → after ≡ before ++ entries_of t → (end : End) → IsRun setting t end →
        (fault : PlanFault) → fault_told (outcome_of end) ≡ Some fault → IsHostsPlanFault before after fault
    host_of_end looks before after logged (ended_by_host host running) run fault told =
        let same : PlanFault.Run (RunFault.Host host running) ≡ fault = cc in
        subst (IsHostsPlanFault before after) same
        (hosts_fault before after (entries_of t) (Err (RunFault.Host host running)) logged (to_blame looks host running (came (ended_by_host host running) run)))
    host_of_end looks before after logged (ended_by_record refusal) run fault told =
        let same : PlanFault.Run (RunFault.Record refusal) ≡ fault = cc in subst (IsHostsPlanFault before after) same tt
    host_of_end looks before after logged (mismatches place) run fault told =
        let same : PlanFault.Run (RunFault.Mismatch place) ≡ fault = cc in subst (IsHostsPlanFault before after) same tt
    host_of_end looks before after logged beyond_limits run fault told =
        let same : PlanFault.Run RunFault.TooManyJobs ≡ fault = cc in subst (IsHostsPlanFault before after) same tt
    host_of_end looks before after logged (fails_permanently place cause) run fault told =
        let same : PlanFault.Failed place cause ≡ fault = cc in subst (IsHostsPlanFault before after) same tt
    host_of_end looks before after logged (succeeds_with outputs delivered) run fault told = absurd cc
    host_of_end looks before after logged (fails_temporarily place) run fault told = absurd cc

    line_of_end : (end : End) → IsRun setting t end → (fault : PlanFault) → fault_told (outcome_of end) ≡ Some fault → PlanFaultHasLine (lines_of t) fault
    line_of_end (ended_by_record refusal) run fault told =
        let same : PlanFault.Run (RunFault.Record refusal) ≡ fault = cc in
        subst (PlanFaultHasLine (lines_of t)) same (find_has_line (scene_of setting) run.happened.events refusal (came (ended_by_record refusal) run))
    line_of_end (ended_by_host host running) run fault told =
        let same : PlanFault.Run (RunFault.Host host running) ≡ fault = cc in subst (PlanFaultHasLine (lines_of t)) same tt
    line_of_end (mismatches place) run fault told =
        let same : PlanFault.Run (RunFault.Mismatch place) ≡ fault = cc in subst (PlanFaultHasLine (lines_of t)) same tt
    line_of_end beyond_limits run fault told =
        let same : PlanFault.Run RunFault.TooManyJobs ≡ fault = cc in subst (PlanFaultHasLine (lines_of t)) same tt
    line_of_end (fails_permanently place cause) run fault told =
        let same : PlanFault.Failed place cause ≡ fault = cc in subst (PlanFaultHasLine (lines_of t)) same tt
    line_of_end (succeeds_with outputs delivered) run fault told = absurd cc
    line_of_end (fails_temporarily place) run fault told = absurd cc

    pub host_of_plan : are_looks t ≡ true → (before after : List Entry) → after ≡ before ++ entries_of t → (fault : PlanFault) → HasNoPlan setting t fault →
        IsHostsPlanFault before after fault
    host_of_plan looks before after logged fault (ended end run told) = host_of_end looks before after logged end run fault told
    host_of_plan looks before after logged fault (ran_out f plans goes is) = subst (IsHostsPlanFault before after) (sym is) tt

    pub line_of_plan : (fault : PlanFault) → HasNoPlan setting t fault → PlanFaultHasLine (lines_of t) fault
    line_of_plan fault (ended end run told) = line_of_end end run fault told
    line_of_plan fault (ran_out f plans goes is) = subst (PlanFaultHasLine (lines_of t)) (sym is) tt

-- what a run reports of the record
pub blames_record : (process : Process) (inputs : Fields) (options : Options) (gained : List Entry) (before after lines : List Line) (result : Result Report RunFault) →
    after ≡ before ++ lines → GainsRun process inputs options gained lines result → BlamesRecord before after result
blames_record process inputs options gained before after lines result logged run = record {
  gained = lines;
  logged = logged;
  told = subst (λ (ls : List Line). ReportHasLines ls result) run.commands (concluded_has_lines run.transcript _ result run.concluded);
}

-- and what a plan does of both
pub plan_blames_host : {before after : List Entry} {lines_before lines_after : List Line} {sound_before sound_after : Type 0} {held holds : RowMap → Type 0} {process : Process} {inputs : Fields} {options : Options}
    (result : Result Planned PlanFault) → PlansByMap before after lines_before lines_after sound_before sound_after held holds process inputs options result → IfErr result (IsHostsPlanFault before after)
plan_blames_host (Ok made) plans = tt
plan_blames_host (Err fault) plans = host_of_plan plans.transcript _ plans.looks _ _ plans.logged fault plans.told

pub plan_blames_record : {before after : List Entry} {lines_before lines_after : List Line} {sound_before sound_after : Type 0} {held holds : RowMap → Type 0} {process : Process} {inputs : Fields} {options : Options}
    (result : Result Planned PlanFault) → PlansByMap before after lines_before lines_after sound_before sound_after held holds process inputs options result → IfErr result (PlanBlamesRecord lines_before lines_after)
plan_blames_record (Ok made) plans = tt
plan_blames_record (Err fault) plans = record { gained = lines_of plans.transcript; logged = plans.recorded; told = line_of_plan plans.transcript _ fault plans.told }
