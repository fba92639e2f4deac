-- Where memory runs out for what follows from an answer, the answer still makes a longer run.
use Rattle.std.specs.Prelude.{Contains, bytes_eq, slice_get, ◌≢◌}
use Rattle.std.specs.List.{IsDistinct}
use Rattle.std.specs.Map.{keys_of}
use Rattle.std.proofs.Common.{◌≡◌, ◌∙◌, ◌⊎◌, inl, inr, ◌+◌, ℕ, List, [], ◌∷◌, ◌++◌, reverse, Option, Some, None, Result, Ok, Err, refl, sym, ap, Bool, true, false}
use Rattle.std.proofs.lemmas.Option.{slice_get-get_or}
use Rattle.command_line.specs.Launch.{IsLaunch, IsRefused}
use Rattle.command_line.specs.declared.fault.BuildFault.{BuildFault}
use Rattle.command_line.specs.declared.launch.Launch.{Launch}
use Rattle.collected_outputs.specs.Collected.{Collected, IsCollected}
use Rattle.collected_outputs.specs.Contents.{Heads}
use Rattle.collected_outputs.specs.Laws.{EveryFolderHasOutputsOrAFault}
use Rattle.collected_outputs.specs.Listing.{listing_of}
use Rattle.command_line.specs.Laws.{LaunchOrRefusal}
use Rattle.input_files.specs.Contents.{heads_wanted, with_contents}
use Rattle.cwl_value.specs.declared.value.TheConstants.{MOST_CONTENTS}
use Rattle.input_files.specs.declared.fault.ContentsFault.{ContentsFault}
use Rattle.plain_data.specs.ByName.{with_value}
use Rattle.proc_host.specs.Answers.{CanAnswer, fault_of, is_measured, is_staged, is_started, has_ended, is_listed, is_read, is_delivered, is_stored, is_discarded, has_failed, is_fetched}
use Rattle.proc_host.specs.ExitClass.{class_of}
use Rattle.proc_host.specs.declared.call.HostAnswer.{HostAnswer}
use Rattle.proc_host.specs.declared.call.HostRequest.{HostRequest}
use Rattle.proc_host.specs.declared.child.ChildEnd.{ChildEnd}
use Rattle.proc_host.specs.declared.child.ExitClass.{ExitClass}
use Rattle.staging.specs.declared.found.Found.{Found}
use Rattle.job_graph.specs.Jobs.{Job}
use Rattle.job_graph.specs.Words.{Name, Fields, JobPlace}
use Rattle.run_rules.specs.declared.outcome.Cause.{Cause}
use Rattle.run_rules.specs.declared.outcome.CollectCause.{CollectCause}
use Rattle.run_rules.specs.declared.request.Answer.{Answer}
use Rattle.run_rules.specs.declared.request.Pair.{Pair}
use Rattle.run_rules.specs.declared.request.Request.{Request}
use Rattle.run_rules.specs.declared.setting.Options.{Options}
use Rattle.run_rules.specs.Allowed.{Allowed}
use Rattle.run_rules.specs.Answers.{MayAnswer, by_host, by_record, is_found, is_refused, is_put, is_dropped, is_touched}
use Rattle.run_rules.specs.CollectsOn.{CollectsOn, reads_on as reads_more, collects, collects_none, left_of}
use Rattle.run_rules.specs.Events.{Event, Work, Started, Progress, file_measured, job_staged, job_started, child_exited, job_succeeded, job_failed, job_failed_for_now, result_delivered, host_failed, collect_failed, job_at, nothing_due, input_heads_due, number_at, scan_due, output_heads_due, start_due, row_found, no_row, find_failed, row_at, row_differs, put_due, put_failed, is_reusable, store_failed, archive_differs, discard_due, discard_failed, drop_due, drop_failed, files_fetched, host_failed_late, touch_due, touch_failed}
use Rattle.run_rules.specs.End.{End, settled}
use Rattle.run_rules.specs.Folders.{runtime_of}
use Rattle.run_rules.specs.Plans.{InForce, PlansSoFar}
use Rattle.run_rules.specs.Run.{Goes}
use Rattle.run_rules.proofs.events.Grows.{GoesSo, comes_on, goes_anyway as goes_by}
use Rattle.run_rules.proofs.events.Graphs.{are_graphs}
use Rattle.run_core.proofs.KnownGraphs.{known_make_graphs}
use Rattle.plan_checker.specs.Laws.{EachHasLeast}
use Rattle.run_rules.specs.Scene.{Scene}
use Rattle.run_rules.specs.StartsOn.{StartsOn, reads_on, has_launch, has_no_launch, has_no_contents}
use Rattle.run_rules.specs.Steps.{Steps, progress_with, measures_file, stages, reads_input, starts, exits_well, exits_for_now, exits_badly, scans, reads_output, delivers, loses_collect, call_fails, finds_none, finds, finds_wrong, find_fails, puts, put_fails, stores, store_fails, fails_apart, fetches, fetches_other, drops, drop_fails, touches, touch_fails, discards, discard_fails, call_fails_late, work_to_discard}
use Rattle.run_rules.proofs.events.Places.{IsJob}
use Rattle.job_key.specs.Key.{Key, key}
use Rattle.job_reuse.specs.Sound.{IsSound}
use Rattle.job_rows.specs.declared.refusal.RecordRefusal.TheVariants.{NotARecord}
use Rattle.job_rows.specs.declared.row.Row.{Row}
use Rattle.run_rules.specs.declared.request.RecordAnswer.{RecordAnswer}
use Rattle.run_rules.specs.declared.request.RecordRequest.{RecordRequest}
use Rattle.run_core.specs.declared.state.Course.{Course}
use Rattle.run_core.specs.declared.state.Filling.{Filling}
use Rattle.run_core.specs.declared.state.JobPhase.{JobPhase}
use Rattle.run_core.specs.declared.state.Kept.{Kept}
use Rattle.run_core.specs.declared.state.Phase.{Phase}
use Rattle.run_core.specs.declared.state.Reading.{Reading}
use Rattle.run_core.specs.declared.state.Turn.{Turn}
use Rattle.run_core.specs.inner.Anyway.{CanGoOn, job_in}
use Rattle.run_core.specs.inner.Course.{known_in}
use Rattle.run_core.specs.inner.Due.{call_for}
use Rattle.run_core.specs.inner.Follows.{AsksOf}
use Rattle.run_core.specs.inner.Keeps.{Reflects}
use Rattle.run_core.specs.inner.Standing.{HasStarted, IsAt, IsWorking, Runs, collecting, delivering, ended, measuring, staging, working, finding, putting, storing, discarding, dropping, fetching, touching}
use Rattle.run_core.proofs.events.Reflecting.{FliesThere, flies_there, known_there}
use Rattle.run_core.proofs.job_steps.Calls.{for_job, for_job_apart}
use Rattle.run_core.specs.inner.JobStates.{state_at}
use Rattle.job_reuse.specs.Laws.{OutputsAreTheSameOrNot}
use Rattle.job_reuse.specs.Rows.{AreTheSame}
use Rattle.job_reuse.specs.Rows.{made_row}
use Rattle.run_rules.specs.Keeps.{Keeps, AgreesWith, keeps as is_kept, keeps_none, differs, told_of, work_to_keep}

pub record GoesOn (s : Scene) (t : List Pair) : Type 0 where
  pub happened : Progress
  pub plans : PlansSoFar
  pub goes : Goes s (InForce s) t happened plans

-- a job's start, whatever it is
record SomeStart (options : Options) (place : JobPlace) (job : Job) (number : ℕ) (staged : Fields) (read : Heads) (todo : List Name) : Type 0 where
  work : Work
  more : List Event
  starts : StartsOn options place job number staged read todo work more

-- a job's outputs, or what is read for them, whatever they are
record SomeEnd (keep : Bool) (place : JobPlace) (job : Job) (row : Option Row) (started : Started) (millis : ℕ) (found : List Found) (read : Heads) (todo : List Name) : Type 0 where
  work : Work
  more : List Event
  ends : CollectsOn keep place job row started millis found read todo work more

module _ (options : Options) (place : JobPlace) (job : Job) (number : ℕ) (launches : LaunchOrRefusal) (ids : IsDistinct bytes_eq (keys_of job.tool.inputs)) where
  launched : (staged : Fields) (read : Heads) (own : Fields) → with_contents job.tool.inputs staged read ≡ Ok own →
      ((launch : Launch) × IsLaunch job.tool own (runtime_of options number) launch) ⊎ ((fault : BuildFault) × IsRefused job.tool own (runtime_of options number) fault) →
      SomeStart options place job number staged read []
  launched staged read own is (inl found) = record { work = start_due place own found.0; more = []; starts = has_launch own found.0 is found.1 }
  launched staged read own is (inr refused) =
      record { work = nothing_due; more = job_failed place (Cause.Build refused.0) ∷ []; starts = has_no_launch own refused.0 is refused.1 }

  filled : (staged : Fields) (read : Heads) (r : Result Fields ContentsFault) → with_contents job.tool.inputs staged read ≡ r → SomeStart options place job number staged read []
  filled staged read (Ok own) is = launched staged read own is (launches job.tool own (runtime_of options number) ids)
  filled staged read (Err fault) is = record { work = nothing_due; more = job_failed place (Cause.Collect (CollectCause.Input fault)) ∷ []; starts = has_no_contents fault is }

  a_start : (staged : Fields) (read : Heads) (todo : List Name) → SomeStart options place job number staged read todo
  a_start staged read [] = filled staged read (with_contents job.tool.inputs staged read) refl
  a_start staged read (path ∷ todo) = record { work = input_heads_due place staged (path ∷ todo) read; more = []; starts = reads_on path todo }

-- what becomes of collected outputs, whatever it is
record SomeKeeping (keep : Bool) (place : JobPlace) (job : Job) (row : Option Row) (millis : ℕ) (found : List Found) (outputs : Fields) : Type 0 where
  work : Work
  more : List Event
  keeps : Keeps keep place job row millis found outputs work more

module _ (keep : Bool) (place : JobPlace) (job : Job) (millis : ℕ) (found : List Found) (outputs : Fields) (same : OutputsAreTheSameOrNot) where
  agreed : (row : Option Row) → is_reusable job ≡ true → AgreesWith outputs row → SomeKeeping keep place job row millis found outputs
  agreed row reusable agrees = record { work = work_to_keep keep place (made_row (key job.tool job.inputs) outputs found millis false); more = told_of place outputs row ∷ []; keeps = is_kept reusable agrees }

  compared : (row : Row) → is_reusable job ≡ true → (row.outputs ≡ outputs) ⊎ (row.outputs ≢ outputs) → SomeKeeping keep place job (Some row) millis found outputs
  compared row reusable (inl alike) = agreed (Some row) reusable alike
  compared row reusable (inr other) = record { work = nothing_due; more = row_differs place outputs ∷ []; keeps = differs row reusable refl other }

  a_keeping : (row : Option Row) (reusable : Bool) → is_reusable job ≡ reusable → SomeKeeping keep place job row millis found outputs
  a_keeping row false once = record { work = nothing_due; more = job_succeeded place outputs ∷ []; keeps = keeps_none once }
  a_keeping None true reusable = agreed None reusable tt
  a_keeping (Some row) true reusable = compared row reusable (same row.outputs outputs)

module _ (keep : Bool) (place : JobPlace) (job : Job) (row : Option Row) (started : Started) (millis : ℕ) (found : List Found) (outputs : EveryFolderHasOutputsOrAFault) (same : OutputsAreTheSameOrNot) where
  gathered : (read : Heads) (c : Collected) → IsCollected (left_of started found read) job.tool.outputs c → SomeEnd keep place job row started millis found read []
  gathered read (Ok its) is =
      let some : SomeKeeping keep place job row millis found its = a_keeping keep place job millis found its same row (is_reusable job) refl in
      record { work = some.work; more = some.more; ends = collects its some.work some.more is some.keeps }
  gathered read (Err fault) is = record { work = nothing_due; more = job_failed place (Cause.Collect (CollectCause.Output fault)) ∷ []; ends = collects_none fault is }

  an_end : (read : Heads) (todo : List Name) → SomeEnd keep place job row started millis found read todo
  an_end read [] = let its = outputs (left_of started found read) job.tool.outputs in gathered read its.0 its.1
  an_end read (name ∷ todo) = record { work = output_heads_due place millis found (name ∷ todo) read; more = []; ends = reads_more name todo }

-- the file whose turn it is
pub record IsNext (todo : List Name) : Type 0 where
  pub name : Name
  pub rest : List Name
  pub is : todo ≡ name ∷ rest

pub input_next : (options : Options) (folder : ℕ) (call : HostRequest) (staged : Fields) (read : Heads) (todo : List Name) →
    call_for options folder (input_heads_due [] staged todo read) ≡ Some call → (next : IsNext todo) × (call ≡ HostRequest.Head next.name MOST_CONTENTS)
input_next options folder call staged read [] is = absurd cc
input_next options folder call staged read (name ∷ todo) is = (record { name = name; rest = todo; is = refl }, cc)

pub output_next : (options : Options) (folder : ℕ) (call : HostRequest) (millis : ℕ) (found : List Found) (read : Heads) (todo : List Name) →
    call_for options folder (output_heads_due [] millis found todo read) ≡ Some call → IsNext todo
output_next options folder call millis found read [] is = absurd cc
output_next options folder call millis found read (name ∷ todo) is = record { name = name; rest = todo; is = refl }

some_there : (jobs : List Job) (number : ℕ) (job : Job) → IsJob jobs number job → slice_get jobs number ≡ Some job
some_there jobs number job it = slice_get-get_or jobs number job it.within ∙ ap Some it.is

module _ (s : Scene) (least : EachHasLeast) (t : List Pair) (f : Progress) (plans : PlansSoFar) (course : Course) (goes : Goes s (InForce s) t f plans) where
  abbrev noted : Request → Answer → Pair
  noted request answer = record { request = request; answer = answer }

  goes_with : (p : Pair) (work : Work) (new : List Event) → Allowed s f plans.marks p.request → Steps s f p work new → GoesOn s (t ++ p ∷ [])
  goes_with p work new allowed steps =
      let so : GoesSo s (t ++ p ∷ []) (progress_with f work new) =
      goes_by s least (are_graphs s known_make_graphs) (t ++ p ∷ []) (progress_with f work new) plans (comes_on s p work new goes allowed steps) in
      record { happened = progress_with f work new; plans = so.plans; goes = so.goes }

  fails_anyway : (place : JobPlace) (call : HostRequest) → fails_apart call ≡ false → Allowed s f plans.marks (Request.Host place call) →
      GoesOn s (t ++ noted (Request.Host place call) (Answer.Host (HostAnswer.Failed (fault_of call))) ∷ [])
  fails_anyway place call other allowed = by_end (settled s f.events) refl
    where
      by_end : (o : Option End) → settled s f.events ≡ o → GoesOn s (t ++ noted (Request.Host place call) (Answer.Host (HostAnswer.Failed (fault_of call))) ∷ [])
      by_end None unsettled = goes_with _ nothing_due (host_failed place (fault_of call) ∷ []) allowed (call_fails place call other unsettled)
      by_end (Some end) over = goes_with _ nothing_due (host_failed_late place (fault_of call) ∷ []) allowed (call_fails_late place call end other over)

  -- The work on a job

  module _ (number : ℕ) (job : Job) (at_work : Option ℕ) (reflects : Reflects s f.events course at_work) {its_answer : Answer} (can : CanGoOn course number its_answer)
      (it : IsJob (known_in course.known) number job) where
    at_place : job_at s f.events job.place ≡ Some job
    at_place = known_there s f.events course at_work number job it reflects

    abbrev its_ids : IsDistinct bytes_eq (keys_of job.tool.inputs)
    its_ids = can.ids job (some_there (known_in course.known) number job it)

    fill_anyway : (path : Name) (limit : ℕ) (bytes : List ℕ) (filling : Filling) (next : IsNext (reverse filling.left)) →
        HostRequest.Head path limit ≡ HostRequest.Head next.name MOST_CONTENTS → f.work ≡ input_heads_due job.place filling.staged (reverse filling.left) filling.heads →
        Allowed s f plans.marks (Request.Host job.place (HostRequest.Head path limit)) →
        GoesOn s (t ++ noted (Request.Host job.place (HostRequest.Head path limit)) (Answer.Host (HostAnswer.FirstBytes bytes)) ∷ [])
    fill_anyway path limit bytes filling next same due allowed =
        let turn : path ≡ next.name = cc in
        let its : SomeStart s.options job.place job (number_at f.events job.place) filling.staged (with_value path bytes filling.heads) next.rest =
        a_start s.options job.place job (number_at f.events job.place) can.launches its_ids filling.staged (with_value path bytes filling.heads) next.rest in
        goes_with _ its.work its.more allowed
        (reads_input job.place path limit bytes filling.staged next.rest filling.heads job its.work its.more
        (due ∙ ap (λ (todo : List Name). input_heads_due job.place filling.staged todo filling.heads) (next.is ∙ ap (λ (n : Name). n ∷ next.rest) (sym turn)))
        at_place its.starts)

    scan_anyway : (folder : Name) (millis : ℕ) (found : List Found) (kept : Kept) → f.work ≡ scan_due job.place millis → HasStarted f.events job.place kept → Allowed s f plans.marks (Request.Host job.place (HostRequest.Scan folder)) →
        GoesOn s (t ++ noted (Request.Host job.place (HostRequest.Scan folder)) (Answer.Host (HostAnswer.Listed found)) ∷ [])
    scan_anyway folder millis found kept due has allowed =
        let wants = can.heads (listing_of found) has.started.inputs job.tool.outputs in
        let its : SomeEnd s.options.keep job.place job (row_at f.events job.place) has.started millis found [] wants.0 =
        an_end s.options.keep job.place job (row_at f.events job.place) has.started millis found can.outputs can.same [] wants.0 in
        goes_with _ its.work its.more allowed (scans job.place folder millis found job has.started wants.0 its.work its.more due at_place has.at wants.1 its.ends)

    read_anyway : (path : Name) (limit : ℕ) (bytes : List ℕ) (kept : Kept) (reading : Reading) → IsNext (reverse reading.left) → HasStarted f.events job.place kept →
        f.work ≡ output_heads_due job.place reading.millis reading.found (reverse reading.left) reading.heads →
        Allowed s f plans.marks (Request.Host job.place (HostRequest.Head path limit)) →
        GoesOn s (t ++ noted (Request.Host job.place (HostRequest.Head path limit)) (Answer.Host (HostAnswer.FirstBytes bytes)) ∷ [])
    read_anyway path limit bytes kept reading next has due allowed =
        let its : SomeEnd s.options.keep job.place job (row_at f.events job.place) has.started reading.millis reading.found (with_value next.name bytes reading.heads) next.rest =
        an_end s.options.keep job.place job (row_at f.events job.place) has.started reading.millis reading.found can.outputs can.same (with_value next.name bytes reading.heads) next.rest in
        goes_with _ its.work its.more allowed
        (reads_output job.place path limit bytes reading.millis reading.found next.name next.rest reading.heads job has.started its.work its.more
        (due ∙ ap (λ (todo : List Name). output_heads_due job.place reading.millis reading.found todo reading.heads) next.is) at_place has.at its.ends)

    work_anyway : (call : HostRequest) (phase : JobPhase) (answer : HostAnswer) → CanAnswer course.tickets.items call answer → IsWorking s f course number job call phase →
        AsksOf course (Request.Host job.place call) (Phase.Working number phase) → Allowed s f plans.marks (Request.Host job.place call) →
        GoesOn s (t ++ noted (Request.Host job.place call) (Answer.Host answer) ∷ [])
    work_anyway call (JobPhase.Filling filling) answer (is_read path limit bytes short) w fits allowed =
        let next = input_next s.options (state_at course.jobs number).folder (HostRequest.Head path limit) filling.staged filling.heads (reverse filling.left) w.calls.due in
        fill_anyway path limit bytes filling next.0 next.1 w.due allowed
    work_anyway call (JobPhase.Starting kept) answer (is_started launch ticket fresh) w fits allowed =
        goes_with _ nothing_due (job_started job.place kept.inputs launch ticket ∷ []) allowed (starts job.place kept.inputs launch ticket w.due)
    work_anyway call (JobPhase.Scanning kept millis) answer (is_listed folder found below) w fits allowed = scan_anyway folder millis found kept w.due w.on allowed
    work_anyway call (JobPhase.Reading kept reading) answer (is_read path limit bytes short) w fits allowed =
        read_anyway path limit bytes kept reading (output_next s.options (state_at course.jobs number).folder (HostRequest.Head path limit) reading.millis reading.found reading.heads (reverse reading.left) w.calls.due)
        w.on w.due allowed
    work_anyway call phase answer (has_failed its) w fits allowed =
        fails_anyway job.place call (for_job_apart call (for_job s.options (state_at course.jobs number).folder [] call phase w.calls.due)) allowed
    work_anyway call phase answer can_answer w fits allowed = absurd fits

  -- A child has ended

  module _ (reflects : Reflects s f.events course None) (allowed : Allowed s f plans.marks (Request.Host [] HostRequest.Collect)) where
    end_by : (ending : ChildEnd) (class : ExitClass) (there : FliesThere s f.events course ending.ticket) → class_of there.job.tool.exit_codes ending.code ≡ class →
        GoesOn s (t ++ noted (Request.Host [] HostRequest.Collect) (Answer.Host (HostAnswer.Ended ending)) ∷ [])
    end_by ending ExitClass.Success there is =
        goes_with _ (scan_due there.job.place ending.millis) (child_exited ending.ticket ∷ []) allowed
        (exits_well there.job.place ending there.job there.there (known_there s f.events course None there.number there.job there.it reflects) is)
    end_by ending ExitClass.Temporary there is =
        goes_with _ nothing_due (child_exited ending.ticket ∷ job_failed_for_now there.job.place ∷ []) allowed
        (exits_for_now there.job.place ending there.job there.there (known_there s f.events course None there.number there.job there.it reflects) is)
    end_by ending ExitClass.Permanent there is =
        goes_with _ nothing_due (child_exited ending.ticket ∷ job_failed there.job.place (Cause.Exit ending.code) ∷ []) allowed
        (exits_badly there.job.place ending there.job there.there (known_there s f.events course None there.number there.job there.it reflects) is)

    end_anyway : (ending : ChildEnd) → Contains course.tickets.items ending.ticket →
        GoesOn s (t ++ noted (Request.Host [] HostRequest.Collect) (Answer.Host (HostAnswer.Ended ending)) ∷ [])
    end_anyway ending flies =
        let there : FliesThere s f.events course ending.ticket = flies_there s f.events course None ending.ticket flies reflects in
        end_by ending (class_of there.job.tool.exit_codes ending.code) there refl

  -- a row was found, which is one of the job's tool or is none
  row_anyway : (job : Job) (its_key : Key) (row : Row) → job_at s f.events job.place ≡ Some job → IsSound job.tool row ⊎ (IsSound job.tool row → ⊥) →
      Allowed s f plans.marks (Request.Record job.place (RecordRequest.Find its_key)) →
      GoesOn s (t ++ noted (Request.Record job.place (RecordRequest.Find its_key)) (Answer.Record (RecordAnswer.Found (Some row))) ∷ [])
  row_anyway job its_key row known (inl sound) allowed =
      goes_with _ nothing_due (row_found job.place row ∷ []) allowed (finds job.place its_key row job known sound)
  row_anyway job its_key row known (inr unsound) allowed =
      goes_with _ nothing_due (find_failed job.place NotARecord ∷ []) allowed (finds_wrong job.place its_key row job known unsound)

  -- what was fetched is what the row has, or it is not
  fetch_anyway : (job : Job) (its_key : List ℕ) (number : ℕ) (files fetched : List Found) (row : Row) → row_at f.events job.place ≡ Some row →
      AreTheSame row.files fetched ⊎ (AreTheSame row.files fetched → ⊥) → Allowed s f plans.marks (Request.Host job.place (HostRequest.Fetch its_key number files)) →
      GoesOn s (t ++ noted (Request.Host job.place (HostRequest.Fetch its_key number files)) (Answer.Host (HostAnswer.Fetched fetched)) ∷ [])
  fetch_anyway job its_key number files fetched row there (inl same) allowed =
      goes_with _ (touch_due job.place row.key) (files_fetched job.place number ∷ []) allowed (fetches job.place its_key number files fetched row there same)
  fetch_anyway job its_key number files fetched row there (inr other) allowed =
      goes_with _ (drop_due job.place row.key) (archive_differs job.place row.key number ∷ []) allowed (fetches_other job.place its_key number files fetched row there other)

  pub at_goes_on : {turn : Turn} {answer : Answer} → CanGoOn course (job_in turn.phase) answer → IsAt s f plans.marks course turn → AsksOf course turn.asks turn.phase →
      MayAnswer course.tickets.items turn.asks answer → Allowed s f plans.marks turn.asks → GoesOn s (t ++ noted turn.asks answer ∷ [])
  at_goes_on can (measuring found which rest path m is f_is none past) fits (by_host place request answer (is_measured its measure)) allowed =
      goes_with _ nothing_due (file_measured path measure ∷ []) allowed (measures_file path measure)
  at_goes_on can (measuring found which rest path m is f_is none past) fits (by_host place request answer (has_failed call)) allowed =
      fails_anyway [] (HostRequest.Measure path) refl allowed
  at_goes_on can (finding number job reflects next) fits (by_record place request answer (is_found its None same)) allowed =
      goes_with _ nothing_due (no_row job.place ∷ []) allowed (finds_none job.place its)
  at_goes_on can (finding number job reflects next) fits (by_record place request answer (is_found its (Some row) same)) allowed =
      row_anyway job its row (known_there s f.events course None number job next.it reflects) (can.rows job.tool row can.row) allowed
  at_goes_on can (finding number job reflects next) fits (by_record place request answer (is_refused its refusal)) allowed =
      goes_with _ nothing_due (find_failed job.place refusal ∷ []) allowed (find_fails job.place _ refusal)
  at_goes_on can (putting number job row reflects it due) fits (by_record place request answer (is_put its gone)) allowed =
      goes_with _ (work_to_discard job.place gone) [] allowed (puts job.place row gone)
  at_goes_on can (putting number job row reflects it due) fits (by_record place request answer (is_refused its refusal)) allowed =
      goes_with _ nothing_due (put_failed job.place refusal ∷ []) allowed (put_fails job.place row refusal)
  at_goes_on can (fetching number job row reflects next) fits (by_host place request answer (is_fetched its_key folder files fetched among)) allowed =
      fetch_anyway job row.key (course.folders + 1) row.files fetched row (reflects.rows.each number job next.it ∙ next.found) (can.files row.files fetched) allowed
  at_goes_on can (fetching number job row reflects next) fits (by_host place request answer (has_failed call)) allowed =
      fails_anyway job.place (HostRequest.Fetch row.key (course.folders + 1) row.files) refl allowed
  at_goes_on can (touching number job its_key reflects it due) fits (by_record place request answer (is_touched its)) allowed = goes_with _ nothing_due [] allowed (touches job.place its_key)
  at_goes_on can (touching number job its_key reflects it due) fits (by_record place request answer (is_refused its refusal)) allowed =
      goes_with _ nothing_due (touch_failed job.place refusal ∷ []) allowed (touch_fails job.place its_key refusal)
  at_goes_on can (dropping number job its_key reflects it due own) fits (by_record place request answer (is_dropped its)) allowed =
      goes_with _ (discard_due job.place its_key []) [] allowed (drops job.place its_key)
  at_goes_on can (dropping number job its_key reflects it due own) fits (by_record place request answer (is_refused its refusal)) allowed =
      goes_with _ (discard_due job.place its_key []) (drop_failed job.place refusal ∷ []) allowed (drop_fails job.place its_key refusal)
  at_goes_on can (discarding number job its_key left reflects it due) fits (by_host place request answer (is_discarded its)) allowed =
      goes_with _ (work_to_discard job.place (reverse left)) [] allowed (discards job.place its_key (reverse left) due)
  at_goes_on can (discarding number job its_key left reflects it due) fits (by_host place request answer (has_failed call)) allowed =
      goes_with _ (work_to_discard job.place (reverse left)) (discard_failed job.place ∷ []) allowed (discard_fails job.place its_key (reverse left) due)
  at_goes_on can (storing number job row reflects it due) fits (by_host place request answer (is_stored its folder files)) allowed =
      goes_with _ (put_due job.place (record row { archived = true })) [] allowed (stores job.place _ _ _ row due)
  at_goes_on can (storing number job row reflects it due) fits (by_host place request answer (has_failed call)) allowed =
      goes_with _ (put_due job.place (record row { archived = false })) (store_failed job.place ∷ []) allowed (store_fails job.place _ _ _ row due)
  at_goes_on can (staging number job plan reflects is_staging) fits (by_host place request answer (is_staged its folder)) allowed =
      let start : SomeStart s.options job.place job folder plan.value [] (heads_wanted job.tool.inputs plan.value) =
      a_start s.options job.place job folder can.launches (can.ids job (some_there (known_in course.known) number job is_staging.it)) plan.value []
      (heads_wanted job.tool.inputs plan.value) in
      goes_with _ start.work (job_staged job.place folder ∷ start.more) allowed
      (stages job.place plan folder job start.work start.more (known_there s f.events course None number job is_staging.it reflects) start.starts)
  at_goes_on can (staging number job plan reflects is_staging) fits (by_host place request answer (has_failed call)) allowed =
      fails_anyway job.place (HostRequest.Stage plan (course.folders + 1)) refl allowed
  at_goes_on can (working number job call phase reflects w) fits (by_host place request answer can_answer) allowed =
      work_anyway number job (Some number) reflects can w.it call phase answer can_answer w fits allowed
  at_goes_on can (collecting reflects may) fits (by_host place request answer (has_ended ending flies)) allowed = end_anyway reflects allowed ending flies
  at_goes_on can (collecting reflects may) fits (by_host place request answer (has_failed call)) allowed = goes_with _ nothing_due (collect_failed ∷ []) allowed loses_collect
  at_goes_on can (delivering plan reflects may going) fits (by_host place request answer (is_delivered its)) allowed =
      goes_with _ nothing_due (result_delivered plan ∷ []) allowed (delivers [] plan)
  at_goes_on can (delivering plan reflects may going) fits (by_host place request answer (has_failed call)) allowed =
      fails_anyway [] (HostRequest.Deliver plan) refl allowed
  at_goes_on can (ended end so noted knows) fits may allowed = elim may [ ]

-- the transcript goes on by the answer
pub goes_anyway : (s : Scene) (t : List Pair) (course : Course) (turn : Turn) (answer : Answer) → CanGoOn course (job_in turn.phase) answer → (r : Runs s t course turn) →
    AsksOf course turn.asks turn.phase → MayAnswer course.tickets.items turn.asks answer → Allowed s r.happened r.plans.marks turn.asks →
    GoesOn s (t ++ record { request = turn.asks; answer = answer } ∷ [])
goes_anyway s t course turn answer can r fits may allowed = at_goes_on s can.least t r.happened r.plans course r.goes can r.at fits may allowed
