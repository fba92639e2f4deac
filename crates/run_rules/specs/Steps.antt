-- What an answer brings about: the events that it adds, and the work that is due after it. A rule for each kind of answer.
use Rattle.std.specs.Prelude.{◌≡◌, ℕ, Bool, true, false, List, [], ◌∷◌, ◌++◌, Some, None, Contains}
use Rattle.collected_outputs.specs.HeadsWanted.{AreHeadsWanted}
use Rattle.collected_outputs.specs.Listing.{listing_of}
use Rattle.input_files.specs.Contents.{heads_wanted}
use Rattle.plain_data.specs.ByName.{with_value}
use Rattle.proc_host.specs.Answers.{fault_of}
use Rattle.proc_host.specs.ExitClass.{class_of}
use Rattle.proc_host.specs.declared.call.HostAnswer.{HostAnswer}
use Rattle.proc_host.specs.declared.call.HostFault.{HostFault}
use Rattle.proc_host.specs.declared.call.HostRequest.{HostRequest}
use Rattle.proc_host.specs.declared.child.ChildEnd.{ChildEnd}
use Rattle.proc_host.specs.declared.child.ExitClass.{ExitClass}
use Rattle.command_line.specs.declared.launch.Launch.{Launch}
use Rattle.staging.specs.declared.found.Found.{Found}
use Rattle.staging.specs.declared.measure.Measure.{Measure}
use Rattle.staging.specs.declared.plan.StagePlan.{StagePlan}
use Rattle.job_key.specs.Key.{Key}
use Rattle.job_reuse.specs.Rows.{AreTheSame}
use Rattle.job_reuse.specs.Sound.{IsSound}
use Rattle.job_rows.specs.declared.refusal.RecordRefusal.{RecordRefusal}
use Rattle.job_rows.specs.declared.refusal.RecordRefusal.TheVariants.{NotARecord}
use Rattle.job_rows.specs.declared.row.Row.{Row}
use Rattle.run_rules.specs.declared.outcome.Cause.{Cause}
use Rattle.run_rules.specs.declared.request.Answer.{Answer}
use Rattle.run_rules.specs.declared.request.Pair.{Pair}
use Rattle.run_rules.specs.declared.request.RecordAnswer.{RecordAnswer}
use Rattle.run_rules.specs.declared.request.RecordRequest.{RecordRequest}
use Rattle.run_rules.specs.declared.request.Request.{Request}
use Rattle.collected_outputs.specs.Contents.{Heads}
use Rattle.job_graph.specs.Jobs.{Job}
use Rattle.job_graph.specs.Words.{Name, Fields, JobPlace}
use Rattle.run_rules.specs.Events.{Event, file_measured, job_staged, job_started, child_exited, job_failed, job_failed_for_now, result_delivered, host_failed, collect_failed, row_found, no_row, find_failed, put_failed, store_failed, Work, nothing_due, input_heads_due, start_due, scan_due, output_heads_due, put_due, store_due, Progress, Started, in_flight, number_at, started_at, row_at, job_at, files_fetched, archive_differs, drop_failed, drop_due, host_failed_late, touch_failed, touch_due, discard_failed, discard_due}
use Rattle.run_rules.specs.End.{End, settled}
use Rattle.run_rules.specs.StartsOn.{StartsOn}
use Rattle.run_rules.specs.CollectsOn.{CollectsOn}
use Rattle.run_rules.specs.Scene.{Scene}

-- a call of the host's, for the job at this place, and its answer
abbrev pub call : JobPlace → HostRequest → HostAnswer → Pair
call place request answer = record { request = Request.Host place request; answer = Answer.Host answer }

-- a command to the record, for the job at this place, and its answer
abbrev pub command : JobPlace → RecordRequest → RecordAnswer → Pair
command place request answer = record { request = Request.Record place request; answer = Answer.Record answer }

-- whether a call that fails has a rule of its own
abbrev pub fails_apart : HostRequest → Bool
fails_apart HostRequest.Collect = true
fails_apart (HostRequest.Store key folder files) = true
fails_apart (HostRequest.Discard key) = true
fails_apart request = false

-- the work that discards the archives of these keys, for the job at this place
abbrev pub work_to_discard : JobPlace → List (List ℕ) → Work
work_to_discard place [] = nothing_due
work_to_discard place (key ∷ more) = discard_due place key more

-- with these events more, and this work due
abbrev pub progress_with : Progress → Work → List Event → Progress
progress_with f work new = record { work = work; events = f.events ++ new }

module _ (s : Scene) where
  pub data Steps (f : Progress) : Pair → Work → List Event → Type 0 where
    measures_file : (path : Name) (measure : Measure) →
        Steps f (call [] (HostRequest.Measure path) (HostAnswer.Measured measure)) nothing_due (file_measured path measure ∷ [])
    -- a job is staged: first bytes of its inputs are read next, or it is started, or it fails
    stages : (place : JobPlace) (plan : StagePlan) (number : ℕ) (job : Job) (work : Work) (more : List Event) → job_at s f.events place ≡ Some job →
        StartsOn s.options place job number plan.value [] (heads_wanted job.tool.inputs plan.value) work more →
        Steps f (call place (HostRequest.Stage plan number) HostAnswer.Done) work (job_staged place number ∷ more)
    -- and the same where one was read
    reads_input : (place : JobPlace) (path : Name) (limit : ℕ) (bytes : List ℕ) (staged : Fields) (todo : List Name) (read : Heads) (job : Job)
        (work : Work) (more : List Event) → f.work ≡ input_heads_due place staged (path ∷ todo) read → job_at s f.events place ≡ Some job →
        StartsOn s.options place job (number_at f.events place) staged (with_value path bytes read) todo work more →
        Steps f (call place (HostRequest.Head path limit) (HostAnswer.FirstBytes bytes)) work more
    starts : (place : JobPlace) (inputs : Fields) (launch : Launch) (ticket : ℕ) → f.work ≡ start_due place inputs launch →
        Steps f (call place (HostRequest.Start launch) (HostAnswer.Started ticket)) nothing_due (job_started place inputs launch ticket ∷ [])
    -- a child in flight has ended: a success is scanned next
    exits_well : (place : JobPlace) (e : ChildEnd) (job : Job) → Contains (in_flight f.events) (e.ticket, place) → job_at s f.events place ≡ Some job →
        class_of job.tool.exit_codes e.code ≡ ExitClass.Success →
        Steps f (call [] HostRequest.Collect (HostAnswer.Ended e)) (scan_due place e.millis) (child_exited e.ticket ∷ [])
    exits_for_now : (place : JobPlace) (e : ChildEnd) (job : Job) → Contains (in_flight f.events) (e.ticket, place) → job_at s f.events place ≡ Some job →
        class_of job.tool.exit_codes e.code ≡ ExitClass.Temporary →
        Steps f (call [] HostRequest.Collect (HostAnswer.Ended e)) nothing_due (child_exited e.ticket ∷ job_failed_for_now place ∷ [])
    exits_badly : (place : JobPlace) (e : ChildEnd) (job : Job) → Contains (in_flight f.events) (e.ticket, place) → job_at s f.events place ≡ Some job →
        class_of job.tool.exit_codes e.code ≡ ExitClass.Permanent →
        Steps f (call [] HostRequest.Collect (HostAnswer.Ended e)) nothing_due (child_exited e.ticket ∷ job_failed place (Cause.Exit e.code) ∷ [])
    -- its folder is listed: first bytes of what was found are read next, or its outputs are collected, or there are none
    scans : (place : JobPlace) (folder : Name) (millis : ℕ) (found : List Found) (job : Job) (started : Started) (wanted : List Name) (work : Work)
        (more : List Event) → f.work ≡ scan_due place millis → job_at s f.events place ≡ Some job → started_at f.events place ≡ Some started → AreHeadsWanted (listing_of found) started.inputs job.tool.outputs wanted →
        CollectsOn s.options.keep place job (row_at f.events place) started millis found [] wanted work more →
        Steps f (call place (HostRequest.Scan folder) (HostAnswer.Listed found)) work more
    -- and the same where one was read
    reads_output : (place : JobPlace) (path : Name) (limit : ℕ) (bytes : List ℕ) (millis : ℕ) (found : List Found) (name : Name) (todo : List Name) (read : Heads)
        (job : Job) (started : Started) (work : Work) (more : List Event) → f.work ≡ output_heads_due place millis found (name ∷ todo) read → job_at s f.events place ≡ Some job →
        started_at f.events place ≡ Some started → CollectsOn s.options.keep place job (row_at f.events place) started millis found (with_value name bytes read) todo work more →
        Steps f (call place (HostRequest.Head path limit) (HostAnswer.FirstBytes bytes)) work more
    -- the record has no row of a job, or one of its tool; one that contradicts itself or the tool is refused, as what does not read is
    finds_none : (place : JobPlace) (its_key : Key) →
        Steps f (command place (RecordRequest.Find its_key) (RecordAnswer.Found None)) nothing_due (no_row place ∷ [])
    finds : (place : JobPlace) (its_key : Key) (row : Row) (job : Job) → job_at s f.events place ≡ Some job → IsSound job.tool row →
        Steps f (command place (RecordRequest.Find its_key) (RecordAnswer.Found (Some row))) nothing_due (row_found place row ∷ [])
    finds_wrong : (place : JobPlace) (its_key : Key) (row : Row) (job : Job) → job_at s f.events place ≡ Some job → (IsSound job.tool row → ⊥) →
        Steps f (command place (RecordRequest.Find its_key) (RecordAnswer.Found (Some row))) nothing_due (find_failed place NotARecord ∷ [])
    find_fails : (place : JobPlace) (its_key : Key) (refusal : RecordRefusal) →
        Steps f (command place (RecordRequest.Find its_key) (RecordAnswer.Refused refusal)) nothing_due (find_failed place refusal ∷ [])
    -- the job's row is kept, and the archives that it takes away are discarded next; or it is refused
    puts : (place : JobPlace) (row : Row) (gone : List (List ℕ)) →
        Steps f (command place (RecordRequest.Put row) (RecordAnswer.Put gone)) (work_to_discard place gone) []
    put_fails : (place : JobPlace) (row : Row) (refusal : RecordRefusal) →
        Steps f (command place (RecordRequest.Put row) (RecordAnswer.Refused refusal)) nothing_due (put_failed place refusal ∷ [])
    -- the files of a job's row are there, and its archive is used; or what is there is not what the row has, and its archive is dropped next
    fetches : (place : JobPlace) (its_key : List ℕ) (number : ℕ) (files found : List Found) (row : Row) → row_at f.events place ≡ Some row → AreTheSame row.files found →
        Steps f (call place (HostRequest.Fetch its_key number files) (HostAnswer.Fetched found)) (touch_due place row.key) (files_fetched place number ∷ [])
    fetches_other : (place : JobPlace) (its_key : List ℕ) (number : ℕ) (files found : List Found) (row : Row) → row_at f.events place ≡ Some row → (AreTheSame row.files found → ⊥) →
        Steps f (call place (HostRequest.Fetch its_key number files) (HostAnswer.Fetched found)) (drop_due place row.key) (archive_differs place row.key number ∷ [])
    -- a use is noted by the record, or refused
    touches : (place : JobPlace) (its_key : List ℕ) → Steps f (command place (RecordRequest.Touch its_key) RecordAnswer.Done) nothing_due []
    touch_fails : (place : JobPlace) (its_key : List ℕ) (refusal : RecordRefusal) →
        Steps f (command place (RecordRequest.Touch its_key) (RecordAnswer.Refused refusal)) nothing_due (touch_failed place refusal ∷ [])
    -- that an archive is gone is noted by the record, or refused: it is discarded next
    drops : (place : JobPlace) (its_key : List ℕ) →
        Steps f (command place (RecordRequest.DropArchive its_key) RecordAnswer.Done) (discard_due place its_key []) []
    drop_fails : (place : JobPlace) (its_key : List ℕ) (refusal : RecordRefusal) →
        Steps f (command place (RecordRequest.DropArchive its_key) (RecordAnswer.Refused refusal)) (discard_due place its_key []) (drop_failed place refusal ∷ [])
    -- an archive is discarded, or not: so are the others next
    discards : (place : JobPlace) (its_key : List ℕ) (more : List (List ℕ)) → f.work ≡ discard_due place its_key more →
        Steps f (call place (HostRequest.Discard its_key) HostAnswer.Done) (work_to_discard place more) []
    discard_fails : (place : JobPlace) (its_key : List ℕ) (more : List (List ℕ)) → f.work ≡ discard_due place its_key more →
        Steps f (call place (HostRequest.Discard its_key) (HostAnswer.Failed HostFault.Discard)) (work_to_discard place more) (discard_failed place ∷ [])
    delivers : (place : JobPlace) (plan : StagePlan) →
        Steps f (call place (HostRequest.Deliver plan) HostAnswer.Done) nothing_due (result_delivered plan ∷ [])
    -- a call fails, by its own fault, and so the end is settled; where it was before, the call is late
    loses_collect : Steps f (call [] HostRequest.Collect (HostAnswer.Failed HostFault.Collect)) nothing_due (collect_failed ∷ [])
    call_fails : (place : JobPlace) (request : HostRequest) → fails_apart request ≡ false → settled s f.events ≡ None →
        Steps f (call place request (HostAnswer.Failed (fault_of request))) nothing_due (host_failed place (fault_of request) ∷ [])
    call_fails_late : (place : JobPlace) (request : HostRequest) (end : End) → fails_apart request ≡ false → settled s f.events ≡ Some end →
        Steps f (call place request (HostAnswer.Failed (fault_of request))) nothing_due (host_failed_late place (fault_of request) ∷ [])
    -- the job's files are archived, or not: so its row says, which is put next
    stores : (place : JobPlace) (key folder : Name) (files : List Found) (row : Row) → f.work ≡ store_due place row →
        Steps f (call place (HostRequest.Store key folder files) HostAnswer.Done) (put_due place (record row { archived = true })) []
    store_fails : (place : JobPlace) (key folder : Name) (files : List Found) (row : Row) → f.work ≡ store_due place row →
        Steps f (call place (HostRequest.Store key folder files) (HostAnswer.Failed HostFault.Store)) (put_due place (record row { archived = false })) (store_failed place ∷ [])
