-- What the machine turns to where nothing is due, and after each answer. That all this makes a run are laws above it.
use Rattle.std.specs.Prelude.{◌≡◌, ◌≢◌, ◌≤◌, ◌<◌, ◌+◌, ℕ, true, false, List, [], Option, Some, None, Result, Err, IsSome, length, slice_get, option_copied}
use Rattle.cwl_process.specs.declared.tool.Tool.{Tool}
use Rattle.input_files.specs.Contents.{heads_wanted}
use Rattle.proc_host.specs.declared.call.HostFault.{HostFault}
use Rattle.proc_host.specs.declared.call.HostRequest.{HostRequest}
use Rattle.proc_host.specs.declared.child.ChildEnd.{ChildEnd}
use Rattle.proc_host.specs.declared.child.ExitClass.{ExitClass}
use Rattle.proc_host.specs.ExitClass.{class_of}
use Rattle.staging.specs.declared.found.Found.{Found}
use Rattle.staging.specs.declared.plan.StagePlan.{StagePlan}
use Rattle.staging.specs.Plan.{IsPlan}
use Rattle.run_rules.specs.declared.outcome.Cause.{Cause}
use Rattle.run_rules.specs.declared.outcome.Outcome.{Outcome}
use Rattle.run_rules.specs.declared.outcome.RunFault.{RunFault}
use Rattle.job_key.specs.Key.{key}
use Rattle.job_reuse.specs.Sound.{IsSound}
use Rattle.job_rows.specs.declared.refusal.RecordRefusal.{RecordRefusal}
use Rattle.job_rows.specs.declared.refusal.RecordRefusal.TheVariants.{NotARecord}
use Rattle.job_rows.specs.declared.row.Row.{Row}
use Rattle.run_rules.specs.declared.request.RecordAnswer.{RecordAnswer}
use Rattle.run_rules.specs.declared.request.RecordRequest.{RecordRequest}
use Rattle.run_rules.specs.declared.request.Request.{Request}
use Rattle.run_rules.specs.declared.setting.Options.{Options}
use Rattle.run_rules.specs.Delivered.{any_file, located, source_place}
use Rattle.run_rules.specs.Events.{is_reusable}
use Rattle.run_rules.specs.Folders.{in_folder, left_folder, out_folder}
use Rattle.job_graph.specs.Jobs.{Job}
use Rattle.cwl_value.specs.Placed.{fields_moved}
use Rattle.job_graph.specs.Words.{Name, Fields, JobPlace, last_by_name}
use Rattle.run_core.specs.declared.site.Site.{Site}
use Rattle.run_core.specs.declared.state.Course.{Course}
use Rattle.run_core.specs.declared.state.Filling.{Filling}
use Rattle.run_core.specs.declared.state.Flight.{Flight}
use Rattle.run_core.specs.declared.state.Given.{Given}
use Rattle.run_core.specs.declared.state.JobNext.{JobNext}
use Rattle.run_core.specs.declared.state.JobPhase.{JobPhase}
use Rattle.run_core.specs.declared.job_states.JobState.{JobState}
use Rattle.run_core.specs.declared.state.Kept.{Kept}
use Rattle.run_core.specs.declared.state.Phase.{Phase}
use Rattle.run_core.specs.declared.state.Reading.{Reading}
use Rattle.run_core.specs.declared.state.Turn.{Turn}
use Rattle.run_core.specs.inner.Course.{GivesUp, TakesOut, families_in, fetched_in, known_in, number_in, past_of, place_at, with_answer, with_end, with_staging, with_start, failure_in, with_note, with_hand, with_load, with_loss, touch_note, Past, TellsAlike, with_fault}
use Rattle.run_core.specs.inner.Fetches.{AgreesAt, Fetches, IsNextToFetch, NoneToFetch, drops, touches}
use Rattle.run_core.specs.inner.Due.{CollectsFirst, CollectsPast, Scans, Starts, StartsPast}
use Rattle.run_core.specs.inner.JobStates.{IsLowest, NoneReady, state_at}
use Rattle.run_core.specs.inner.Marks.{marks_in}
use Rattle.run_core.specs.inner.Planning.{Replans}
use Rattle.run_core.specs.inner.Knows.{GivesAt, LearnsUnlessOver, outputs_in}
use Rattle.run_core.specs.inner.Turn.{collects, ends, root_asks, succeeds, works, puts, keeps_row}
use Rattle.run_core.specs.inner.FoundRows.{row_in}

-- the folder that has the outputs of the job at a place
abbrev pub folder_in : Options → Course → JobPlace → Name
folder_in options course place =
    left_folder options.work (fetched_in (known_in course.known) course.jobs place) (number_in (known_in course.known) course.jobs place)

-- the values, where files that jobs made are at their paths
abbrev pub sources_in : Options → Course → Fields → Fields
sources_in options course values =
    fields_moved (source_place (folder_in options course)) values

-- of none of the jobs from a number on, below another, may an earlier result be used
abbrev pub NoneBetween : List Job → ℕ → ℕ → Type 0
NoneBetween jobs from below = (number : ℕ) (job : Job) → slice_get jobs number ≡ Some job → from ≤ number → number < below → is_reusable job ≡ false

abbrev pub NoneReusable : List Job → ℕ → Type 0
NoneReusable jobs from = (number : ℕ) (job : Job) → slice_get jobs number ≡ Some job → from ≤ number → is_reusable job ≡ false

-- the first from a number on of which it may
pub record IsFirstReusable (jobs : List Job) (from number : ℕ) : Type 0 where
  pub job : Job
  pub known : slice_get jobs number ≡ Some job
  pub reusable : is_reusable job ≡ true
  pub left : from ≤ number
  pub first : NoneBetween jobs from number

-- no known job is left whose row is looked for
abbrev pub NoneToFind : Course → Type 0
NoneToFind course = NoneReusable (known_in course.known) course.looked_up

-- the first known job that is left whose row is looked for
abbrev pub IsNextToFind : Course → ℕ → Type 0
IsNextToFind course number = IsFirstReusable (known_in course.known) course.looked_up number

-- the row of the job of a number is looked for
pub record Finds (course : Course) (number : ℕ) (turn : Turn) : Type 0 where
  pub job : Job
  pub known : slice_get (known_in course.known) number ≡ Some job
  pub is : turn ≡ record { asks = Request.Record job.place (RecordRequest.Find (key job.tool job.inputs)); phase = Phase.Finding number }

-- the job of a number is to be staged
pub record Stages (given : Given) (course : Course) (number : ℕ) (turn : Turn) : Type 0 where
  pub job : Job
  pub known : slice_get (known_in course.known) number ≡ Some job
  pub plan : StagePlan
  pub is_plan : IsPlan false (in_folder given.options.work (course.folders + 1)) (sources_in given.options course job.inputs) plan
  pub is : turn ≡ record { asks = Request.Host job.place (HostRequest.Stage plan (course.folders + 1)); phase = Phase.Staging number }

-- the files of the result are copied to their targets
pub record DeliversFiles (given : Given) (course : Course) (values : Fields) (turn : Turn) : Type 0 where
  pub plan : StagePlan
  pub is_plan : IsPlan true given.options.outdir (sources_in given.options course values) plan
  pub is : turn ≡ record { asks = root_asks (HostRequest.Deliver plan); phase = Phase.Delivering (located plan.value) }

-- the result is delivered where it has files, and else the run has ended
pub data Delivers (given : Given) (course : Course) : Turn → Type 0 where
  delivers : (turn : Turn) → any_file (outputs_in course.known) ≡ true → DeliversFiles given course (last_by_name (outputs_in course.known)) turn → Delivers given course turn
  succeeds_at_once : any_file (outputs_in course.known) ≡ false → Delivers given course (succeeds (located (last_by_name (outputs_in course.known))))

-- no slot is free, or no known job is ready
pub data NoneToStage (given : Given) (course : Course) : Type 0 where
  slots_full : given.options.slots ≤ length course.tickets.items → NoneToStage given course
  none_ready : NoneReady (marks_in course.planned) (families_in course.known) course.jobs (length (families_in course.known)) → NoneToStage given course

-- a slot is free for the lowest job that is ready
pub record MayBeNext (given : Given) (course : Course) (number : ℕ) : Type 0 where
  pub slot : length course.tickets.items < given.options.slots
  pub lowest : IsLowest (marks_in course.planned) (families_in course.known) course.jobs number

-- what comes next by the plan in force
pub data Chooses (given : Given) (old : Course) : Turn → Type 0 where
  fetches : (number : ℕ) (turn : Turn) → IsNextToFetch given old number → Fetches old number turn → Chooses given old turn
  stages : (number : ℕ) (turn : Turn) → NoneToFetch given old → MayBeNext given old number → Stages given old number turn → Chooses given old turn
  waits_for_one : NoneToFetch given old → NoneToStage given old → old.tickets.items ≢ [] → Chooses given old collects
  has_result : (turn : Turn) → NoneToFetch given old → NoneToStage given old → old.tickets.items ≡ [] → Delivers given old turn → Chooses given old turn

-- where nothing is due
pub data Picks (given : Given) (old : Course) : Turn → Course → Type 0 where
  drains : (new : Course) → IsSome old.end → old.tickets.items ≢ [] → past_of new ≡ past_of old → new.known ≡ old.known → Picks given old collects new
  ends_so : (end : Result Outcome RunFault) (new : Course) → old.end ≡ Some end → old.tickets.items ≡ [] → new.tickets.items ≡ [] → new.known ≡ old.known →
      TellsAlike (past_of old) (past_of new) → Picks given old (ends end) new
  finds : (number : ℕ) (turn : Turn) (new : Course) → old.end ≡ None → IsNextToFind old number → Finds old number turn → past_of new ≡ past_of old →
      new.known ≡ old.known → Picks given old turn new
  chooses : (planned : Course) (turn : Turn) (new : Course) → old.end ≡ None → NoneToFind old → Replans given old planned → Chooses given planned turn →
      past_of new ≡ past_of planned → new.known ≡ planned.known → Picks given old turn new

-- the row of the job of a number, which is at this place and was staged in this folder, is kept: it is put, once its files are archived where an
-- archive is kept
pub record Puts (given : Given) (place : JobPlace) (folder : ℕ) (old : Course) (number : ℕ) (row : Row) (turn : Turn) (new : Course) : Type 0 where
  pub is : turn ≡ keeps_row given.options.keep (out_folder given.options.work folder) place number row
  pub past : past_of new ≡ past_of old
  pub known : new.known ≡ old.known

-- where there is one, and else nothing is due
abbrev pub PutsOrPicks : Given → JobPlace → ℕ → Course → ℕ → Option Row → Turn → Course → Type 0
PutsOrPicks given place folder old number None turn new = Picks given old turn new
PutsOrPicks given place folder old number (Some row) turn new = Puts given place folder old number row turn new

-- a job goes on, or it has failed, or its outputs are there
pub data Turns (given : Given) (old : Course) (number : ℕ) : JobNext → Turn → Course → Type 0 where
  asks : (call : HostRequest) (phase : JobPhase) (new : Course) → past_of new ≡ past_of old → new.known ≡ old.known →
      Turns given old number (JobNext.Asks call phase) (works (place_at (known_in old.known) number) number call phase) new
  fails : (cause : Cause) (failed : Course) (turn : Turn) (new : Course) →
      past_of failed ≡ with_end (failure_in (past_of old) number (place_at (known_in old.known) number) cause) (past_of old) → failed.known ≡ old.known →
      Picks given failed turn new → Turns given old number (JobNext.Fails cause) turn new
  gives : (outputs : Fields) (row : Option Row) (learned : Course) (turn : Turn) (new : Course) → GivesAt number outputs old learned →
      PutsOrPicks given (place_at (known_in old.known) number) (state_at old.jobs number).folder learned number row turn new → Turns given old number (JobNext.Gives outputs row) turn new
  repeats : (row : Row) (there : Course) (turn : Turn) (new : Course) → past_of there ≡ with_hand number (past_of old) → there.known ≡ old.known →
      Puts given (place_at (known_in old.known) number) (state_at old.jobs number).folder there number row turn new → Turns given old number (JobNext.Repeats row) turn new
  mismatches : (outputs : Fields) (failed : Course) (turn : Turn) (new : Course) →
      past_of failed ≡ with_end (Err (RunFault.Mismatch (place_at (known_in old.known) number))) (past_of old) → failed.known ≡ old.known →
      Picks given failed turn new → Turns given old number (JobNext.Differs outputs) turn new

-- a job in the folders that it was staged in last
pub record IsSite (given : Given) (course : Course) (number : ℕ) (site : Site) : Type 0 where
  pub job : Job
  pub known : slice_get (known_in course.known) number ≡ Some job
  pub tool : site.tool.now ≡ job.tool
  pub inputs : site.inputs.now ≡ job.inputs
  pub row : option_copied site.row ≡ row_in course.rows number
  pub state : JobState
  pub staged : slice_get course.jobs number ≡ Some state
  pub folder : site.folder ≡ state.folder
  pub options : site.options.now ≡ given.options

-- after an answer: a rule for each kind

pub record AfterStaging (given : Given) (old : Course) (number : ℕ) (inputs : Fields) (turn : Turn) (new : Course) : Type 0 where
  pub staged : Course
  pub past : past_of staged ≡ with_staging number (past_of old)
  pub known : staged.known ≡ old.known
  pub site : Site
  pub is_site : IsSite given staged number site
  pub next : JobNext
  pub starts : Starts site inputs [] (heads_wanted site.tool.now.inputs inputs) next
  pub turns : Turns given staged number next turn new

pub record AfterInputHead (given : Given) (old : Course) (number : ℕ) (filling : Filling) (bytes : List ℕ) (turn : Turn) (new : Course) : Type 0 where
  pub site : Site
  pub is_site : IsSite given old number site
  pub next : JobNext
  pub starts : StartsPast site filling bytes next
  pub turns : Turns given old number next turn new

pub record AfterStart (given : Given) (old : Course) (number : ℕ) (kept : Kept) (ticket : ℕ) (turn : Turn) (new : Course) : Type 0 where
  pub started : Course
  pub past : past_of started ≡ with_start number kept ticket (past_of old)
  pub known : started.known ≡ old.known
  pub picks : Picks given started turn new

-- a job's child failed temporarily: the job waits again while retries are left
pub record AfterTemporary (given : Given) (old : Course) (number : ℕ) (turn : Turn) (new : Course) : Type 0 where
  pub tried : Course
  pub gives_up : GivesUp (known_in old.known) number given.options.retries (past_of old) (past_of tried)
  pub known : tried.known ≡ old.known
  pub picks : Picks given tried turn new

-- the child of a flight has ended well: its folder is listed
pub record IsScanned (given : Given) (landed : Course) (flight : Flight) (millis : ℕ) (turn : Turn) (new : Course) : Type 0 where
  pub site : Site
  pub is_site : IsSite given landed flight.job site
  pub next : JobNext
  pub scans : Scans site flight.kept millis next
  pub turns : Turns given landed flight.job next turn new

-- the child of a flight has ended, and is taken out
pub data AfterEnd (given : Given) (landed : Course) (flight : Flight) (tool : Tool) (ending : ChildEnd) (turn : Turn) (new : Course) : Type 0 where
  well : (site : Site) (next : JobNext) → class_of tool.exit_codes ending.code ≡ ExitClass.Success → IsSite given landed flight.job site →
      Scans site flight.kept ending.millis next → Turns given landed flight.job next turn new → AfterEnd given landed flight tool ending turn new
  badly : class_of tool.exit_codes ending.code ≡ ExitClass.Permanent →
      Turns given landed flight.job (JobNext.Fails (Cause.Exit ending.code)) turn new → AfterEnd given landed flight tool ending turn new
  for_now : class_of tool.exit_codes ending.code ≡ ExitClass.Temporary → AfterTemporary given landed flight.job turn new → AfterEnd given landed flight tool ending turn new

pub record AfterChild (given : Given) (old : Course) (ending : ChildEnd) (turn : Turn) (new : Course) : Type 0 where
  pub flight : Flight
  pub landed : Course
  pub taken : TakesOut ending.ticket flight (past_of old) (past_of landed)
  pub known : landed.known ≡ old.known
  pub job : Job
  pub is_job : slice_get (known_in landed.known) flight.job ≡ Some job
  pub ends : AfterEnd given landed flight job.tool ending turn new

pub record AfterListing (given : Given) (old : Course) (number : ℕ) (kept : Kept) (millis : ℕ) (found : List Found) (turn : Turn) (new : Course) : Type 0 where
  pub site : Site
  pub is_site : IsSite given old number site
  pub next : JobNext
  pub collects : CollectsFirst site kept millis found next
  pub turns : Turns given old number next turn new

pub record AfterOutputHead (given : Given) (old : Course) (number : ℕ) (kept : Kept) (reading : Reading) (bytes : List ℕ) (turn : Turn) (new : Course) : Type 0 where
  pub site : Site
  pub is_site : IsSite given old number site
  pub next : JobNext
  pub collects : CollectsPast site kept reading bytes next
  pub turns : Turns given old number next turn new

-- what the record's answer to a find tells of a job's tool: a row of it, that there is none, or why the run ends
pub data Tells (tool : Tool) : RecordAnswer → Option RecordRefusal → Type 0 where
  has_none : Tells tool (RecordAnswer.Found None) None
  has_row : (row : Row) → IsSound tool row → Tells tool (RecordAnswer.Found (Some row)) None
  has_wrong_row : (row : Row) → (IsSound tool row → ⊥) → Tells tool (RecordAnswer.Found (Some row)) (Some NotARecord)
  refuses : (refusal : RecordRefusal) → Tells tool (RecordAnswer.Refused refusal) (Some refusal)

-- the outputs of a row that was found are learned, unless the end is settled
abbrev pub LearnsRow : JobPlace → RecordAnswer → Course → Course → Type 0
LearnsRow place (RecordAnswer.Found (Some row)) old new = LearnsUnlessOver (record { place = place; outputs = row.outputs }) old new
LearnsRow place answer old new = (past_of new ≡ past_of old) × (new.known ≡ old.known)

pub record AfterFind (given : Given) (old : Course) (number : ℕ) (answer : RecordAnswer) (turn : Turn) (new : Course) : Type 0 where
  pub job : Job
  pub is_job : slice_get (known_in old.known) number ≡ Some job
  pub refusal : Option RecordRefusal
  pub tells : Tells job.tool answer refusal
  pub noted : Course
  pub past : past_of noted ≡ with_answer number answer refusal (past_of old)
  pub known : noted.known ≡ old.known
  pub learned : Course
  pub learns : LearnsRow (place_at (known_in old.known) number) answer noted learned
  pub picks : Picks given learned turn new

-- nothing is due, once this is kept of the events
pub record PicksAfter (given : Given) (old : Course) (kept : Past) (turn : Turn) (new : Course) : Type 0 where
  pub noted : Course
  pub past : past_of noted ≡ kept
  pub known : noted.known ≡ old.known
  pub picks : Picks given noted turn new

-- the row of the job of a number is put next, and this is kept of the events
pub record PutsRow (old : Course) (number : ℕ) (row : Row) (kept : Past) (turn : Turn) (new : Course) : Type 0 where
  pub is : turn ≡ puts (place_at (known_in old.known) number) number row
  pub past : past_of new ≡ kept
  pub known : new.known ≡ old.known

-- the files of the row of the job of a number were fetched: that its archive was used is told next; or others were there, and it is dropped next
pub data AfterFetch (old : Course) (number : ℕ) (found : List Found) (turn : Turn) (new : Course) : Type 0 where
  agrees : AgreesAt old number found → turn ≡ touches old number → past_of new ≡ with_load number (past_of old) → new.known ≡ old.known →
      AfterFetch old number found turn new
  differs : (AgreesAt old number found → ⊥) → turn ≡ drops old number → past_of new ≡ with_loss number (past_of old) → new.known ≡ old.known →
      AfterFetch old number found turn new

-- the record has answered whether it is noted that the archive was used
abbrev pub touched_by : JobPlace → RecordAnswer → Past → Past
touched_by place (RecordAnswer.Refused refusal) past = with_note (touch_note place refusal) past
touched_by place answer past = past

abbrev pub AfterTouch : Given → Course → ℕ → RecordAnswer → Turn → Course → Type 0
AfterTouch given old number answer turn new = PicksAfter given old (touched_by (place_at (known_in old.known) number) answer (past_of old)) turn new

-- a call for the job at this place, other than a collect, a store or a discard, failed
pub record AfterFault (given : Given) (old : Course) (place : JobPlace) (fault : HostFault) (turn : Turn) (new : Course) : Type 0 where
  pub settled : Course
  pub past : past_of settled ≡ with_fault place fault (past_of old)
  pub known : settled.known ≡ old.known
  pub picks : Picks given settled turn new
