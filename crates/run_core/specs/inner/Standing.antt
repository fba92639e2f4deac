-- Where the machine is in its run.
use Rattle.std.specs.Prelude.{◌≡◌, ◌≢◌, ◌<◌, ◌≤◌, ◌+◌, ℕ, true, false, List, [], ◌∷◌, ◌++◌, Some, None, Result, Ok, Err, IfErr, length, reverse, vec_len, vec_capacity}
use Rattle.plan_checker.specs.declared.plan.Mark.{Mark}
use Rattle.proc_host.specs.declared.call.Entry.{Entry}
use Rattle.proc_host.specs.declared.call.HostRequest.{HostRequest}
use Rattle.staging.specs.declared.found.Found.{Found}
use Rattle.staging.specs.declared.measure.Measure.{Measure}
use Rattle.staging.specs.declared.plan.StagePlan.{StagePlan}
use Rattle.job_graph.specs.Jobs.{Job}
use Rattle.job_graph.specs.Words.{JobPlace, Name}
use Rattle.run_rules.specs.declared.outcome.Outcome.{Outcome}
use Rattle.run_rules.specs.declared.outcome.RunFault.{RunFault}
use Rattle.run_rules.specs.declared.request.Pair.{Pair}
use Rattle.job_key.specs.Key.{key}
use Rattle.run_rules.specs.declared.request.RecordRequest.{RecordRequest}
use Rattle.run_rules.specs.declared.request.Request.{Request}
use Rattle.run_rules.specs.Allowed.{IsOpen, MayFetch, MayFind, MayStage, MayCollect, MayDeliver}
use Rattle.run_rules.specs.Blame.{BlamesRightly, IsToBlame}
use Rattle.run_rules.specs.Delivered.{located}
use Rattle.run_rules.specs.End.{End}
use Rattle.run_rules.specs.EndsSo.{EndsSo}
use Rattle.run_rules.specs.Events.{Event, Progress, Started, is_reusable, nothing_due, started_at, put_due, store_due, folder_at, discard_due, drop_due, touch_due, unfolding_at}
use Rattle.run_rules.specs.Plans.{InForce, PlansSoFar}
use Rattle.run_rules.specs.Reports.{AreWaits, outcome_of, notes_of}
use Rattle.run_rules.specs.Run.{Goes}
use Rattle.run_rules.specs.Scene.{Scene}
use Rattle.run_rules.proofs.events.Places.{IsJob}
use Rattle.run_core.specs.Core.{Shows}
use Rattle.run_core.specs.declared.state.Course.{Course}
use Rattle.run_core.specs.declared.state.JobPhase.{JobPhase}
use Rattle.run_core.specs.declared.state.Kept.{Kept}
use Rattle.run_core.specs.declared.state.Measuring.{Measuring}
use Rattle.run_core.specs.declared.state.Phase.{Phase}
use Rattle.run_core.specs.declared.state.Turn.{Turn}
use Rattle.run_core.specs.inner.Course.{Past, families_in, key_in, known_in, nothing_past, past_of}
use Rattle.run_core.specs.inner.Due.{Calls, IsKept, work_of}
use Rattle.run_core.specs.inner.Keeps.{Reflects}
use Rattle.run_core.specs.inner.Measured.{IsMeasuring, measured_by}
use Rattle.run_core.specs.inner.Turn.{collects, discards, ends, tells_record, waits, works, puts, stores}
use Rattle.run_core.specs.inner.JobStates.{IsLowest, state_at, waits_in}
use Rattle.run_core.specs.inner.Planning.{shown}
use Rattle.run_core.specs.inner.Fetches.{NoneLoads}
use Rattle.run_core.specs.inner.FoundRows.{row_in}
use Rattle.job_rows.specs.declared.row.Row.{Row}

-- what is kept of the child of a job that has ended well
pub record HasStarted (es : List Event) (place : JobPlace) (kept : Kept) : Type 0 where
  pub started : Started
  pub at : started_at es place ≡ Some started
  pub kept_is : IsKept kept started

-- of a job whose child has ended is kept what it was started by
abbrev pub WorksOn : List Event → JobPlace → JobPhase → Type 0
WorksOn es place (JobPhase.Filling filling) = Unit {0}
WorksOn es place (JobPhase.Starting kept) = Unit {0}
WorksOn es place (JobPhase.Scanning kept millis) = HasStarted es place kept
WorksOn es place (JobPhase.Reading kept reading) = HasStarted es place kept

-- the job of a number whose open work this is
pub record IsWorking (s : Scene) (f : Progress) (course : Course) (number : ℕ) (job : Job) (call : HostRequest) (phase : JobPhase) : Type 0 where
  pub it : IsJob (known_in course.known) number job
  pub due : f.work ≡ work_of job.place call phase
  pub calls : Calls s.options (state_at course.jobs number).folder call phase
  pub on : WorksOn f.events job.place phase

-- a job that is to be staged: the lowest one that is ready, by these marks, if no files may be fetched
pub record IsStaging (s : Scene) (f : Progress) (marks : List Mark) (course : Course) (number : ℕ) (job : Job) (plan : StagePlan) : Type 0 where
  pub it : IsJob (known_in course.known) number job
  pub may : MayStage s f marks job.place plan (course.folders + 1)
  pub no_fetch : (place : JobPlace) (its_key : List ℕ) (its_number : ℕ) (files : List Found) → MayFetch s f marks place its_key its_number files → ⊥
  pub lowest : IsLowest marks (families_in course.known) course.jobs number
  pub going : course.end ≡ None

-- a job whose row is looked for: the first one that is left
pub record FindsNext (s : Scene) (f : Progress) (course : Course) (number : ℕ) (job : Job) : Type 0 where
  pub it : IsJob (known_in course.known) number job
  pub may : MayFind s f job.place (key job.tool job.inputs)
  pub left : course.looked_up ≤ number
  pub first : (other : ℕ) (its : Job) → IsJob (known_in course.known) other its → course.looked_up ≤ other → other < number → is_reusable its ≡ false
  pub going : course.end ≡ None

-- a job whose files are fetched: the lowest one that waits and is loaded
pub record FetchesNext (s : Scene) (f : Progress) (marks : List Mark) (course : Course) (number : ℕ) (job : Job) (row : Row) : Type 0 where
  pub it : IsJob (known_in course.known) number job
  pub found : row_in course.rows number ≡ Some row
  pub may : MayFetch s f marks job.place row.key (course.folders + 1) row.files
  pub waits : waits_in course.jobs number ≡ true
  pub untried : (state_at course.jobs number).tried ≡ false
  pub lowest : NoneLoads marks course number
  pub kept : s.options.keep ≡ true
  pub going : course.end ≡ None

-- all jobs are known, unless work is due or the end is settled
abbrev pub KnowsJobs : Scene → Progress → Course → Type 0
KnowsJobs s f course = IsOpen s f → known_in course.known ≡ (unfolding_at s f.events).jobs

-- what it waits for is what its run has come to: a rule for each phase
pub data IsAt (s : Scene) (f : Progress) (marks : List Mark) (course : Course) : Turn → Type 0 where
  measuring : (found : List (Name × Measure)) (measuring : Measuring) (rest : List Name) (path : Name) → IsMeasuring s found measuring →
      measuring.left ≡ rest ++ path ∷ [] → f ≡ record { work = nothing_due; events = measured_by found } → course.known ≡ None →
      past_of course ≡ nothing_past → IsAt s f marks course (waits (HostRequest.Measure path) (Phase.Measuring measuring))
  finding : (number : ℕ) (job : Job) → Reflects s f.events course None → FindsNext s f course number job →
      IsAt s f marks course (record { asks = Request.Record job.place (RecordRequest.Find (key job.tool job.inputs)); phase = Phase.Finding number })
  putting : (number : ℕ) (job : Job) (row : Row) → Reflects s f.events course None → IsJob (known_in course.known) number job → f.work ≡ put_due job.place row →
      IsAt s f marks course (puts job.place number row)
  fetching : (number : ℕ) (job : Job) (row : Row) → Reflects s f.events course None → FetchesNext s f marks course number job row →
      IsAt s f marks course (record { asks = Request.Host job.place (HostRequest.Fetch row.key (course.folders + 1) row.files); phase = Phase.Fetching number })
  touching : (number : ℕ) (job : Job) (its_key : Name) → Reflects s f.events course None → IsJob (known_in course.known) number job → f.work ≡ touch_due job.place its_key →
      IsAt s f marks course (tells_record job.place (RecordRequest.Touch its_key) (Phase.Touching number))
  dropping : (number : ℕ) (job : Job) (its_key : Name) → Reflects s f.events course None → IsJob (known_in course.known) number job → f.work ≡ drop_due job.place its_key →
      its_key ≡ key_in course.rows number → IsAt s f marks course (tells_record job.place (RecordRequest.DropArchive its_key) (Phase.Dropping number))
  discarding : (number : ℕ) (job : Job) (its_key : Name) (left : List Name) → Reflects s f.events course None → IsJob (known_in course.known) number job →
      f.work ≡ discard_due job.place its_key (reverse left) → IsAt s f marks course (discards job.place number its_key left)
  storing : (number : ℕ) (job : Job) (row : Row) → Reflects s f.events course None → IsJob (known_in course.known) number job → f.work ≡ store_due job.place row →
      IsAt s f marks course (stores job.place number (folder_at s f.events job.place) row)
  staging : (number : ℕ) (job : Job) (plan : StagePlan) → Reflects s f.events course None → IsStaging s f marks course number job plan →
      IsAt s f marks course (record { asks = Request.Host job.place (HostRequest.Stage plan (course.folders + 1)); phase = Phase.Staging number })
  working : (number : ℕ) (job : Job) (call : HostRequest) (phase : JobPhase) → Reflects s f.events course (Some number) →
      IsWorking s f course number job call phase → IsAt s f marks course (works job.place number call phase)
  collecting : Reflects s f.events course None → MayCollect s f marks [] → IsAt s f marks course collects
  delivering : (plan : StagePlan) → Reflects s f.events course None → MayDeliver s f marks [] plan → course.end ≡ None →
      IsAt s f marks course (waits (HostRequest.Deliver plan) (Phase.Delivering (located plan.value)))
  ended : (end : End) → EndsSo s f marks end → (past_of course).notes ≡ notes_of f.events → KnowsJobs s f course → IsAt s f marks course (ends (outcome_of end))

-- what was planned is kept
abbrev pub KeepsPlans : PlansSoFar → Past → Type 0
KeepsPlans plans past = Shows plans (shown past.planned) × (past.plans ≡ plans.notes)

-- a run so far, and where the machine is in it
pub record Runs (s : Scene) (t : List Pair) (course : Course) (turn : Turn) : Type 0 where
  pub happened : Progress
  pub plans : PlansSoFar
  pub goes : Goes s (InForce s) t happened plans
  pub planned : KeepsPlans plans (past_of course)
  pub at : IsAt s happened plans.marks course turn

-- the children in flight are waited for, and then it has ended
pub data IsLostAt (past : Past) : Turn → Type 0 where
  draining : past.tickets ≢ [] → IsLostAt past (record { asks = Request.Host [] HostRequest.Collect; phase = Phase.Draining })
  lost : IsLostAt past (record { asks = Request.Finished; phase = Phase.Ended (Err RunFault.OutOfMemory) })

-- memory ran out: what was asked and answered is a run so far, and waits after it
pub record RanOut (s : Scene) (t : List Pair) (past : Past) (turn : Turn) : Type 0 where
  pub front : List Pair
  pub tail : List Pair
  pub pairs : t ≡ front ++ tail
  pub happened : Progress
  pub plans : PlansSoFar
  pub goes : Goes s (InForce s) front happened plans
  pub collects : AreWaits tail
  pub at : IsLostAt past turn

-- a failure that settled the end: one of the host's blames it rightly, and memory that ran out settles none
abbrev pub SettlesRightly : List Entry → Result Outcome RunFault → Type 0
SettlesRightly entries (Ok report) = Unit {0}
SettlesRightly entries (Err (RunFault.Host fault running)) = IsToBlame entries fault running
SettlesRightly entries (Err (RunFault.Record refusal)) = Unit {0}
SettlesRightly entries (Err (RunFault.Mismatch place)) = Unit {0}
SettlesRightly entries (Err RunFault.TooManyJobs) = Unit {0}
SettlesRightly entries (Err RunFault.OutOfMemory) = ⊥

-- what it knows of its host while it goes on: what settled the end blames it rightly
pub record BlamesSoFar (entries : List Entry) (past : Past) : Type 0 where
  pub settled : (end : Result Outcome RunFault) → past.end ≡ Some end → SettlesRightly entries end

-- and an end by the host's fault blames it rightly
abbrev pub Blames : List Entry → Past → Phase → Type 0
Blames entries past (Phase.Ended outcome) = IfErr outcome (BlamesRightly entries)
Blames entries past Phase.Draining = Unit {0}
Blames entries past phase = BlamesSoFar entries past

-- for how many pairs there is room: the one that comes next, and the end of each child that is or will be in flight
abbrev pub pairs_ahead : Past → Phase → ℕ
pairs_ahead past (Phase.Ended outcome) = 0
pairs_ahead past Phase.Draining = length past.tickets
pairs_ahead past phase = length past.tickets + 2

-- before a child is started there is room for it
abbrev pub TakesOne : Phase → Type 0
TakesOne (Phase.Staging number) = Unit {0}
TakesOne (Phase.Working number (JobPhase.Filling filling)) = Unit {0}
TakesOne (Phase.Working number (JobPhase.Starting kept)) = Unit {0}
TakesOne phase = ⊥

pub record HasRoom (course : Course) (phase : Phase) : Type 0 where
  pub tickets : TakesOne phase → vec_len course.tickets < vec_capacity course.tickets
  pub flights : TakesOne phase → vec_len course.flights < vec_capacity course.flights
