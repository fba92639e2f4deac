-- What a run says of its host and of its record: a fault is theirs only if an answer of theirs was this very fault.
use Rattle.std.specs.Prelude.{ℕ, ◌≡◌, ◌<◌, ◌++◌, List, Result, Ok, Err, Contains}
use Rattle.job_rows.specs.declared.log.Command.{Command}
use Rattle.job_rows.specs.declared.refusal.RecordRefusal.{RecordRefusal}
use Rattle.job_rows.specs.declared.refusal.RecordRefusal.TheVariants.{NotARecord}
use Rattle.proc_host.specs.declared.call.Entry.{Entry}
use Rattle.proc_host.specs.declared.call.HostFault.{HostFault}
use Rattle.proc_host.specs.Log.{failures}
use Rattle.run_rules.specs.declared.outcome.RunFault.{RunFault}
use Rattle.run_rules.specs.Blame.{IsToBlame, Rise}
use Rattle.run_rules.specs.Recorded.{Line}
use Rattle.run_rules.specs.declared.outcome.Note.{Note}
use Rattle.run_rules.specs.declared.outcome.NoteKind.{NoteKind}
use Rattle.run_rules.specs.declared.outcome.Report.{Report}
use Rattle.workflow_engine.specs.declared.planned.PlanFault.{PlanFault}

-- the host's failures rose: what its log gained has a call that failed with this very fault and the starts
-- of these children
pub record HasFailed (before after : List Entry) (fault : HostFault) (running : List ℕ) : Type 0 where
  pub gained : List Entry
  pub logged : after ≡ before ++ gained
  pub risen : failures before < failures after
  pub to_blame : IsToBlame gained fault running

abbrev pub IsHostsFault : List Entry → List Entry → RunFault → Type 0
IsHostsFault before after (RunFault.Host fault running) = HasFailed before after fault running
IsHostsFault before after (RunFault.Record refusal) = Unit {0}
IsHostsFault before after (RunFault.Mismatch place) = Unit {0}
IsHostsFault before after RunFault.TooManyJobs = Unit {0}
IsHostsFault before after RunFault.OutOfMemory = Unit {0}

-- the tickets that nobody waits for any more are in rising order
abbrev pub HasRisingTickets : RunFault → Type 0
HasRisingTickets (RunFault.Host fault running) = Rise running
HasRisingTickets (RunFault.Record refusal) = Unit {0}
HasRisingTickets (RunFault.Mismatch place) = Unit {0}
HasRisingTickets RunFault.TooManyJobs = Unit {0}
HasRisingTickets RunFault.OutOfMemory = Unit {0}

-- a plan's fault is the host's only if the host failed
abbrev pub IsHostsPlanFault : List Entry → List Entry → PlanFault → Type 0
IsHostsPlanFault before after (PlanFault.Run fault) = IsHostsFault before after fault
IsHostsPlanFault before after (PlanFault.Failed place cause) = Unit {0}

-- the log has this command, refused so
pub record HasRefused (lines : List Line) (command : Command) (refusal : RecordRefusal) : Type 0 where
  pub key : List ℕ
  pub there : Contains lines (record { command = command; key = key; answer = Err refusal })

-- the record refused so to look a job up; or it gave a row that isn't one of the job's tool, which is R1 (`faults_came_of_answers` of run_rules)
pub data IsToldOfFind (lines : List Line) (refusal : RecordRefusal) : Type 0 where
  refused : HasRefused lines Command.Find refusal → IsToldOfFind lines refusal
  unsound : (key : List ℕ) → refusal ≡ NotARecord → Contains lines (record { command = Command.Find; key = key; answer = Ok tt }) → IsToldOfFind lines refusal

abbrev pub FaultHasLine : List Line → RunFault → Type 0
FaultHasLine lines (RunFault.Record refusal) = IsToldOfFind lines refusal
FaultHasLine lines (RunFault.Host fault running) = Unit {0}
FaultHasLine lines (RunFault.Mismatch place) = Unit {0}
FaultHasLine lines RunFault.TooManyJobs = Unit {0}
FaultHasLine lines RunFault.OutOfMemory = Unit {0}

abbrev pub PlanFaultHasLine : List Line → PlanFault → Type 0
PlanFaultHasLine lines (PlanFault.Run fault) = FaultHasLine lines fault
PlanFaultHasLine lines (PlanFault.Failed place cause) = Unit {0}

abbrev pub KindHasLine : List Line → NoteKind → Type 0
KindHasLine lines (NoteKind.Put refusal) = HasRefused lines Command.Put refusal
KindHasLine lines (NoteKind.Drop refusal) = HasRefused lines Command.DropArchive refusal
KindHasLine lines (NoteKind.Touch refusal) = HasRefused lines Command.Touch refusal
KindHasLine lines (NoteKind.Store fault) = Unit {0}
KindHasLine lines (NoteKind.Discard fault) = Unit {0}
KindHasLine lines (NoteKind.Late fault) = Unit {0}

-- what a run reports of its record has its line: its fault, and each note
abbrev pub ReportHasLines : List Line → Result Report RunFault → Type 0
ReportHasLines lines (Ok report) = (note : Note) → Contains report.notes note → KindHasLine lines note.kind
ReportHasLines lines (Err fault) = FaultHasLine lines fault

-- the record's log gained the lines of all that is reported of it
pub record BlamesRecord (before after : List Line) (result : Result Report RunFault) : Type 0 where
  pub gained : List Line
  pub logged : after ≡ before ++ gained
  pub told : ReportHasLines gained result

pub record PlanBlamesRecord (before after : List Line) (fault : PlanFault) : Type 0 where
  pub gained : List Line
  pub logged : after ≡ before ++ gained
  pub told : PlanFaultHasLine gained fault
