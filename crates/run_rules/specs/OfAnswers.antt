-- Which answers the faults of a run came of: those that it ends with, and those that it notes. No run invents one.
use Rattle.std.specs.Prelude.{◌≡◌, ℕ, List, ◌++◌, Some, Contains}
use Rattle.command_line.specs.declared.launch.Launch.{Launch}
use Rattle.job_graph.specs.Jobs.{Job}
use Rattle.job_graph.specs.Words.{JobPlace, Name}
use Rattle.job_reuse.specs.Sound.{IsSound}
use Rattle.job_rows.specs.declared.refusal.RecordRefusal.{RecordRefusal}
use Rattle.job_rows.specs.declared.refusal.RecordRefusal.TheVariants.{NotARecord}
use Rattle.job_rows.specs.declared.row.Row.{Row}
use Rattle.proc_host.specs.Answers.{fault_of}
use Rattle.proc_host.specs.declared.call.HostAnswer.{HostAnswer}
use Rattle.proc_host.specs.declared.call.HostFault.{HostFault}
use Rattle.proc_host.specs.declared.call.HostRequest.{HostRequest}
use Rattle.run_rules.specs.End.{End, ended_by_host, ended_by_record}
use Rattle.run_rules.specs.Events.{Event, job_at}
use Rattle.run_rules.specs.Scene.{Scene}
use Rattle.run_rules.specs.Steps.{call, command}
use Rattle.run_rules.specs.declared.outcome.Note.{Note}
use Rattle.run_rules.specs.declared.outcome.NoteKind.{NoteKind}
use Rattle.run_rules.specs.declared.request.Pair.{Pair}
use Rattle.run_rules.specs.declared.request.RecordAnswer.{RecordAnswer}
use Rattle.run_rules.specs.declared.request.RecordRequest.{RecordRequest}

-- a call for the job at this place failed so, by its own fault; a call for the whole run is one for the root
pub record CallFailed (t : List Pair) (place : JobPlace) (fault : HostFault) : Type 0 where
  pub request : HostRequest
  pub there : Contains t (call place request (HostAnswer.Failed fault))
  pub own : fault ≡ fault_of request

-- a child was started under this ticket
pub record WasStarted (t : List Pair) (ticket : ℕ) : Type 0 where
  pub place : JobPlace
  pub launch : Launch
  pub there : Contains t (call place (HostRequest.Start launch) (HostAnswer.Started ticket))

-- the record refused so to keep a row of the job at this place
pub record PutRefused (t : List Pair) (place : JobPlace) (refusal : RecordRefusal) : Type 0 where
  pub row : Row
  pub there : Contains t (command place (RecordRequest.Put row) (RecordAnswer.Refused refusal))

-- or to note that the archive of its row is gone
pub record DropRefused (t : List Pair) (place : JobPlace) (refusal : RecordRefusal) : Type 0 where
  pub key : Name
  pub there : Contains t (command place (RecordRequest.DropArchive key) (RecordAnswer.Refused refusal))

-- or to note that it was used
pub record TouchRefused (t : List Pair) (place : JobPlace) (refusal : RecordRefusal) : Type 0 where
  pub key : Name
  pub there : Contains t (command place (RecordRequest.Touch key) (RecordAnswer.Refused refusal))

-- The record refused so to look a job up, or, where the refusal is R1, it gave a row that isn't one of the tool of the job at that place, which was
-- known by the first of what happened.
pub data FindRefused (s : Scene) (t : List Pair) (es : List Event) (refusal : RecordRefusal) : Type 0 where
  was_refused : (place : JobPlace) (key : Name) → Contains t (command place (RecordRequest.Find key) (RecordAnswer.Refused refusal)) → FindRefused s t es refusal
  was_unsound : (place : JobPlace) (key : Name) (row : Row) (job : Job) (first later : List Event) → refusal ≡ NotARecord →
      Contains t (command place (RecordRequest.Find key) (RecordAnswer.Found (Some row))) → es ≡ first ++ later → job_at s first place ≡ Some job →
      (IsSound job.tool row → ⊥) → FindRefused s t es refusal

-- what a note of this kind, for the job at a place, came of
abbrev pub KindIsOf : List Pair → JobPlace → NoteKind → Type 0
KindIsOf t place (NoteKind.Put refusal) = PutRefused t place refusal
KindIsOf t place (NoteKind.Store fault) = CallFailed t place fault
KindIsOf t place (NoteKind.Drop refusal) = DropRefused t place refusal
KindIsOf t place (NoteKind.Touch refusal) = TouchRefused t place refusal
KindIsOf t place (NoteKind.Discard fault) = CallFailed t place fault
KindIsOf t place (NoteKind.Late fault) = CallFailed t place fault

abbrev pub NoteIsOf : List Pair → Note → Type 0
NoteIsOf t note = KindIsOf t note.place note.kind

-- what an end by a fault came of: a call failed by its own fault, and the children that nobody waits for any more were started
pub record HostFailed (t : List Pair) (fault : HostFault) (running : List ℕ) : Type 0 where
  pub place : JobPlace
  pub request : HostRequest
  pub there : Contains t (call place request (HostAnswer.Failed fault))
  pub own : fault ≡ fault_of request
  pub started : (ticket : ℕ) → Contains running ticket → WasStarted t ticket

abbrev pub EndIsOf : Scene → List Pair → List Event → End → Type 0
EndIsOf s t es (ended_by_record refusal) = FindRefused s t es refusal
EndIsOf s t es (ended_by_host fault running) = HostFailed t fault running
EndIsOf s t es end = Unit {0}
