-- What the logs of a host and of a record gain by a run, and what it reports.
use Rattle.std.specs.Prelude.{◌≡◌, List, [], ◌∷◌, ◌++◌, Option, Some, None, Result, Ok, Err, filter_map, option_map}
use Rattle.document_links.specs.declared.process.Process.{Process}
use Rattle.proc_host.specs.declared.call.Entry.{Entry}
use Rattle.proc_host.specs.declared.call.HostFault.{HostFault}
use Rattle.proc_host.specs.declared.call.HostRequest.{HostRequest}
use Rattle.run_rules.specs.declared.request.Answer.{Answer}
use Rattle.run_rules.specs.declared.request.Request.{Request}
use Rattle.run_rules.specs.declared.request.Pair.{Pair}
use Rattle.run_rules.specs.declared.outcome.Outcome.{Outcome}
use Rattle.run_rules.specs.declared.outcome.Note.{Note}
use Rattle.run_rules.specs.declared.outcome.NoteKind.{NoteKind}
use Rattle.run_rules.specs.declared.outcome.PlanNote.{PlanNote}
use Rattle.run_rules.specs.declared.outcome.Report.{Report}
use Rattle.run_rules.specs.declared.outcome.RunFault.{RunFault}
use Rattle.run_rules.specs.declared.setting.Options.{Options}
use Rattle.run_rules.specs.declared.setting.Setting.{Setting}
use Rattle.job_graph.specs.Eval.{World, eval}
use Rattle.job_graph.specs.Words.{Fields}
use Rattle.cwl_value.specs.Erased.{erased}
use Rattle.input_files.specs.Measured.{Measures}
use Rattle.run_rules.specs.Delivered.{located, object_of}
use Rattle.run_rules.specs.Events.{Event, put_failed, store_failed, Progress, measures, drop_failed, host_failed_late, touch_failed, discard_failed}
use Rattle.run_rules.specs.End.{End, succeeds_with, fails_permanently, fails_temporarily, beyond_limits, ended_by_host, mismatches, ended_by_record}
use Rattle.run_rules.specs.Plans.{PlansSoFar}
use Rattle.run_rules.specs.Recorded.{Line, lines_of}
use Rattle.run_rules.specs.Run.{IsRunSoFar, IsRun}
use Rattle.run_rules.specs.Honest.{IsHonest}
use Rattle.job_key.specs.Key.{key}

-- a call as the host's log has it, without the place of its job
abbrev pub call_entry : Request → Answer → Option Entry
call_entry (Request.Host place request) (Answer.Host answer) = Some (record { request = request; answer = answer })
call_entry request answer = None

abbrev pub entry_of : Pair → Option Entry
entry_of pair = call_entry pair.request pair.answer

-- what a host's log gains by these pairs
abbrev pub entries_of : List Pair → List Entry
entries_of t = filter_map entry_of t

-- what came of the process by an end, or why nothing did
abbrev pub outcome_of : End → Result Outcome RunFault
outcome_of (succeeds_with outputs delivered) = Ok (Outcome.Success (located delivered))
outcome_of (fails_permanently place cause) = Ok (Outcome.PermanentFail place cause)
outcome_of (fails_temporarily place) = Ok (Outcome.TemporaryFail place)
outcome_of beyond_limits = Err RunFault.TooManyJobs
outcome_of (ended_by_host fault running) = Err (RunFault.Host fault running)
outcome_of (mismatches place) = Err (RunFault.Mismatch place)
outcome_of (ended_by_record refusal) = Err (RunFault.Record refusal)

-- what went wrong by an event without changing the end
abbrev pub note_of : Event → Option Note
note_of (put_failed place refusal) = Some (record { place = place; kind = NoteKind.Put refusal })
note_of (drop_failed place refusal) = Some (record { place = place; kind = NoteKind.Drop refusal })
note_of (touch_failed place refusal) = Some (record { place = place; kind = NoteKind.Touch refusal })
note_of (discard_failed place) = Some (record { place = place; kind = NoteKind.Discard HostFault.Discard })
note_of (store_failed place) = Some (record { place = place; kind = NoteKind.Store HostFault.Store })
note_of (host_failed_late place fault) = Some (record { place = place; kind = NoteKind.Late fault })
note_of _ = None

abbrev pub notes_of : List Event → List Note
notes_of es = filter_map note_of es

-- the report of what came of it, with these notes of its plans and of what went wrong
abbrev pub reported : List PlanNote → List Note → Result Outcome RunFault → Result Report RunFault
reported plans notes (Ok outcome) = Ok (record { outcome = outcome; plans = plans; notes = notes })
reported plans notes (Err fault) = Err fault

-- what is reported of an end, after these plans and events
abbrev pub report_of : List PlanNote → List Event → End → Result Report RunFault
report_of plans es end = reported plans (notes_of es) (outcome_of end)

-- what an outcome says of computing every job, where the input files were measured so: a success is its value, both without
-- places, and where a job fails permanently there is none
abbrev pub IsRightOutcome : Setting → Measures → World → Outcome → Type 0
IsRightOutcome setting measures world (Outcome.Success value) =
    option_map object_of (eval key world setting.process setting.inputs measures) ≡ Some (erased value)
IsRightOutcome setting measures world (Outcome.PermanentFail place cause) = eval key world setting.process setting.inputs measures ≡ None
IsRightOutcome setting measures world (Outcome.TemporaryFail place) = Unit {0}

abbrev pub IsRight : Setting → Measures → World → Result Report RunFault → Type 0
IsRight setting measures world (Ok report) = IsRightOutcome setting measures world report.outcome
IsRight setting measures world (Err (RunFault.Mismatch place)) = ⊥
IsRight setting measures world (Err fault) = Unit {0}

-- only the ends of children were waited for
abbrev pub IsWait : Pair → Type 0
IsWait pair = pair.request ≡ Request.Host [] HostRequest.Collect

abbrev pub AreWaits : List Pair → Type 0
AreWaits [] = Unit {0}
AreWaits (pair ∷ more) = IsWait pair × AreWaits more

-- how a transcript is reported
pub data Concludes (setting : Setting) (t : List Pair) : Result Report RunFault → Type 0 where
  -- out of memory, so there may be no end; it is a valid prefix of a run, and then the children in flight were waited for
  lost : (front waits : List Pair) (f : Progress) (plans : PlansSoFar) → IsRunSoFar setting front f plans → AreWaits waits → t ≡ front ++ waits →
      Concludes setting t (Err RunFault.OutOfMemory)
  -- it is a whole run, its end is reported, and in each world where it is honest the report is right
  whole : (end : End) (run : IsRun setting t end) →
      ((world : World) → IsHonest setting world run.happened.events → IsRight setting (measures run.happened.events) world (report_of run.plans.notes run.happened.events end)) →
      Concludes setting t (report_of run.plans.notes run.happened.events end)

-- the logs of a host and of a record gained these entries by a run of this process, which is reported so
pub record GainsRun (process : Process) (inputs : Fields) (options : Options) (gained : List Entry) (lines : List Line) (result : Result Report RunFault) : Type 0 where
  pub transcript : List Pair
  pub entries : entries_of transcript ≡ gained
  pub commands : lines_of transcript ≡ lines
  pub concluded : Concludes (record { process = process; inputs = inputs; options = options }) transcript result
