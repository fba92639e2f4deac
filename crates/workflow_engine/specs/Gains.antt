-- What the logs of a host and of a record gain by a question, and by a whole run.
use Rattle.std.specs.Prelude.{◌≡◌, ℕ, List, [], ◌∷◌, ◌++◌, Option, Some, None, Result, Ok, Err, alloc_error}
use Rattle.job_rows.specs.declared.refusal.RecordError.{RecordError}
use Rattle.job_rows.specs.declared.refusal.RecordError.TheVariants.{Refused, OutOfMemory}
use Rattle.job_rows.specs.declared.row.Row.{Row}
use Rattle.std.specs.declared.alloc.AllocError.{AllocError}
use Rattle.document_links.specs.declared.process.Process.{Process}
use Rattle.proc_host.specs.declared.call.HostAnswer.{HostAnswer}
use Rattle.proc_host.specs.declared.call.HostRequest.{HostRequest}
use Rattle.proc_host.specs.declared.call.Entry.{Entry}
use Rattle.run_rules.specs.declared.outcome.Report.{Report}
use Rattle.run_rules.specs.declared.request.Answer.{Answer}
use Rattle.run_rules.specs.declared.request.RecordAnswer.{RecordAnswer}
use Rattle.run_rules.specs.declared.request.RecordRequest.{RecordRequest}
use Rattle.run_rules.specs.declared.request.Request.{Request}
use Rattle.run_rules.specs.declared.outcome.RunFault.{RunFault}
use Rattle.run_rules.specs.declared.setting.Options.{Options}
use Rattle.run_rules.specs.Blame.{Rise, given_tickets}
use Rattle.run_rules.specs.Recorded.{Line, line_for, lines_of}
use Rattle.run_rules.specs.Reports.{GainsRun, entries_of}
use Rattle.job_graph.specs.Words.{Fields}

-- a fault is an answer too; out of memory is none
abbrev pub answered : Option HostAnswer → Result HostAnswer AllocError
answered (Some answer) = Ok answer
answered None = Err alloc_error

-- a call adds its entry, or none where it ran out of memory
abbrev pub gained_by : HostRequest → Result HostAnswer AllocError → List Entry
gained_by request (Ok answer) = record { request = request; answer = answer } ∷ []
gained_by request (Err error) = []

-- what a record answered: its refusal is an answer too
abbrev pub refused_by : RecordError → Result RecordAnswer AllocError
refused_by (Refused refusal) = Ok (RecordAnswer.Refused refusal)
refused_by OutOfMemory = Err alloc_error

abbrev pub found_by : Result (Option Row) RecordError → Result RecordAnswer AllocError
found_by (Ok row) = Ok (RecordAnswer.Found row)
found_by (Err error) = refused_by error

abbrev pub kept_by : Result (List (List ℕ)) RecordError → Result RecordAnswer AllocError
kept_by (Ok gone) = Ok (RecordAnswer.Put gone)
kept_by (Err error) = refused_by error

abbrev pub done_by : Result (Unit {0}) RecordError → Result RecordAnswer AllocError
done_by (Ok done) = Ok RecordAnswer.Done
done_by (Err error) = refused_by error

-- a command adds its line, or none where it ran out of memory
abbrev pub lines_by : RecordRequest → Result RecordAnswer AllocError → List Line
lines_by request (Ok answer) = line_for request answer ∷ []
lines_by request (Err error) = []

-- what each log gains by what a run asks next
abbrev pub entries_by : Request → Result Answer AllocError → List Entry
entries_by asks (Ok answer) = entries_of (record { request = asks; answer = answer } ∷ [])
entries_by asks (Err error) = []

abbrev pub commands_by : Request → Result Answer AllocError → List Line
commands_by asks (Ok answer) = lines_of (record { request = asks; answer = answer } ∷ [])
commands_by asks (Err error) = []

-- The logs of a host and of a record gained a run of this process, which is reported so. The tickets that were given rise, so no place was started
-- more often than once and its retries (`no_place_is_started_too_often` of run_rules).
pub record RunsOn (before after : List Entry) (lines_before lines_after : List Line) (process : Process) (inputs : Fields) (options : Options)
    (result : Result Report RunFault) : Type 0 where
  pub gained : List Entry
  pub logged : after ≡ before ++ gained
  pub lines : List Line
  pub recorded : lines_after ≡ lines_before ++ lines
  pub rising : Rise (given_tickets gained)
  pub run : GainsRun process inputs options gained lines result
