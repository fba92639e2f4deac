-- What a record's log gains by a run.
use Rattle.std.specs.Prelude.{ℕ, List, Option, Some, None, Result, Ok, Err, filter_map}
use Rattle.job_rows.specs.declared.log.Command.{Command}
use Rattle.job_rows.specs.declared.log.Entry.{Entry}
use Rattle.job_rows.specs.declared.refusal.RecordRefusal.{RecordRefusal}
use Rattle.run_rules.specs.declared.request.Answer.{Answer}
use Rattle.run_rules.specs.declared.request.Pair.{Pair}
use Rattle.run_rules.specs.declared.request.RecordAnswer.{RecordAnswer}
use Rattle.run_rules.specs.declared.request.RecordRequest.{RecordRequest}
use Rattle.run_rules.specs.declared.request.Request.{Request}

-- a line of a record's log
abbrev pub Line : Type 0
Line = Entry

abbrev pub command_of : RecordRequest → Command
command_of (RecordRequest.Find key) = Command.Find
command_of (RecordRequest.Put row) = Command.Put
command_of (RecordRequest.Touch key) = Command.Touch
command_of (RecordRequest.DropArchive key) = Command.DropArchive

-- the key that a command is about
abbrev pub key_of : RecordRequest → List ℕ
key_of (RecordRequest.Find key) = key
key_of (RecordRequest.Put row) = row.key
key_of (RecordRequest.Touch key) = key
key_of (RecordRequest.DropArchive key) = key

-- done, or its refusal
abbrev pub told_by : RecordAnswer → Result (Unit {0}) RecordRefusal
told_by (RecordAnswer.Found row) = Ok tt
told_by (RecordAnswer.Put gone) = Ok tt
told_by RecordAnswer.Done = Ok tt
told_by (RecordAnswer.Refused refusal) = Err refusal

abbrev pub line_for : RecordRequest → RecordAnswer → Line
line_for request answer = record { command = command_of request; key = key_of request; answer = told_by answer }

-- a command as the record's log has it, without the place of its job
abbrev pub command_entry : Request → Answer → Option Line
command_entry (Request.Record place request) (Answer.Record answer) = Some (line_for request answer)
command_entry request answer = None

-- what a record's log gains by these pairs
abbrev pub lines_of : List Pair → List Line
lines_of t = filter_map (λ (pair : Pair). command_entry pair.request pair.answer) t
