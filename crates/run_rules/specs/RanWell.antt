-- What a transcript tells of where a job's outputs came from.
use Rattle.std.specs.Prelude.{◌≡◌, ℕ, List, [], Some, Contains}
use Rattle.command_line.specs.declared.launch.Launch.{Launch}
use Rattle.cwl_process.specs.declared.tool.ExitCodes.{ExitCodes}
use Rattle.proc_host.specs.declared.call.HostAnswer.{HostAnswer}
use Rattle.proc_host.specs.declared.call.HostRequest.{HostRequest}
use Rattle.proc_host.specs.declared.child.ChildEnd.{ChildEnd}
use Rattle.proc_host.specs.declared.child.ExitClass.{ExitClass}
use Rattle.proc_host.specs.ExitClass.{class_of}
use Rattle.job_rows.specs.declared.row.Row.{Row}
use Rattle.run_rules.specs.declared.request.Pair.{Pair}
use Rattle.run_rules.specs.declared.request.RecordAnswer.{RecordAnswer}
use Rattle.run_rules.specs.declared.request.RecordRequest.{RecordRequest}
use Rattle.job_graph.specs.Words.{JobPlace}
use Rattle.run_rules.specs.Steps.{call, command}

-- a child of the job at this place was started, and it ended well, as its tool's exit codes say
pub record RanWell (t : List Pair) (place : JobPlace) (codes : ExitCodes) : Type 0 where
  pub launch : Launch
  pub ending : ChildEnd
  pub started : Contains t (call place (HostRequest.Start launch) (HostAnswer.Started ending.ticket))
  pub ended : Contains t (call [] HostRequest.Collect (HostAnswer.Ended ending))
  pub well : class_of codes ending.code ≡ ExitClass.Success

-- the record had a row of the job at this place
pub record HadRow (t : List Pair) (place : JobPlace) : Type 0 where
  pub key : List ℕ
  pub row : Row
  pub found : Contains t (command place (RecordRequest.Find key) (RecordAnswer.Found (Some row)))

-- the outputs of the job at this place came from its child, or from the record
pub data HasOutputs (t : List Pair) (place : JobPlace) (codes : ExitCodes) : Type 0 where
  by_child : RanWell t place codes → HasOutputs t place codes
  by_record : HadRow t place → HasOutputs t place codes
