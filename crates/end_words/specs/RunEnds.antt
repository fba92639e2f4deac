-- How the report of a run ends the program.
use Rattle.std.specs.Prelude.{ℕ, List, Result, Ok, Err}
use Rattle.serde_json.specs.Written.{compact_text}
use Rattle.cwl_value.specs.Json.{json_of}
use Rattle.cwl_value.specs.Places.{job_text}
use Rattle.cwl_value.specs.declared.value.Value.TheVariants as values
use Rattle.cwl_value.specs.declared.place.Segment.{Segment}
use Rattle.proc_host.specs.declared.call.Entry.{Entry}
use Rattle.run_rules.specs.declared.outcome.Outcome.{Outcome}
use Rattle.run_rules.specs.declared.outcome.Outcome.TheVariants as outcomes
use Rattle.run_rules.specs.declared.outcome.Report.{Report}
use Rattle.run_rules.specs.declared.outcome.RunFault.{RunFault}
use Rattle.run_rules.specs.declared.outcome.RunFault.TheVariants as run_faults
use Rattle.program_words.specs.Visible.{visible}
use Rattle.end_words.specs.FailedCalls.{failed_on}
use Rattle.end_words.specs.declared.exit.Exit.{Exit}
use Rattle.end_words.specs.declared.exit.Exit.TheVariants as exits
use Rattle.end_words.specs.declared.exit.Fault.TheVariants as faults

-- the place of a job as JSON text, as `"main/step[0]"`, where what a terminal would not show is escaped
abbrev pub place_json : List Segment → List ℕ
place_json place = visible (compact_text (json_of (values.Text (job_text place))))

-- the output object in one line, or which job failed and how
abbrev pub outcome_exit : Outcome → Exit
outcome_exit (outcomes.Success outputs) = exits.Output (compact_text (json_of outputs))
outcome_exit (outcomes.PermanentFail place cause) = exits.Permanent (place_json place) cause
outcome_exit (outcomes.TemporaryFail place) = exits.Temporary (place_json place)

-- a run that has no outcome is a fault; of the host's one it is told what the call was about, of a mismatch which job it was
abbrev pub fault_exit : (log : List Entry) → RunFault → Exit
fault_exit log (run_faults.Host fault running) = exits.Fault (faults.Host fault (failed_on log fault))
fault_exit log (run_faults.Record refusal) = exits.Fault (faults.Record refusal)
fault_exit log (run_faults.Mismatch place) = exits.Mismatch (place_json place)
fault_exit log run_faults.TooManyJobs = exits.Fault faults.TooManyJobs
fault_exit log run_faults.OutOfMemory = exits.Fault faults.OutOfMemory

abbrev pub run_exit : (log : List Entry) → Result Report RunFault → Exit
run_exit log (Ok report) = outcome_exit report.outcome
run_exit log (Err fault) = fault_exit log fault
