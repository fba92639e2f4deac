-- What the machine may wait for.
use Rattle.std.specs.Prelude.{Ok, ℕ, Bool, true, false, List, [], ◌∷◌, Result, Err}
use Rattle.cwl_value.specs.declared.value.Value.{Value}
use Rattle.proc_host.specs.declared.call.HostRequest.{HostRequest}
use Rattle.run_rules.specs.declared.outcome.Cause.{Cause}
use Rattle.run_rules.specs.declared.outcome.Outcome.{Outcome}
use Rattle.run_rules.specs.declared.outcome.RunFault.{RunFault}
use Rattle.run_rules.specs.declared.request.Request.{Request}
use Rattle.job_graph.specs.Words.{Name, JobPlace}
use Rattle.run_core.specs.declared.state.JobPhase.{JobPhase}
use Rattle.run_core.specs.declared.state.Phase.{Phase}
use Rattle.run_core.specs.declared.state.Turn.{Turn}
use Rattle.run_core.specs.inner.Course.{Past}
use Rattle.job_rows.specs.declared.row.Row.{Row}
use Rattle.run_rules.specs.declared.request.RecordRequest.{RecordRequest}

abbrev pub root_asks : HostRequest → Request
root_asks call = Request.Host [] call

abbrev pub waits : HostRequest → Phase → Turn
waits call phase = record { asks = root_asks call; phase = phase }

abbrev pub collects : Turn
collects = waits HostRequest.Collect Phase.Collecting

abbrev pub ends : Result Outcome RunFault → Turn
ends outcome = record { asks = Request.Finished; phase = Phase.Ended outcome }

abbrev pub IsEnded : Phase → Type 0
IsEnded (Phase.Ended outcome) = Unit {0}
IsEnded phase = ⊥

abbrev pub succeeds : Value → Turn
succeeds outputs = ends (Ok (Outcome.Success outputs))

abbrev pub works : JobPlace → ℕ → HostRequest → JobPhase → Turn
works place number call phase = record { asks = Request.Host place call; phase = Phase.Working number phase }

-- the record is told this for the job at a place
abbrev pub tells_record : JobPlace → RecordRequest → Phase → Turn
tells_record place command phase = record { asks = Request.Record place command; phase = phase }

-- the row of the job at a place is put
abbrev pub puts : JobPlace → ℕ → Row → Turn
puts place number row = tells_record place (RecordRequest.Put row) (Phase.Putting number)

-- what the row of the job at a place lists, in this folder, is archived; then the row is put
abbrev pub stores : JobPlace → ℕ → Name → Row → Turn
stores place number folder row = record { asks = Request.Host place (HostRequest.Store row.key folder row.files); phase = Phase.Storing number row }

-- the archive of this key is discarded for the job at a place, and then those of these, the last first
abbrev pub discards : JobPlace → ℕ → Name → List Name → Turn
discards place number key left = record { asks = Request.Host place (HostRequest.Discard key); phase = Phase.Discarding number left }

-- the row of a job is kept, where an archive is kept or not
abbrev pub keeps_row : Bool → Name → JobPlace → ℕ → Row → Turn
keeps_row true folder place number row = stores place number folder row
keeps_row false folder place number row = puts place number row

abbrev pub permanent : JobPlace → Cause → Result Outcome RunFault
permanent place cause = Ok (Outcome.PermanentFail place cause)

-- memory ran out while these children are in flight
abbrev pub lost_with : List ℕ → Turn
lost_with [] = ends (Err RunFault.OutOfMemory)
lost_with (ticket ∷ tickets) = waits HostRequest.Collect Phase.Draining

abbrev pub lost_after : Past → Turn
lost_after past = lost_with past.tickets

-- it ran out outside of the machine: where children were waited for alone already, nothing more is asked
abbrev pub given_up : Past → Phase → Turn
given_up past Phase.Draining = ends (Err RunFault.OutOfMemory)
given_up past phase = lost_after past
