-- What a run may say of its host.
use Rattle.std.specs.Prelude.{ℕ, ◌<◌, List, Option, Some, None, AllPairs, Contains, filter_map, map}
use Rattle.proc_host.specs.declared.call.HostAnswer.{HostAnswer}
use Rattle.proc_host.specs.declared.call.HostFault.{HostFault}
use Rattle.proc_host.specs.declared.call.Entry.{Entry}
use Rattle.run_rules.specs.declared.outcome.RunFault.{RunFault}

-- what a host answered, call by call
abbrev pub logged_answers : List Entry → List HostAnswer
logged_answers entries = map (λ entry. entry.answer) entries

abbrev pub ticket_in : HostAnswer → Option ℕ
ticket_in (HostAnswer.Started ticket) = Some ticket
ticket_in _ = None

-- the tickets that were given, in the order of the starts
abbrev pub given_tickets : List Entry → List ℕ
given_tickets entries = filter_map ticket_in (logged_answers entries)

-- each is below all later ones
abbrev pub Rise : List ℕ → Type 0
Rise tickets = AllPairs (λ one later. one < later) tickets

-- these children were started; and their tickets rise where those that were given do, as they do of a host, which counts its starts
pub record WereStarted (entries : List Entry) (tickets : List ℕ) : Type 0 where
  pub each : (ticket : ℕ) → Contains tickets ticket → Contains (logged_answers entries) (HostAnswer.Started ticket)
  pub rising : Rise (given_tickets entries) → Rise tickets

-- a call failed with this very fault, and the children that nobody waits for any more were started
pub record IsToBlame (entries : List Entry) (fault : HostFault) (running : List ℕ) : Type 0 where
  pub failed : Contains (logged_answers entries) (HostAnswer.Failed fault)
  pub started : WereStarted entries running

-- a fault is the host's only where the host is to blame
abbrev pub BlamesRightly : List Entry → RunFault → Type 0
BlamesRightly entries (RunFault.Host fault running) = IsToBlame entries fault running
BlamesRightly entries (RunFault.Record refusal) = Unit {0}
BlamesRightly entries (RunFault.Mismatch place) = Unit {0}
BlamesRightly entries RunFault.TooManyJobs = Unit {0}
BlamesRightly entries RunFault.OutOfMemory = Unit {0}
