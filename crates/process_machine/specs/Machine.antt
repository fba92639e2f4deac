-- What contracts see of a `Machine`: its log, the tickets that were started and not closed yet, the paths at which no delivery puts
-- anything, and the words that stand before each command.
use Rattle.std.specs.Prelude.{◌≡◌, ℕ, List}
use Rattle.proc_host.specs.declared.call.Entry.{Entry}
use Rattle.proc_host.specs.Log.{starts}
use Rattle.proc_host.specs.Tickets.{AllUpTo}

pub record MachineState : Type 0 where
  pub log : List Entry
  pub running : List ℕ
  pub guarded : List (List ℕ)
  pub launcher : List (List ℕ)

-- the last ticket's number is the number of starts, and no ticket is above it
pub record IsInStep (log : List Entry) (running : List ℕ) (started : ℕ) : Type 0 where
  pub counted : started ≡ starts log
  pub numbered : AllUpTo started running
