-- How a host numbers the children that it starts.
use Rattle.std.specs.Prelude.{◌≡◌, ◌+◌, ◌≤◌, ℕ, List, Contains}
use Rattle.proc_host.specs.Log.{starts}
use Rattle.proc_host.specs.declared.call.Entry.{Entry}
use Rattle.proc_host.specs.declared.call.HostAnswer.{HostAnswer}
use Rattle.run_rules.specs.Blame.{Rise, given_tickets}
use Rattle.run_rules.specs.declared.request.Answer.{Answer}

-- a new child has the next number, where so many were started before
abbrev pub IsNumbered : ℕ → HostAnswer → Type 0
IsNumbered before (HostAnswer.Started ticket) = ticket ≡ before + 1
IsNumbered before answer = Unit {0}

abbrev pub NumbersNext : ℕ → Answer → Type 0
NumbersNext before (Answer.Host answer) = IsNumbered before answer
NumbersNext before (Answer.Record answer) = Unit {0}

-- the tickets rise, and none is above the number of starts, where there were so many before
pub record AreNumbered (before : ℕ) (entries : List Entry) : Type 0 where
  pub rising : Rise (given_tickets entries)
  pub within : (ticket : ℕ) → Contains (given_tickets entries) ticket → ticket ≤ before + starts entries
