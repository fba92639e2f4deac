-- The log of a host that fails once: its own entry stands among those of the host that it passes calls on to.
use Rattle.std.specs.Prelude.{ℕ, ◌≤◌, List, ◌∷◌, ◌++◌, Option, Some, None, length, take, drop}
use Rattle.test_hosts.specs.declared.lost.Lost.{Lost}
use Rattle.proc_host.specs.declared.call.Entry.{Entry}
use Rattle.proc_host.specs.declared.call.HostAnswer.TheVariants.{Failed}

-- the entry of the call that failed
abbrev pub entry_of : Lost → Entry
entry_of lost = record { request = lost.request; answer = Failed lost.fault }

-- the entries of the calls that were passed on, and that of the call that failed where it was asked
abbrev pub told : Option Lost → List Entry → List Entry
told None passed = passed
told (Some lost) passed = take lost.at passed ++ entry_of lost ∷ drop lost.at passed

-- a call that failed has no more entries before it than were passed on
abbrev pub IsWithin : Option Lost → List Entry → Type 0
IsWithin None passed = Unit {0}
IsWithin (Some lost) passed = lost.at ≤ length passed
