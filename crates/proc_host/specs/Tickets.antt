-- The tickets of the children that run.
use Rattle.std.specs.Prelude.{◌≡◌, ◌≤◌, ℕ, ◌==◌, not, List, [], ◌∷◌, ◌++◌, filter, Result, Ok, Err}
use Rattle.proc_host.specs.declared.call.HostError.{HostError}

-- the tickets that run, without this one
abbrev pub without : ℕ → List ℕ → List ℕ
without ticket running = filter (λ n. not (n == ticket)) running

-- no child runs under this ticket
abbrev pub IsFresh : ℕ → List ℕ → Type 0
IsFresh ticket running = without ticket running ≡ running

-- a start that succeeds adds its ticket
abbrev pub running_after : List ℕ → Result ℕ HostError → List ℕ
running_after running (Ok ticket) = running ++ ticket ∷ []
running_after running (Err error) = running

-- no ticket of the list is above the last one
abbrev pub AllUpTo : ℕ → List ℕ → Type 0
AllUpTo last [] = Unit {0}
AllUpTo last (n ∷ ns) = (n ≤ last) × AllUpTo last ns
