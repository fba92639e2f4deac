-- What a run sees of the record that it asks.
use Rattle.std.specs.Prelude.{◌≡◌, ℕ, [], List, Option}
use Rattle.job_rows.specs.Map.{RowMap}
use Rattle.job_rows.specs.Memory.{IsMapOf, MemoryState}
use Rattle.job_rows.specs.declared.record.Record.{Ghosts}
use Rattle.run_rules.specs.Recorded.{Line}

-- what was asked of it, whether what it is kept on has returned so far what was written to it, and which rows it holds
pub record Seen : Type 1 where
  pub lines : List Line
  pub IsSound : Type 0
  pub Holds : RowMap → Type 0

abbrev pub seen : {K : Type 0} → Ghosts K → K → Seen
seen rows kept = record { lines = rows.log kept; IsSound = rows.is_sound kept; Holds = rows.holds kept }

-- a record that is kept in memory alone
abbrev pub seen_memory : MemoryState → Seen
seen_memory memory = record { lines = memory.log; IsSound = Unit {0}; Holds = IsMapOf memory }

-- of which nothing was asked, and which has no row
abbrev pub new_memory : (budget : Option ℕ) → MemoryState
new_memory budget = record { rows = []; archives = []; budget = budget; log = [] }

-- nothing was asked of it in between, and its rows are as they were
pub record IsUnasked (old new : Seen) : Type 0 where
  pub lines : new.lines ≡ old.lines
  pub sound : new.IsSound → old.IsSound
  pub rows : (map : RowMap) → old.Holds map → new.Holds map
