-- What the look at the tables leaves of a database.
use Rattle.std.specs.Prelude.{◌⊎◌}
use Rattle.sqlite.specs.State.{State, HasCleanDisk, IsUnchanged}
use Rattle.job_record.specs.Map.{IsRecord}
use Rattle.job_record.specs.OpenMap.{IsBlank, IsFirst}

-- a record of either version, or a database in which there is room for one
abbrev pub MayOpen : State → Type 0
MayOpen s = IsBlank s ⊎ (IsFirst s ⊎ IsRecord s)

-- is as it was
abbrev pub Spares : State → State → Type 0
Spares old new = HasCleanDisk new → HasCleanDisk old × (MayOpen old → IsUnchanged old new)
