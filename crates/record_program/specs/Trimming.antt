-- Which archives a budget has no room for, and what is left of a record without them: all of its rows.
use Rattle.std.specs.Prelude.{◌≡◌, ℕ, ◌≤◌, if◌then◌else◌, List, [], take, drop, Some, option_map, Result, Ok, Err, IsTrue}
use Rattle.sqlite.specs.State.{State}
use Rattle.sqlite.specs.Store.{Ghosts}
use Rattle.sqlite.specs.Held.{Held, state}
use Rattle.job_rows.specs.declared.archive.Archive.{Archive}
use Rattle.job_rows.specs.Map.{has_archive, keys_in, lost_count}
use Rattle.job_record.specs.declared.fault.RecordFault.{RecordFault}
use Rattle.job_record.specs.declared.fault.RecordFault.TheVariants.{NotARecord, WrongVersion, NoRow, Store, UsesSpent, OutOfMemory}
use Rattle.job_record.specs.Map.{KeyMap, IsRecordOf, unarchived}
use Rattle.record_program.specs.declared.ending.Ending.{Ending}
use Rattle.record_program.specs.declared.ending.Ending.TheVariants.{Record}
use Rattle.record_program.specs.Forgetting.{Shows}

-- the map without its first archives, so many of them: each row stays, and those of these archives have the flag at 0
abbrev pub without_first : ℕ → KeyMap → KeyMap
without_first count map = record map {
  rows = λ key. if has_archive key (take count map.archives) then option_map unarchived (map.rows key) else map.rows key;
  archives = drop count map.archives;
}

-- how many have to go, the oldest last use first, until the rest is within the budget
abbrev pub lost_in : (budget : ℕ) → KeyMap → ℕ
lost_in budget map = lost_count (Some budget) map.archives

-- their keys
abbrev pub lost_keys : (budget : ℕ) → List Archive → List (List ℕ)
lost_keys budget archives = keys_in (take (lost_count (Some budget) archives) archives)

-- at most so many of the first archives are gone, and nothing else is. Nothing is said once a failure of the store has shut it
abbrev pub LacksFirst : ℕ → KeyMap → State → Type 0
LacksFirst most map new = IsTrue new.is_open → (count : ℕ) × (count ≤ most) × IsRecordOf new (without_first count map)

-- those that the budget has no room for are gone, and their keys are known
abbrev pub Trims : (budget : ℕ) → KeyMap → State → Result (List (List ℕ)) RecordFault → Type 0
Trims budget map new (Ok lost) = (lost ≡ lost_keys budget map.archives) × IsRecordOf new (without_first (lost_in budget map) map)
Trims budget map new (Err NotARecord) = ⊥
Trims budget map new (Err WrongVersion) = ⊥
Trims budget map new (Err NoRow) = ⊥
Trims budget map new (Err (Store e)) = LacksFirst (lost_in budget map) map new
Trims budget map new (Err UsesSpent) = ⊥
Trims budget map new (Err OutOfMemory) = LacksFirst (lost_in budget map) map new

-- they are gone, and the rows are shown, or a refusal is told, and no key is said to be without its archive
pub data TrimsFirst {S : Type 0} (g : Ghosts S) (map : KeyMap) (new : Held S) (budget : ℕ) : Ending → (lost : List (List ℕ)) → Type 0 where
  shows : (left : Held S) (ending : Ending) (lost : List (List ℕ)) → Trims budget map (state g left) (Ok lost) → Shows (state g left) (state g new) ending →
      TrimsFirst g map new budget ending lost
  refuses : (fault : RecordFault) → Trims budget map (state g new) (Err fault) → TrimsFirst g map new budget (Record fault) []
