-- What `record` shows of a record, and which rows `--forget` takes out of it: those whose key has the sum, and no others.
use Rattle.std.specs.Prelude.{◌≡◌, ℕ, not, if◌then◌else◌, List, [], ◌∷◌, filter, flat_map, Some, None, Result, Ok, Err, IsTrue, IsUtf8}
use Rattle.sqlite.specs.Order.{Row as Columns}
use Rattle.sqlite.specs.State.{State, HasCleanDisk}
use Rattle.sqlite.specs.Store.{Ghosts}
use Rattle.sqlite.specs.Held.{Held, state}
use Rattle.sqlite_rules.specs.Lists.{Has}
use Rattle.job_rows.specs.declared.row.Row.{Row}
use Rattle.job_record.specs.declared.fault.RecordFault.{RecordFault}
use Rattle.job_record.specs.declared.fault.RecordFault.TheVariants.{NotARecord, WrongVersion, NoRow, Store, UsesSpent, OutOfMemory}
use Rattle.job_record.specs.Map.{KeyMap, IsRecord, IsRecordOf, Stands, ListsIn, changed_by, forgets}
use Rattle.job_record.specs.OpenMap.{IsFirst}
use Rattle.job_record.specs.Seen.{SeesIn}
use Rattle.record_program.specs.declared.ending.Ending.{Ending}
use Rattle.record_program.specs.declared.ending.Ending.TheVariants.{Rows, Input, Record}
use Rattle.record_program.specs.Lines.{line_of, has_sum}

-- the map without the rows whose key has the sum, and without their archives
abbrev pub without_sum : List ℕ → KeyMap → KeyMap
without_sum sum map = record map { rows = λ key. if has_sum sum key then None else map.rows key; archives = filter (λ archive. not (has_sum sum archive.key)) map.archives }

-- the map once these keys were forgotten, one after another
abbrev pub forgotten : List (List ℕ) → KeyMap → KeyMap
forgotten [] map = map
forgotten (key ∷ keys) map = forgotten keys (changed_by (forgets key) map)

-- a row of the map has the sum
abbrev pub HasRowWith : List ℕ → KeyMap → Type 0
HasRowWith sum map = (key : List ℕ) × (c : Columns) × (map.rows key ≡ Some c) × IsTrue (has_sum sum key)

-- a row of the map has a key that is no text in UTF-8
abbrev pub HasOddKey : KeyMap → Type 0
HasOddKey map = (key : List ℕ) × (c : Columns) × (map.rows key ≡ Some c) × (¬ IsUtf8 key)

-- Rows with the sum may be gone, and no others are. Nothing is said once a failure of the store has shut it.
abbrev pub LacksAtMost : List ℕ → KeyMap → State → Type 0
LacksAtMost sum map new = IsTrue new.is_open → (gone : List (List ℕ)) × ((key : List ℕ) → Has gone key → IsTrue (has_sum sum key)) × IsRecordOf new (forgotten gone map)

-- the rows with the sum are gone, of which there was one at least; R3 says that there was none
abbrev pub Forgets : List ℕ → KeyMap → State → Result (Unit {0}) RecordFault → Type 0
Forgets sum map new (Ok done) = HasRowWith sum map × IsRecordOf new (without_sum sum map)
Forgets sum map new (Err NoRow) = (¬ HasRowWith sum map) × IsRecordOf new map
Forgets sum map new (Err NotARecord) = HasOddKey map × IsRecordOf new map
Forgets sum map new (Err WrongVersion) = ⊥
Forgets sum map new (Err (Store e)) = LacksAtMost sum map new
Forgets sum map new (Err UsesSpent) = ⊥
Forgets sum map new (Err OutOfMemory) = LacksAtMost sum map new

-- the lines of the map's rows; R1 says that one of them does not read
abbrev pub Shows : State → State → Ending → Type 0
Shows old new (Rows text) = (rows : List Row) × ListsIn old new (Ok rows) × (text ≡ flat_map line_of rows)
Shows old new Input = ⊥
Shows old new (Record NoRow) = ⊥
Shows old new (Record NotARecord) = ListsIn old new (Err NotARecord)
Shows old new (Record WrongVersion) = ⊥
Shows old new (Record (Store e)) = Stands old new
Shows old new (Record UsesSpent) = ⊥
Shows old new (Record OutOfMemory) = Stands old new

-- the same of a record of version 1
abbrev pub ShowsFirst : State → State → Ending → Type 0
ShowsFirst old new (Rows text) = (rows : List Row) × SeesIn old new (Ok rows) × (text ≡ flat_map line_of rows)
ShowsFirst old new Input = ⊥
ShowsFirst old new (Record NoRow) = ⊥
ShowsFirst old new (Record NotARecord) = SeesIn old new (Err NotARecord)
ShowsFirst old new (Record WrongVersion) = ⊥
ShowsFirst old new (Record (Store e)) = SeesIn old new (Err (Store e))
ShowsFirst old new (Record UsesSpent) = ⊥
ShowsFirst old new (Record OutOfMemory) = SeesIn old new (Err OutOfMemory)

-- what is shown is what a database holds as a record, of either version
abbrev pub ShowsIn : State → State → Ending → Type 0
ShowsIn old new ending = HasCleanDisk new → HasCleanDisk old × (IsRecord old → Shows old new ending) × (IsFirst old → ShowsFirst old new ending)

-- rows are forgotten and those that are left are shown, or a refusal is told
pub data ForgetsFirst {S : Type 0} (g : Ghosts S) (map : KeyMap) (new : Held S) (sum : List ℕ) : Ending → Type 0 where
  shows : (left : Held S) (ending : Ending) → Forgets sum map (state g left) (Ok tt) → Shows (state g left) (state g new) ending → ForgetsFirst g map new sum ending
  refuses : (fault : RecordFault) → Forgets sum map (state g new) (Err fault) → ForgetsFirst g map new sum (Record fault)
