-- The record as a run sees it: a map from key to row, or to what does not read as one.
use Rattle.std.specs.Prelude.{◌≡◌, ℕ, List, Option, Some, None, Result, Ok, Err}
use Rattle.sqlite.specs.Order.{Row as Columns}
use Rattle.sqlite.specs.State.{State}
use Rattle.job_rows.specs.declared.refusal.RecordError.{RecordError}
use Rattle.job_rows.specs.declared.refusal.RecordError.TheVariants as error
use Rattle.job_rows.specs.declared.refusal.RecordRefusal.TheVariants as refusal
use Rattle.job_rows.specs.Map.{RowMap, Kept, reads, unread, no_rows}
use Rattle.job_record.specs.declared.fault.RecordFault.{RecordFault}
use Rattle.job_record.specs.declared.fault.RecordFault.TheVariants.{NotARecord, WrongVersion, NoRow, Store, UsesSpent, OutOfMemory}
use Rattle.job_record.specs.Columns.{IsRowOf, IsUnread}
use Rattle.job_record.specs.declared.changes.Space.{Space}
use Rattle.job_record.specs.Counted.{IsCount}
use Rattle.job_record.specs.Map.{KeyMap, IsRecordOf, Change}
use Rattle.job_record.specs.Crash.{IsSafe}
use Rattle.job_record.specs.OpenMap.{IsBlank, IsFirst, IsMigrated}

-- a fault without the store's own cause
abbrev pub error_of : RecordFault → RecordError
error_of NotARecord = error.Refused refusal.NotARecord
error_of WrongVersion = error.Refused refusal.WrongVersion
error_of NoRow = error.Refused refusal.NoRow
error_of (Store cause) = error.Refused refusal.Store
error_of UsesSpent = error.Refused refusal.UsesSpent
error_of OutOfMemory = error.OutOfMemory

abbrev pub answered : {T : Type 0} → Result T RecordFault → Result T RecordError
answered (Ok value) = Ok value
answered (Err fault) = Err (error_of fault)

-- the columns read as this row, or as none
abbrev pub IsKeptAs : Columns → Kept → Type 0
IsKeptAs c (reads row) = IsRowOf c row
IsKeptAs c unread = IsUnread c

abbrev pub AreKeptAs : Option Columns → Option Kept → Type 0
AreKeptAs None None = Unit {0}
AreKeptAs None (Some kept) = ⊥
AreKeptAs (Some c) None = ⊥
AreKeptAs (Some c) (Some kept) = IsKeptAs c kept

-- what each key has in the tables reads as what it has in the map, with the same archives and budget
pub record IsMapOf (columns : KeyMap) (map : RowMap) : Type 0 where
  pub rows : (key : List ℕ) → AreKeptAs (columns.rows key) (map.rows key)
  pub archives : map.archives ≡ columns.archives
  pub budget : map.budget ≡ columns.budget

-- what a record's tables hold reads as some map
abbrev pub HasRows : State → Type 0
HasRows s = (columns : KeyMap) → IsRecordOf s columns → (map : RowMap) × IsMapOf columns map

-- The accepted commands made these rows and archives, and no others, of what the record held when it was opened. An open connection shows them, and
-- after a crash they are what it left, or that with one command too that the store refused since the last accepted one.
pub record HoldsRows (s : State) (map : RowMap) : Type 0 where
  pub columns : KeyMap
  pub refused : List Change
  pub safe : IsSafe s columns refused
  pub rows : IsMapOf columns map

-- A store in which there is room holds no row once it is opened, a record holds what its columns read as, and one of version 1 too, with an archive for
-- each archived row.
pub record OpensWithRows (budget : Option ℕ) (old new : State) : Type 0 where
  pub made : IsBlank old → HoldsRows new (no_rows budget)
  pub migrated : IsFirst old → (columns : KeyMap) × (columns.budget ≡ budget) × IsMigrated old columns × ((map : RowMap) → IsMapOf columns map → HoldsRows new map)
  pub taken : (columns : KeyMap) → IsRecordOf old columns → columns.budget ≡ budget → (map : RowMap) → IsMapOf columns map → HoldsRows new map

-- what a record holds that has this budget, and counted so many bytes
pub record HoldsWithin (s : State) (space : Space) (map : RowMap) : Type 0 where
  pub rows : HoldsRows s map
  pub budget_is : map.budget ≡ space.budget
  pub count : IsCount space.counted map.archives
