-- What each command makes of the store: the meaning of its statement, by the words of `sqlite`.
use Rattle.std.specs.Prelude.{◌≡◌, ◌≢◌, ◌⊎◌, ℕ, List, [], Option, Some, None, Result, Ok, Err, Any, IsTrue}
use Rattle.sqlite.specs.Order.{Row as Columns}
use Rattle.sqlite.specs.Store.{Ghosts}
use Rattle.sqlite.specs.declared.error.Error.{Error}
use Rattle.sqlite.specs.declared.error.Error.TheVariants.{SqliteFailure, QueryReturnedNoRows}
use Rattle.sqlite.specs.declared.error.ErrorCode.TheVariants as code
use Rattle.sqlite.specs.State.{State, QueriesRow, Shown, FailsToQuery}
use Rattle.sqlite.specs.Held.{Held, state}
use Rattle.job_rows.specs.declared.archive.Archive.{Archive}
use Rattle.job_rows.specs.declared.row.Row.{Row}
use Rattle.job_record.specs.declared.fault.RecordFault.{RecordFault}
use Rattle.job_record.specs.declared.fault.RecordFault.TheVariants.{NotARecord, WrongVersion, NoRow, Store, UsesSpent, OutOfMemory}
use Rattle.job_record.specs.Statements.{find_text, list_text, key_params}
use Rattle.job_record.specs.Columns.{IsRowOf, IsUnread, AreRowsOf, AreKeysOf, HasNoKey}
use Rattle.job_record.specs.Archives.{archives_text, IsNoArchive, AreArchivesIn}

-- a column was too large for the memory that is left
abbrev pub LacksMemory : Error → Type 0
LacksMemory e = e ≡ SqliteFailure code.OutOfMemory

-- only if the connection is open is a command done, or told that there is no such row, that it does not read, that it is of another version, or that no number is left
abbrev pub AnswersOpen : {T : Type 0} → State → Result T RecordFault → Type 0
AnswersOpen old (Ok value) = IsTrue old.is_open
AnswersOpen old (Err NotARecord) = IsTrue old.is_open
AnswersOpen old (Err WrongVersion) = IsTrue old.is_open
AnswersOpen old (Err NoRow) = IsTrue old.is_open
AnswersOpen old (Err (Store e)) = Unit {0}
AnswersOpen old (Err UsesSpent) = IsTrue old.is_open
AnswersOpen old (Err OutOfMemory) = Unit {0}

module _ {S : Type 0} (g : Ghosts S) (old new : Held S) where
  -- ---- find

  abbrev pub QueriesKey : List ℕ → Result Columns Error → Type 0
  QueriesKey key = QueriesRow find_text (key_params key) (state g old) (state g new)

  -- the row that the query shows, which has the key, or none; R1 if what it shows reads as no row with the key
  abbrev pub Finds : List ℕ → Result (Option Row) RecordFault → Type 0
  Finds key (Ok None) = QueriesKey key (Err QueryReturnedNoRows)
  Finds key (Ok (Some row)) = (c : Columns) × QueriesKey key (Ok c) × IsRowOf c row × (row.key ≡ key)
  Finds key (Err NotARecord) = (c : Columns) × QueriesKey key (Ok c) × ((row : Row) → IsRowOf c row → row.key ≢ key)
  Finds key (Err WrongVersion) = ⊥
  Finds key (Err NoRow) = ⊥
  Finds key (Err UsesSpent) = ⊥
  Finds key (Err (Store e)) = ((e ≢ QueryReturnedNoRows) × QueriesKey key (Err e)) ⊎ (LacksMemory e × (c : Columns) × QueriesKey key (Ok c))
  Finds key (Err OutOfMemory) = (new ≡ old) ⊎ ((c : Columns) × QueriesKey key (Ok c))

  -- ---- list

  abbrev pub ShowsAll : List Columns → Type 0
  ShowsAll = Shown list_text [] (state g old) (state g new)

  abbrev pub Lists : Result (List Row) RecordFault → Type 0
  Lists (Ok rows) = (all : List Columns) × ShowsAll all × AreRowsOf all rows
  Lists (Err NotARecord) = (all : List Columns) × ShowsAll all × Any IsUnread all
  Lists (Err WrongVersion) = ⊥
  Lists (Err NoRow) = ⊥
  Lists (Err UsesSpent) = ⊥
  Lists (Err (Store e)) = FailsToQuery list_text [] (state g old) (state g new) e ⊎ (LacksMemory e × (all : List Columns) × ShowsAll all)
  Lists (Err OutOfMemory) = (all : List Columns) × ShowsAll all

  -- ---- keys: what `list` shows, of which only the keys are read

  abbrev pub ListsKeys : Result (List (List ℕ)) RecordFault → Type 0
  ListsKeys (Ok keys) = (all : List Columns) × ShowsAll all × AreKeysOf all keys
  ListsKeys (Err NotARecord) = (all : List Columns) × ShowsAll all × Any HasNoKey all
  ListsKeys (Err WrongVersion) = ⊥
  ListsKeys (Err NoRow) = ⊥
  ListsKeys (Err UsesSpent) = ⊥
  ListsKeys (Err (Store e)) = FailsToQuery list_text [] (state g old) (state g new) e ⊎ (LacksMemory e × (all : List Columns) × ShowsAll all)
  ListsKeys (Err OutOfMemory) = (all : List Columns) × ShowsAll all

  -- ---- the archives

  abbrev pub ShowsArchives : List Columns → Type 0
  ShowsArchives = Shown archives_text [] (state g old) (state g new)

  abbrev pub ListsArchives : Result (List Archive) RecordFault → Type 0
  ListsArchives (Ok archives) = (all : List Columns) × ShowsArchives all × AreArchivesIn all archives
  ListsArchives (Err NotARecord) = (all : List Columns) × ShowsArchives all × Any IsNoArchive all
  ListsArchives (Err WrongVersion) = ⊥
  ListsArchives (Err NoRow) = ⊥
  ListsArchives (Err UsesSpent) = ⊥
  ListsArchives (Err (Store e)) = FailsToQuery archives_text [] (state g old) (state g new) e ⊎ (LacksMemory e × (all : List Columns) × ShowsArchives all)
  ListsArchives (Err OutOfMemory) = (all : List Columns) × ShowsArchives all
