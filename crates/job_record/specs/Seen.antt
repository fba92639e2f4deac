-- What is listed of a record of version 1 that is looked at as it is.
use Rattle.std.specs.Prelude.{◌≡◌, ◌⊎◌, ℕ, List, Some, Result, Ok, Err, IsTrue}
use Rattle.std.specs.List.Sorted.{IsSorted}
use Rattle.sqlite.specs.Order.{Row as Columns}
use Rattle.sqlite.specs.declared.error.Error.{Error}
use Rattle.sqlite.specs.declared.error.Error.TheVariants.{SqlInputError}
use Rattle.sqlite.specs.State.{State, store_error, IsUnchanged}
use Rattle.sqlite_resolve.specs.declared.error.CompileError.TheVariants.{NoSuchTable}
use Rattle.sqlite_rules.specs.Lists.{Has}
use Rattle.sqlite_trees.specs.declared.error.StoreError.{StoreError}
use Rattle.job_rows.specs.declared.archive.Archive.{Archive}
use Rattle.job_rows.specs.declared.row.Row.{Row}
use Rattle.job_record.specs.declared.fault.RecordFault.{RecordFault}
use Rattle.job_record.specs.declared.fault.RecordFault.TheVariants.{NotARecord, Store}
use Rattle.job_record.specs.Columns.{IsUnread, AreRowsOf}
use Rattle.job_record.specs.Map.{held, by_key}
use Rattle.job_record.specs.OpenMap.{IsFirst}

-- the rows of its jobs, and no others, in the order of their keys, or one of them does not read; nothing is changed
abbrev pub SeesIn : State → State → Result (List Row) RecordFault → Type 0
SeesIn old new (Ok rows) =
    (all : List Columns) × AreRowsOf all rows × ((c : Columns) → Has all c → (key : List ℕ) × (held old key ≡ Some c)) × ((key : List ℕ) (c : Columns) → held old key ≡ Some c → Has all c)
    × IsSorted by_key rows × IsUnchanged old new × IsFirst new
SeesIn old new (Err NotARecord) = (key : List ℕ) × (c : Columns) × (held old key ≡ Some c) × IsUnread c × IsUnchanged old new × IsFirst new
SeesIn old new (Err _) = IsTrue new.is_open → (new.now ≡ old.now) × IsFirst new

-- it has no table of archives: for that the store refuses to list them (R4), or it fails; nothing is changed
abbrev pub SeesNone : State → State → Result (List Archive) RecordFault → Type 0
SeesNone old new result =
    (e : Error) × (result ≡ Err (Store e)) × ((e ≡ SqlInputError NoSuchTable) ⊎ ((cause : StoreError) × (e ≡ store_error cause))) × (IsTrue new.is_open → (new.now ≡ old.now) × IsFirst new)
