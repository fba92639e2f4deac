-- What is listed of a record: the rows of its map, and the archives that it keeps.
use Rattle.std.specs.Prelude.{◌⊎◌, List, None, Result, Ok, Err}
use Rattle.sqlite_disk.specs.declared.Disk.{Ghosts}
use Rattle.sqlite_store.specs.declared.store.FileStore.{FileStore}
use Rattle.sqlite.specs.Store.{Ghosts as StoreOf}
use Rattle.sqlite.specs.Held.{Held, state}
use Rattle.sqlite.specs.State.{State, HasCleanDisk}
use Rattle.sqlite.specs.Files.{over_files, file_state}
use Rattle.job_rows.specs.declared.row.Row.{Row}
use Rattle.job_record.specs.declared.fault.RecordFault.{RecordFault}
use Rattle.job_record.specs.Map.{KeyMap, IsRecordOf as HoldsRecord, ListsIn, ArchivesIn}
use Rattle.record_program.specs.declared.listing.Listing.{Listing}
use Rattle.record_program.specs.Opened.{IsRecordOf}

module _ {S : Type 0} (g : StoreOf S) where
  -- all rows by their keys, and all archives by their last use, the oldest first; or why one of them can't be listed
  abbrev pub Lists : KeyMap → (old new : Held S) → Result Listing RecordFault → Type 0
  Lists map old new (Ok listing) =
      (between : Held S) × ListsIn (state g old) (state g between) (Ok listing.rows) × ArchivesIn map (state g between) (state g new) (Ok listing.archives)
  Lists map old new (Err fault) =
      ListsIn (state g old) (state g new) (Err fault)
      ⊎ ((between : Held S) × (rows : List Row) × ListsIn (state g old) (state g between) (Ok rows) × ArchivesIn map (state g between) (state g new) (Err fault))

module _ {D : Type 0} (g : Ghosts D) where
  -- on a clean disk it is what the record holds
  pub record IsListing (kept : Held (FileStore D g)) (listing : Listing) : Type 0 where
    pub last : Held (FileStore D g)
    pub was_clean : HasCleanDisk (file_state last) → HasCleanDisk (file_state kept)
    pub lists : HasCleanDisk (file_state last) → (map : KeyMap) → HoldsRecord (file_state kept) map → Lists over_files map kept last (Ok listing)

  module _ (Opened : State → Type 0) where
    -- what the record of a file holds, of which such a database was opened
    pub record ListsOn (listing : Listing) : Type 0 where
      pub kept : Held (FileStore D g)
      pub is_of : IsRecordOf g Opened None kept
      pub is_listing : IsListing kept listing
