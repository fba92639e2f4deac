-- What a close, `--forget` and `--budget` leave of the two files of a record.
use Rattle.std.specs.Prelude.{◌≡◌, List, [], ℕ, Option, Some, None, Result, Ok, Err}
use Rattle.sqlite_disk.specs.declared.Disk.{Ghosts}
use Rattle.sqlite_disk.specs.declared.Files.{Files}
use Rattle.sqlite_wal.specs.Reads.{AreClean}
use Rattle.sqlite_store.specs.declared.store.FileStore.{FileStore}
use Rattle.sqlite.specs.State.{HasCleanDisk}
use Rattle.sqlite.specs.Held.{Held}
use Rattle.sqlite.specs.Files.{over_files, file_state, IsClosed}
use Rattle.sqlite.specs.Closing.{IsCopied}
use Rattle.job_record.specs.declared.changes.Space.{Space}
use Rattle.job_record.specs.Counted.{FitsSpace}
use Rattle.job_record.specs.Map.{KeyMap, IsRecordOf}
use Rattle.record_program.specs.declared.ending.Ending.{Ending}
use Rattle.record_program.specs.Endings.{status_of}
use Rattle.record_program.specs.Forgetting.{ForgetsFirst}
use Rattle.record_program.specs.Trimming.{TrimsFirst}

module _ {D : Type 0} (g : Ghosts D) where
  -- The files are given back only where the database file alone holds what the command left of the record. Else the command has failed.
  abbrev pub ForgetsForGood : List ℕ → Space → Held (FileStore D g) → Ending → Option (Files D) → Type 0
  ForgetsForGood sum space old ending (Some files) =
      AreClean g files.log files.db → HasCleanDisk (file_state old) × ((map : KeyMap) → FitsSpace space map → IsRecordOf (file_state old) map
      → (last : Held (FileStore D g)) × ForgetsFirst over_files map last sum ending × IsCopied last files)
  ForgetsForGood sum space old ending None = status_of ending ≡ 3

  -- the same of `--budget`, which knows the keys of the archives that went only where both files were closed
  abbrev pub TrimsForGood : (budget : ℕ) → Space → Held (FileStore D g) → Ending → (lost : List (List ℕ)) → Option (Files D) → Type 0
  TrimsForGood budget space old ending lost (Some files) =
      AreClean g files.log files.db → HasCleanDisk (file_state old) × ((map : KeyMap) → FitsSpace space map → IsRecordOf (file_state old) map
      → (last : Held (FileStore D g)) × TrimsFirst over_files map last budget ending lost × IsCopied last files)
  TrimsForGood budget space old ending lost None = (status_of ending ≡ 3) × (lost ≡ [])

  -- a close that fails is told in place of rows
  abbrev pub ClosesAs : Held (FileStore D g) → (before after : Ending) → Option (Files D) → Type 0
  ClosesAs last before after (Some files) = (after ≡ before) × (AreClean g files.log files.db → IsCopied last files)
  ClosesAs last before after None = status_of after ≡ 3

  -- the database file alone holds the last commit; or it could not be closed, and its files leave after a crash what they left before
  abbrev pub Leaves : Held (FileStore D g) → Result (Files D) (FileStore D g) → Type 0
  Leaves last (Ok files) = AreClean g files.log files.db → IsCopied last files
  Leaves last (Err store) = IsClosed last store
