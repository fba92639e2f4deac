-- The record that was opened of a file, and how `record` ends on it.
use Rattle.std.specs.Prelude.{◌≡◌, ℕ, List, [], Option, Some, None}
use Rattle.sqlite_disk.specs.declared.Disk.{Ghosts}
use Rattle.sqlite_disk.specs.declared.Files.{Files}
use Rattle.sqlite_store.specs.declared.store.FileStore.{FileStore}
use Rattle.sqlite.specs.Held.{Held}
use Rattle.sqlite.specs.State.{State, HasCleanDisk}
use Rattle.sqlite.specs.Files.{file_state}
use Rattle.job_record.specs.OpenMap.{IsBlank, OpensAs}
use Rattle.job_record.specs.Rows.{OpensWithRows}
use Rattle.record_program.specs.declared.ending.Ending.{Ending}
use Rattle.record_program.specs.Endings.{ShowsNone}
use Rattle.record_program.specs.Forgetting.{ShowsIn}
use Rattle.record_program.specs.Closing.{ForgetsForGood, TrimsForGood}

module _ {D : Type 0} (g : Ghosts D) where
  -- this record was opened of a database, with this budget: it has no row where that had no table, and the rows of a record
  pub record IsOf (budget : Option ℕ) (found kept : Held (FileStore D g)) : Type 0 where
    pub map : HasCleanDisk (file_state kept) → OpensAs budget (file_state found) (file_state kept)
    pub rows : HasCleanDisk (file_state kept) → OpensWithRows budget (file_state found) (file_state kept)

  -- what is shown is what the database holds as a record, and it is not without a table; or no row is shown
  pub data IsShown (found : Held (FileStore D g)) (ending : Ending) : Type 0 where
    hidden : ShowsNone ending → IsShown found ending
    shows : (last : Held (FileStore D g)) → ShowsIn (file_state found) (file_state last) ending →
        (HasCleanDisk (file_state last) → IsBlank (file_state found) → ⊥) → IsShown found ending

  -- the rows with the sum are forgotten, and what is shown is what is left; or no row is shown
  pub data IsForgotten (sum : List ℕ) (found : Held (FileStore D g)) (ending : Ending) : Type 0 where
    unopened : ShowsNone ending → IsForgotten sum found ending
    forgotten : (kept : Held (FileStore D g)) (files : Option (Files D)) → IsOf None found kept →
        ForgetsForGood g sum (record { budget = None; counted = None }) kept ending files → IsForgotten sum found ending

  -- the record is shown, or where a SHA-1 is given, what the forgetting left of it
  abbrev pub EndsWith : (found : Held (FileStore D g)) (forget : Option (List ℕ)) → Ending → Type 0
  EndsWith found None ending = IsShown found ending
  EndsWith found (Some sum) ending = IsForgotten sum found ending

  module _ (Opened : State → Type 0) where
    -- the record of a file, of which such a database was opened
    pub record IsRecordOf (budget : Option ℕ) (kept : Held (FileStore D g)) : Type 0 where
      pub found : Held (FileStore D g)
      pub opened : Opened (file_state found)
      pub is_of : IsOf budget found kept

    -- no row is shown, or those of the record in a database of the file are
    pub data EndsOn (forget : Option (List ℕ)) (ending : Ending) : Type 0 where
      unshown : ShowsNone ending → EndsOn forget ending
      shown : (found : Held (FileStore D g)) → Opened (file_state found) → EndsWith found forget ending → EndsOn forget ending

    -- no row is shown, and no key is known to be without its archive; or the record of the file was trimmed
    pub data TrimsOn (budget : ℕ) (ending : Ending) (lost : List (List ℕ)) : Type 0 where
      untrimmed : ShowsNone ending → lost ≡ [] → TrimsOn budget ending lost
      trims : (kept : Held (FileStore D g)) (files : Option (Files D)) → IsRecordOf None kept →
          TrimsForGood g budget (record { budget = None; counted = None }) kept ending lost files → TrimsOn budget ending lost
