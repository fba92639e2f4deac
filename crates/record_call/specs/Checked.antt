-- What `record --check` says of a cache, and which folders `--remove` takes out of it: of those that no archived row has.
use Rattle.std.specs.Prelude.{codes, Bool, List, [], ◌∷◌, ◌++◌, IsTrue}
use Rattle.clap.specs.Words.{Text}
use Rattle.job_rows.specs.declared.archive.Archive.{Archive}
use Rattle.job_record.specs.declared.fault.RecordFault.TheVariants.{NotARecord}
use Rattle.program_words.specs.CheckLines.{check_lines}
use Rattle.record_program.specs.Checking.{unknown, missing, AreRepeated}
use Rattle.record_program.specs.Endings.{ShowsNone}
use Rattle.record_program.specs.declared.ending.Ending.{Ending}
use Rattle.record_program.specs.declared.ending.Ending.TheVariants.{Rows, Record}
use Rattle.record_program.specs.declared.file.Records.{Ghosts as RecordsOf}
use Rattle.record_program.specs.declared.listing.Listing.{Listing}
use Rattle.run_given.specs.Caches.{within}

-- a folder is removed, which has to be asked for, or left
pub data Parts (remove : Bool) (name : Text) (removed left : List Text) : (removed_new left_new : List Text) → Type 0 where
  goes : IsTrue remove → Parts remove name removed left (removed ++ name ∷ []) left
  stays : Parts remove name removed left removed (left ++ name ∷ [])

-- so is each of them, in the order of all
pub data IsParted (remove : Bool) : (removed left all : List Text) → Type 0 where
  none : IsParted remove [] [] []
  more : {removed left all removed_new left_new : List Text} (name : Text) → IsParted remove removed left all →
      Parts remove name removed left removed_new left_new → IsParted remove removed_new left_new (all ++ name ∷ [])

-- of the folders that no archived row has some may be removed, and these are told, with those that are left and the rows that have no folder
pub data IsTold (unknown missing : List Text) (remove : Bool) : Ending → Type 0 where
  tells : (removed left : List Text) → IsParted remove removed left unknown → IsTold unknown missing remove (Rows (check_lines removed left missing))

-- these folders were found in the cache, and its record has these archives
pub data IsCheckEnding (found : List Text) (archives : List Archive) (remove : Bool) : Ending → Type 0 where
  compares : {ending : Ending} → IsTold (unknown found archives) (missing found archives) remove ending → IsCheckEnding found archives remove ending
  -- two of them have one name
  repeats : AreRepeated found archives → IsCheckEnding found archives remove (Record NotARecord)

module _ {R K L : Type 0} (records : RecordsOf R K L) (rt : R) where
  -- a cache is checked by the record that it has
  pub data IsCheckOn (cache : Text) (remove : Bool) (ending : Ending) : Type 0 where
    checks : (found : List Text) (listing : Listing) → records.lists rt (within cache (codes "jobs.db")) listing →
        IsCheckEnding found listing.archives remove ending → IsCheckOn cache remove ending
    -- its folder of files or its record can't be read, and nothing is removed
    unread : ShowsNone ending → IsCheckOn cache remove ending
