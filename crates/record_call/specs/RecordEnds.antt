-- How the command `record` ends the program.
use Rattle.std.specs.Prelude.{◌≡◌, ℕ, List, codes, ◌⊎◌, Bool}
use Rattle.clap.specs.Words.{Text}
use Rattle.job_rows.specs.declared.record.Record.{Ghosts as RowsOf}
use Rattle.record_program.specs.declared.file.Records.{Ghosts as RecordsOf}
use Rattle.run_given.specs.Caches.{within}
use Rattle.end_words.specs.declared.exit.Exit.{Exit}
use Rattle.end_words.specs.declared.exit.Fault.TheVariants as faults
use Rattle.record_program.specs.Endings as record_program
use Rattle.record_program.specs.declared.ending.Ending.{Ending}
use Rattle.record_program.specs.declared.ending.Ending.TheVariants.{Input}
use Rattle.program_words.specs.RecordWords.{RecordWish}
use Rattle.program_words.specs.RecordForm.{IsForm}
use Rattle.program_words.specs.declared.record_form.RecordForm.TheVariants as forms
use Rattle.end_words.specs.declared.exit.Exit.TheVariants.{Record as Listed, Fault}
use Rattle.record_call.specs.Checked.{IsCheckOn}
use Rattle.record_call.specs.Listed.{IsLongOn}

-- the file of the record that is named, or that of the cache which is named
abbrev pub IsRecordFile : (name file : Text) → Type 0
IsRecordFile name file = (file ≡ name) ⊎ (file ≡ within name (codes "jobs.db"))

-- what is named is no cache: the name leads to nothing that can be looked at, or to no folder
pub data IsNoCache : Exit → Type 0 where
  absent : IsNoCache (Listed Input)
  no_folder : IsNoCache (Fault faults.RecordWords)

module _ {R K L : Type 0} (records : RecordsOf R K L) (rows : RowsOf K) (rt : R) where
  -- archives of a cache go until the others have at most so many bytes, and what is left is shown
  pub data IsTrim (cache : Text) (budget : ℕ) : Exit → Type 0 where
    trims : (ending : Ending) (lost : List Text) → record_program.IsEnding ending →
        records.trims rt (within cache (codes "jobs.db")) budget ending lost → IsTrim cache budget (Listed ending)
    untrimmed : {exit : Exit} → IsNoCache exit → IsTrim cache budget exit

  -- it is said in what the files of a cache and its record differ
  pub data IsCheckOf (cache : Text) (remove : Bool) : Exit → Type 0 where
    checks : {ending : Ending} → IsCheckOn records rt cache remove ending → IsCheckOf cache remove (Listed ending)
    unchecked : {exit : Exit} → IsNoCache exit → IsCheckOf cache remove exit

  -- the command of a record ends the program in its own way, on the file that is named, or on that of the cache which is named
  pub data IsRecordExit (wish : RecordWish) : Exit → Type 0 where
    shows : (file : Text) (ending : Ending) → IsForm wish forms.Rows → IsRecordFile wish.file file → record_program.IsEnding ending →
        records.ends rt file wish.forget ending → IsRecordExit wish (Listed ending)
    lists : (file : Text) (ending : Ending) → IsForm wish forms.Long → IsRecordFile wish.file file → IsLongOn records rt file ending → IsRecordExit wish (Listed ending)
    is_trim : {exit : Exit} (budget : ℕ) → IsForm wish (forms.Trim budget) → IsTrim wish.file budget exit → IsRecordExit wish exit
    is_check : {exit : Exit} (remove : Bool) → IsForm wish (forms.Check remove) → IsCheckOf wish.file remove exit → IsRecordExit wish exit
    misused : IsForm wish forms.Misused → IsRecordExit wish (Fault faults.RecordWords)
