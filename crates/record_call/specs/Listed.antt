-- What `record --long` prints: each row's line, with the number of its last use, and what it is of.
use Rattle.std.specs.Prelude.{ℕ, ◌<◌, List, ◌++◌, codes, decimal, flat_map, map, Option, Some, None}
use Rattle.plain_data.specs.ByName.{times, value_at}
use Rattle.job_rows.specs.declared.archive.Archive.{Archive}
use Rattle.job_rows.specs.declared.row.Row.{Row}
use Rattle.job_record.specs.declared.fault.RecordFault.TheVariants.{NotARecord}
use Rattle.program_words.specs.KeyWords.{key_words}
use Rattle.record_program.specs.Endings.{ShowsNone}
use Rattle.record_program.specs.Lines.{facts_of}
use Rattle.record_program.specs.declared.file.Records.{Ghosts as RecordsOf}
use Rattle.record_program.specs.declared.ending.Ending.{Ending}
use Rattle.record_program.specs.declared.ending.Ending.TheVariants.{Rows, Record}
use Rattle.record_program.specs.declared.listing.Listing.{Listing}

-- the number of the last use of each archive, by its key
abbrev pub uses : List Archive → List (List ℕ × ℕ)
uses archives = map (λ archive. (archive.key, archive.used)) archives

abbrev pub use_word : Option ℕ → List ℕ
use_word (Some number) = codes " " ++ decimal number
use_word None = codes " -"

-- `HEX COST BYTES yes USE WORDS <- NAMES`, with `-` for a row that has no archive
abbrev pub long_line : List (List ℕ × ℕ) → Row → List ℕ
long_line uses row = facts_of row ++ use_word (value_at row.key uses) ++ key_words row.key ++ codes "\n"

abbrev pub long_text : Listing → List ℕ
long_text listing = flat_map (long_line (uses listing.archives)) listing.rows

-- the lines of the rows; or two archives have one key, and then this is no record
pub data IsLongEnding (listing : Listing) : Ending → Type 0 where
  shows : IsLongEnding listing (Rows (long_text listing))
  repeats : (key : List ℕ) → 1 < times key (uses listing.archives) → IsLongEnding listing (Record NotARecord)

module _ {R K L : Type 0} (records : RecordsOf R K L) (rt : R) where
  -- the record of a file is shown so, or why it can't be is told
  pub data IsLongOn (file : List ℕ) (ending : Ending) : Type 0 where
    lists : (listing : Listing) → records.lists rt file listing → IsLongEnding listing ending → IsLongOn file ending
    unlisted : ShowsNone ending → IsLongOn file ending
