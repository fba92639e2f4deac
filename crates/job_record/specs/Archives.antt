-- The table of the archives that are kept, the statements on it, and the archives that its rows are.
use Rattle.std.specs.Prelude.{◌≡◌, ℕ, ◌≤◌, ◌<◌, ◌-◌, ◌^◌, pos, min, find, option_map, List, [], ◌∷◌, length, codes, IsUtf8}
use Rattle.sqlite.specs.declared.types.Value.TheVariants.{Text, Int}
use Rattle.sqlite.specs.Order.{Row as Columns, column}
use Rattle.sqlite_rules.specs.Lists.{Has}
use Rattle.job_rows.specs.declared.archive.Archive.{Archive}
use Rattle.job_rows.specs.Map.{is_of, greatest_number}
use Rattle.job_rows.specs.InStep.{AreApart, AreRising}
use Rattle.job_record.specs.Columns.{IsText}
use Rattle.job_record.specs.Keyed.{held_in}

abbrev pub make_archive : List ℕ
make_archive = codes "CREATE TABLE archive (key TEXT PRIMARY KEY, bytes INTEGER NOT NULL CHECK (bytes >= 0), used INTEGER NOT NULL UNIQUE CHECK (used >= 1)) STRICT"

abbrev pub look_text : List ℕ
look_text = codes "SELECT key, bytes, used FROM archive"

abbrev pub greatest_text : List ℕ
greatest_text = codes "SELECT used FROM archive ORDER BY used DESC"

abbrev pub oldest_text : List ℕ
oldest_text = codes "SELECT key, bytes FROM archive ORDER BY used"

abbrev pub bytes_text : List ℕ
bytes_text = codes "SELECT bytes FROM archive WHERE key = ?1"

abbrev pub all_bytes_text : List ℕ
all_bytes_text = codes "SELECT bytes FROM archive"

abbrev pub archives_text : List ℕ
archives_text = codes "SELECT key, bytes, used FROM archive ORDER BY used"

abbrev pub add_text : List ℕ
add_text = codes "INSERT INTO archive (key, bytes, used) VALUES (?1, ?2, ?3)"

abbrev pub use_text : List ℕ
use_text = codes "UPDATE archive SET used = ?2 WHERE key = ?1"

abbrev pub remove_text : List ℕ
remove_text = codes "DELETE FROM archive WHERE key = ?1"

-- ---- from version 1

abbrev pub archived_text : List ℕ
archived_text = codes "SELECT key, files FROM job WHERE archived = 1 ORDER BY key"

abbrev pub renote_version : List ℕ
renote_version = codes "UPDATE meta SET value = 2 WHERE name = 'version'"

-- ---- what a statement is given

-- a number is held to the greatest that the store has
abbrev pub archive_params : List ℕ → ℕ → ℕ → Columns
archive_params key bytes used = Text key ∷ Int (pos (min bytes (2 ^ 63 - 1))) ∷ Int (pos (min used (2 ^ 63 - 1))) ∷ []

abbrev pub use_params : List ℕ → ℕ → Columns
use_params key used = Text key ∷ Int (pos (min used (2 ^ 63 - 1))) ∷ []

-- ---- the archives that the rows of the table are

abbrev pub archive_columns : Archive → Columns
archive_columns archive = Text archive.key ∷ Int (pos archive.bytes) ∷ Int (pos archive.used) ∷ []

-- a text and numbers that the store has
pub record IsWithinStore (archive : Archive) : Type 0 where
  pub key : IsUtf8 archive.key
  pub bytes : archive.bytes ≤ greatest_number
  pub used : archive.used ≤ greatest_number

-- each key has in the table what its archive says, and the list has the archives by rising use
pub record AreArchives (rows : List Columns) (archives : List Archive) : Type 0 where
  pub there : (key : List ℕ) → held_in rows key ≡ option_map archive_columns (find (is_of key) archives)
  pub apart : AreApart archives
  pub rising : AreRising 0 archives
  pub within : (archive : Archive) → Has archives archive → IsWithinStore archive

-- ---- the archives that are read from columns

-- the columns have this key and these numbers
pub record IsArchiveIn (c : Columns) (archive : Archive) : Type 0 where
  pub width : 2 < length c
  pub key : IsText (column c 0) archive.key
  pub bytes : column c 1 ≡ Int (pos archive.bytes)
  pub used : column c 2 ≡ Int (pos archive.used)

-- they read as no archive
abbrev pub IsNoArchive : Columns → Type 0
IsNoArchive c = (archive : Archive) → ¬ IsArchiveIn c archive

abbrev pub AreArchivesIn : List Columns → List Archive → Type 0
AreArchivesIn [] [] = Unit {0}
AreArchivesIn (c ∷ cs) (archive ∷ archives) = IsArchiveIn c archive × AreArchivesIn cs archives
AreArchivesIn _ _ = ⊥
