-- The map of a store that is opened as a record, also if that is refused, and after a crash.
use Rattle.std.specs.Prelude.{◌≡◌, ℕ, ◌+◌, ◌<◌, pos, min, sum_by, false, List, codes, find, get_or, length, Option, Some, None, IsTrue}
use Rattle.std.specs.declared.cmp.Ordering.{Ordering}
use Rattle.std.specs.Ordering.{nat_cmp}
use Rattle.std.specs.Cmp.Lexicographic.{slice_cmp}
use Rattle.std.specs.List.Sorted.{IsSorted}
use Rattle.sqlite.specs.declared.types.Value.TheVariants.{Int, Text}
use Rattle.sqlite.specs.Order.{Row as Columns, column}
use Rattle.sqlite.specs.Tree.{Trees}
use Rattle.sqlite.specs.Effect.{Database, IsDatabase}
use Rattle.sqlite.specs.State.{State, IsUnchanged, Survives}
use Rattle.sqlite_rules.specs.Lists.{Has}
use Rattle.staging.specs.declared.found.Found.{Found}
use Rattle.job_rows.specs.declared.archive.Archive.{Archive}
use Rattle.job_rows.specs.Map.{is_of, greatest_number}
use Rattle.job_record.specs.Texts.{ReadsAsFiles}
use Rattle.job_record.specs.Columns.{IsText}
use Rattle.job_record.specs.Places.{meta_tree, job_tree, HasFirst, IsVacant}
use Rattle.job_record.specs.Keyed.{IsKeyed}
use Rattle.job_record.specs.Map.{KeyMap, no_columns, migrated_beside, held, HoldsMap, IsInStep, IsRecord, IsRecordOf, Stands}

-- the store has no table of a record and nothing in the way of one, and no transaction is open
pub record IsBlank (s : State) : Type 0 where
  pub schema : IsVacant s.now.schema
  pub settled : s.committed ≡ s.now
  pub autocommit : s.in_transaction ≡ false

-- the store has the tables of version 1, wherever they stand, and no transaction is open
pub record IsFirst (s : State) : Type 0 where
  pub schema : HasFirst s.now.schema
  pub sound : IsDatabase s.now
  pub keyed : IsKeyed (s.now.trees (job_tree s.now.schema))
  pub settled : s.committed ≡ s.now
  pub autocommit : s.in_transaction ≡ false

-- ---- the archives of a record of version 1

-- the bytes of files, held to the greatest number that the store has
abbrev pub bytes_in : List Found → ℕ
bytes_in files = min (sum_by (λ file. file.size) files) greatest_number

-- the archive that an archived row gets
pub record IsArchiveOf (c : Columns) (archive : Archive) : Type 0 where
  pub key : column c 0 ≡ Text archive.key
  pub archived : column c 4 ≡ Int (pos 1)
  pub text : List ℕ
  pub files : List Found
  pub text_is : IsText (column c 2) text
  pub reads : ReadsAsFiles text files
  pub bytes : archive.bytes ≡ bytes_in files

abbrev pub by_key : Archive → Archive → Ordering
by_key a b = slice_cmp nat_cmp a.key b.key

-- each archived row has an archive, and no other has; their uses count from 1 by the bytes of the keys
pub record AreArchivesOf (rows : List ℕ → Option Columns) (archives : List Archive) : Type 0 where
  pub each : (key : List ℕ) (c : Columns) → rows key ≡ Some c → column c 4 ≡ Int (pos 1) → (archive : Archive) × (find (is_of key) archives ≡ Some archive) × IsArchiveOf c archive
  pub only : (archive : Archive) → Has archives archive → (c : Columns) × (rows archive.key ≡ Some c) × IsArchiveOf c archive
  pub ordered : IsSorted by_key archives
  pub counted : (i : ℕ) (d : Archive) → i < length archives → (get_or archives i d).used ≡ i + 1

-- the map that a record of version 1 becomes, beside what its store had
pub record IsMigrated (old : State) (map : KeyMap) : Type 0 where
  pub rows : (key : List ℕ) → map.rows key ≡ held old key
  pub archives : AreArchivesOf (held old) map.archives
  pub beside : map.beside ≡ migrated_beside old.now

-- one of the rows is for the version, and each that is says this number
pub record AreOfVersion (rows : List Columns) (n : ℕ) : Type 0 where
  pub row : Columns
  pub there : Has rows row
  pub name : column row 1 ≡ Text (codes "version")
  pub each : (r : Columns) → Has rows r → column r 1 ≡ Text (codes "version") → column r 2 ≡ Int (pos n)

abbrev pub SaysVersion : Database → ℕ → Type 0
SaysVersion db = AreOfVersion (db.trees (meta_tree db.schema))

-- ---- opening

-- A store in which there is room becomes an empty record beside what it had, one of version 1 has its rows with their archives beside what it had, and a record stays as it
-- is. What is made says that it is of version 2; so does what was of version 1, if each row of `meta` has a rowid of its own.
pub record OpensAs (budget : Option ℕ) (old new : State) : Type 0 where
  pub made : IsBlank old → IsRecordOf new (no_columns old.now budget)
  pub migrated : IsFirst old → (map : KeyMap) × (map.budget ≡ budget) × IsMigrated old map × IsRecordOf new map
  pub taken : IsRecord old → IsUnchanged old new × IsRecord new
  pub noted : IsBlank old → SaysVersion new.now 2
  pub renoted : IsFirst old → IsKeyed (old.now.trees (meta_tree old.now.schema)) → SaysVersion new.now 2

-- what is refused is as it was, unless a failure shut it
pub record RefusesAs (old new : State) : Type 0 where
  pub blank : IsBlank old → IsTrue new.is_open → (new.now ≡ old.now) × IsBlank new
  pub first : IsFirst old → IsTrue new.is_open → (new.now ≡ old.now) × IsFirst new
  pub taken : IsRecord old → Stands old new

-- ---- crashes

-- what a crash left is a record with this map, and the other tables that are beside it
pub record IsLeft (trees : Trees) (map : KeyMap) : Type 0 where
  pub holds : HoldsMap (record { schema = map.beside.schema; trees = trees }) map
  pub in_step : IsInStep map

-- the trees of a record with no row, made in this database
abbrev pub AreEmptyRecord : Database → Trees → Type 0
AreEmptyRecord db trees = IsLeft trees (no_columns db None)

-- the trees of the record that one of version 1 becomes
abbrev pub AreMigrated : State → Trees → Type 0
AreMigrated old trees = (map : KeyMap) × IsMigrated old map × IsLeft trees map

-- A crash leaves what it could leave before, or of a store in which there is room an empty record, or of version 1 the record that it becomes.
pub record CrashesAs (old new : State) : Type 0 where
  pub blank : IsBlank old → Survives old new (AreEmptyRecord old.now)
  pub first : IsFirst old → Survives old new (AreMigrated old)
  pub taken : IsRecord old → Survives old new (λ _. ⊥)
