-- When a store opens as a record, and why it is refused.
use Rattle.std.specs.Prelude.{◌≡◌, ◌≢◌, ◌⊎◌, ◌≤◌, ℕ, ◌+◌, ℤ, pos, if◌then◌else◌, length, List, [], ◌∷◌, Bool, true, false, Any, IsOk, IsTrue, Result, Ok, Err}
use Rattle.sqlite.specs.Order.{Row as Columns, column}
use Rattle.sqlite.specs.Store.{Ghosts}
use Rattle.sqlite.specs.Schema.{Schema}
use Rattle.sqlite.specs.Listing.{understood}
use Rattle.sqlite.specs.declared.types.Value.TheVariants.{Int}
use Rattle.sqlite.specs.declared.error.Error.{Error}
use Rattle.sqlite.specs.declared.error.Error.TheVariants.{SqliteFailure, QueryReturnedNoRows}
use Rattle.sqlite.specs.declared.error.ErrorCode.TheVariants as code
use Rattle.sqlite.specs.State.{State, Shows, IsUnchanged, IsNotRun, Executes, ExecutesInside, QueriesRow, Shown}
use Rattle.sqlite.specs.Steps.{FailsToCommit}
use Rattle.sqlite.specs.Held.{Held, state}
use Rattle.sqlite_resolve.specs.declared.error.CompileError.TheVariants.{NoSuchTable, NoSuchColumn}
use Rattle.job_record.specs.declared.fault.RecordFault.{RecordFault}
use Rattle.job_record.specs.declared.fault.RecordFault.TheVariants.{NotARecord, WrongVersion, NoRow, Store, UsesSpent, OutOfMemory}
use Rattle.staging.specs.declared.found.Found.{Found}
use Rattle.job_rows.specs.Map.{greatest_number}
use Rattle.job_record.specs.Texts.{ReadsAsFiles}
use Rattle.job_record.specs.Columns.{IsText}
use Rattle.job_record.specs.Statements.{make_meta, make_job, note_version, version_text, list_text}
use Rattle.job_record.specs.Archives.{make_archive, look_text, archived_text, add_text, renote_version, archive_params}
use Rattle.job_record.specs.OpenMap.{bytes_in}
use Rattle.job_record.specs.Blame.{Blames}

-- ---- the tables, as the queries on them find them

-- the query reads a table that is there, with each column that it names
abbrev pub IsThere : Schema → List ℕ → Type 0
IsThere schema query = IsOk (understood schema query)

abbrev pub IsAbsent : Schema → List ℕ → Type 0
IsAbsent schema query = understood schema query ≡ Err NoSuchTable

abbrev pub LacksColumn : Schema → List ℕ → Type 0
LacksColumn schema query = understood schema query ≡ Err NoSuchColumn

abbrev pub HasTable : Schema → List ℕ → Bool → Type 0
HasTable schema query true = IsThere schema query
HasTable schema query false = IsAbsent schema query

-- which of the three tables are there
pub record AreThere (schema : Schema) (meta job archive : Bool) : Type 0 where
  pub meta_is : HasTable schema version_text meta
  pub job_is : HasTable schema list_text job
  pub archive_is : HasTable schema look_text archive

-- neither those of a version nor none
abbrev pub is_half : Bool → Bool → Bool → Bool
is_half true true archive = false
is_half false false archive = archive
is_half _ _ archive = true

-- some are there without the others, or one lacks a column
abbrev pub IsHalf : Schema → Type 0
IsHalf schema =
    (LacksColumn schema version_text ⊎ (LacksColumn schema list_text ⊎ LacksColumn schema look_text))
    ⊎ ((meta : Bool) × (job : Bool) × (archive : Bool) × AreThere schema meta job archive × IsTrue (is_half meta job archive))

-- ---- the version

-- the column of the version has a number, or none (R1)
abbrev pub VersionIn : Columns → Result ℤ RecordFault → Type 0
VersionIn c (Ok n) = column c 0 ≡ Int n
VersionIn c (Err NotARecord) = (n : ℤ) → column c 0 ≢ Int n
VersionIn c (Err WrongVersion) = ⊥
VersionIn c (Err NoRow) = ⊥
VersionIn c (Err (Store e)) = e ≡ SqliteFailure code.OutOfMemory
VersionIn c (Err UsesSpent) = ⊥
VersionIn c (Err OutOfMemory) = ⊥

-- what the query for the version shows: a row, none (R1), or an error of the store (R4)
abbrev pub ReadsVersion : State → State → Result ℤ RecordFault → Type 0
ReadsVersion old new (Ok n) = (c : Columns) × QueriesRow version_text [] old new (Ok c) × VersionIn c (Ok n)
ReadsVersion old new (Err NotARecord) =
    QueriesRow version_text [] old new (Err QueryReturnedNoRows) ⊎ ((c : Columns) × QueriesRow version_text [] old new (Ok c) × VersionIn c (Err NotARecord))
ReadsVersion old new (Err WrongVersion) = ⊥
ReadsVersion old new (Err NoRow) = ⊥
ReadsVersion old new (Err (Store e)) =
    ((e ≢ QueryReturnedNoRows) × QueriesRow version_text [] old new (Err e)) ⊎ ((c : Columns) × QueriesRow version_text [] old new (Ok c) × VersionIn c (Err (Store e)))
ReadsVersion old new (Err UsesSpent) = ⊥
ReadsVersion old new (Err OutOfMemory) = ⊥

-- what a version is refused for, with the table of archives or without: no record has it with these tables, or no record has it
abbrev pub RefusesVersion : Bool → ℤ → RecordFault → Type 0
RefusesVersion archive n NotARecord = n ≡ pos (if archive then 1 else 2)
RefusesVersion archive n WrongVersion = (n ≢ pos 1) × (n ≢ pos 2)
RefusesVersion archive n _ = ⊥

-- ---- a transaction

-- the last commit stands, and no transaction is open
abbrev pub GoesBack : State → State → Type 0
GoesBack old new = (IsTrue new.is_open → (new.now ≡ old.committed) × (new.committed ≡ old.committed)) × (new.in_transaction ≡ false)

-- a row of version 1 has this key, and files of so many bytes
pub record HasBytes (c : Columns) (key : List ℕ) (bytes : ℕ) : Type 0 where
  pub key_is : IsText (column c 0) key
  pub text : List ℕ
  pub files : List Found
  pub text_is : IsText (column c 1) text
  pub reads : ReadsAsFiles text files
  pub bytes_is : bytes ≡ bytes_in files

abbrev pub HasNoBytes : Columns → Type 0
HasNoBytes c = (key : List ℕ) (bytes : ℕ) → ¬ HasBytes c key bytes

-- the statements that make the tables and note the version
abbrev pub make_texts : List (List ℕ)
make_texts = make_meta ∷ make_job ∷ make_archive ∷ note_version ∷ []

-- the statements that make a record of version 1 one of version 2
abbrev pub migrate_texts : List (List ℕ)
migrate_texts = make_archive ∷ archived_text ∷ add_text ∷ renote_version ∷ []

module _ {S : Type 0} (g : Ghosts S) where
  abbrev pub begun : Held S → Held S
  begun old = record old { in_transaction = true }

  -- statements that run one after the other
  abbrev pub RunsAll : Held S → Held S → List (List ℕ) → Type 0
  RunsAll at last [] = last ≡ at
  RunsAll at last (sql ∷ more) = (next : Held S) × (n : ℕ) × Executes sql [] (state g at) (state g next) (Ok n) × RunsAll next last more

  abbrev pub Refuses : List ℕ → Held S → Error → Type 0
  Refuses sql at e = (to : Held S) × ExecutesInside 0 sql [] (state g at) (state g to) (Err e)

  -- one of them is refused, after those before it
  abbrev pub RefusesOne : Held S → List (List ℕ) → Error → Type 0
  RefusesOne at [] e = ⊥
  RefusesOne at (sql ∷ more) e = Refuses sql at e ⊎ ((next : Held S) × (n : ℕ) × Executes sql [] (state g at) (state g next) (Ok n) × RefusesOne next more e)

  abbrev pub Commits : Held S → Held S → Type 0
  Commits last new = Shows (state g last) (state g new) (state g last).now (state g last).now false

  -- ---- the tables are made

  -- they ran, and are committed together
  abbrev pub Makes : Held S → Held S → Type 0
  Makes old new = (last : Held S) × RunsAll (begun old) last make_texts × Commits last new

  -- the store refuses a statement that makes the tables, or to commit them
  abbrev pub FailsToMake : Held S → Held S → Error → Type 0
  FailsToMake old new e = RefusesOne (begun old) make_texts e ⊎ ((last : Held S) × RunsAll (begun old) last make_texts × FailsToCommit (state g last) (state g new) e)

  -- ---- version 1 becomes version 2

  -- each row gets its archive, and the uses count on
  abbrev pub AddsAll : Held S → Held S → ℕ → List Columns → Type 0
  AddsAll at last used [] = last ≡ at
  AddsAll at last used (c ∷ more) =
      (next : Held S) × (n : ℕ) × (key : List ℕ) × (bytes : ℕ) × HasBytes c key bytes × Executes add_text (archive_params key bytes (used + 1)) (state g at) (state g next) (Ok n) × AddsAll next last (used + 1) more

  -- in a transaction that has begun
  pub record MigratesFrom (first last : Held S) : Type 0 where
    pub made : Held S
    pub read : Held S
    pub added : Held S
    pub all : List Columns
    pub counts : ℕ × ℕ
    pub makes : Executes make_archive [] (state g first) (state g made) (Ok counts.0)
    pub shows : Shown archived_text [] (state g made) (state g read) all
    pub few : length all ≤ greatest_number
    pub adds : AddsAll read added 0 all
    pub notes : Executes renote_version [] (state g added) (state g last) (Ok counts.1)

  -- an archived row of version 1 does not read
  pub record HasUnread (first : Held S) : Type 0 where
    pub made : Held S
    pub read : Held S
    pub all : List Columns
    pub count : ℕ
    pub makes : Executes make_archive [] (state g first) (state g made) (Ok count)
    pub shows : Shown archived_text [] (state g made) (state g read) all
    pub unread : Any HasNoBytes all

  -- R1 for such a row, R4 for its cause, or out of memory
  abbrev pub CannotMigrate : Held S → RecordFault → Type 0
  CannotMigrate first NotARecord = HasUnread first
  CannotMigrate first WrongVersion = ⊥
  CannotMigrate first NoRow = ⊥
  CannotMigrate first (Store e) = Blames g migrate_texts first (Store e)
  CannotMigrate first UsesSpent = ⊥
  CannotMigrate first OutOfMemory = Unit {0}

  abbrev pub Migrates : Held S → Held S → Type 0
  Migrates old new = (last : Held S) × MigratesFrom (begun old) last × Commits last new

  -- ---- why it is refused

  abbrev pub CannotRead : List ℕ → Held S → Held S → Error → Type 0
  CannotRead query old new e = (params : Columns) → IsNotRun (state g old) (state g new) query params e

  -- the store refuses to look for a table
  abbrev pub FailsToLook : Held S → Held S → Error → Type 0
  FailsToLook old new e = CannotRead version_text old new e ⊎ ((mid : Held S) × IsUnchanged (state g old) (state g mid) × (CannotRead list_text mid new e ⊎ CannotRead look_text mid new e))

  -- ---- the whole

  -- all tables, or those of version 1, with the version; or none
  abbrev pub IsReady : Held S → Held S → ℤ → Bool → Type 0
  IsReady old at n archive = AreThere (state g old).now.schema true true archive × (found : Held S) × IsUnchanged (state g old) (state g found) × ReadsVersion (state g found) (state g at) (Ok n)

  abbrev pub IsBare : Held S → Held S → Type 0
  IsBare old at = AreThere (state g old).now.schema false false false × IsUnchanged (state g old) (state g at)

  -- why it is not ready: R1 for other tables, or what the version is refused for; R4 if the store refuses
  abbrev pub IsUnready : Held S → Held S → RecordFault → Type 0
  IsUnready old new fault =
      ((fault ≡ NotARecord) × IsHalf (state g old).now.schema × IsUnchanged (state g old) (state g new))
      ⊎ (((e : Error) × (fault ≡ Store e) × FailsToLook old new e)
      ⊎ (((archive : Bool) × AreThere (state g old).now.schema true true archive × (found : Held S) × IsUnchanged (state g old) (state g found) × ReadsVersion (state g found) (state g new) (Err fault))
      ⊎ ((archive : Bool) × (n : ℤ) × IsReady old new n archive × RefusesVersion archive n fault)))

  -- a transaction that makes the tables, or migrates them, is undone
  abbrev pub IsUndone : Held S → Held S → RecordFault → Type 0
  IsUndone old new fault =
      ((at : Held S) × IsBare old at × GoesBack (state g at) (state g new) × (e : Error) × (fault ≡ Store e) × FailsToMake at new e)
      ⊎ ((at : Held S) × IsReady old at (pos 1) false × GoesBack (state g at) (state g new) × CannotMigrate (begun at) fault)

  -- R1, R2 or R4; it is made if there is no table, and migrated if it is of version 1. Beside the files of a migration no row is read.
  abbrev pub Opens : Held S → Held S → Result (Unit {0}) RecordFault → Type 0
  Opens old new (Ok done) =
      IsReady old new (pos 2) true ⊎ (((at : Held S) × IsBare old at × Makes at new) ⊎ ((at : Held S) × IsReady old at (pos 1) false × Migrates at new))
  Opens old new (Err fault) = IsUnready old new fault ⊎ IsUndone old new fault
