-- A row as the columns of its table: key, outputs, files, cost, archived.
use Rattle.std.specs.Prelude.{◌≡◌, ◌≢◌, ◌⊎◌, ◌<◌, ◌-◌, ◌^◌, ℕ, min, ℤ, pos, not, List, length, if◌then◌else◌, [], ◌∷◌, IsUtf8}
use Rattle.std.specs.Ordering.{int_eq}
use Rattle.sqlite.specs.declared.types.Value.{Value as SqlValue}
use Rattle.sqlite.specs.declared.types.Value.TheVariants.{Int, Text}
use Rattle.sqlite.specs.Order.{Row as Columns, column}
use Rattle.sqlite.specs.declared.error.Error.{Error}
use Rattle.sqlite.specs.declared.error.Error.TheVariants.{SqliteFailure}
use Rattle.sqlite.specs.declared.error.ErrorCode.TheVariants as code
use Rattle.job_rows.specs.declared.row.Row.{Row}
use Rattle.job_record.specs.declared.texts.Stored.{Stored}
use Rattle.job_record.specs.declared.fault.RecordFault.{RecordFault}
use Rattle.job_record.specs.declared.fault.RecordFault.TheVariants.{NotARecord, Store, OutOfMemory}
use Rattle.job_record.specs.Texts.{ReadsAsRow}

-- The columns that a row is given. A cost that SQLite has no number for is its greatest number, which the table refuses
-- as well.
abbrev pub columns_of : Stored → Columns
columns_of s = Text s.key ∷ Text s.outputs ∷ Text s.files ∷ Int (pos (min s.cost (2 ^ 63 - 1))) ∷ Int (if s.archived then pos 1 else pos 0) ∷ []

abbrev pub IsText : SqlValue → List ℕ → Type 0
IsText v text = (v ≡ Text text) × IsUtf8 text

-- the columns have these texts and numbers
pub record AreColumnsOf (c : Columns) (s : Stored) : Type 0 where
  pub width : 4 < length c
  pub key : IsText (column c 0) s.key
  pub outputs : IsText (column c 1) s.outputs
  pub files : IsText (column c 2) s.files
  pub cost : column c 3 ≡ Int (pos s.cost)
  pub archived : (n : ℤ) × (column c 4 ≡ Int n) × (s.archived ≡ not (int_eq n (pos 0)))

-- the columns read as this row
abbrev pub IsRowOf : Columns → Row → Type 0
IsRowOf c row = (s : Stored) × AreColumnsOf c s × ReadsAsRow s row

-- they read as no row
abbrev pub IsUnread : Columns → Type 0
IsUnread c = (row : Row) → ¬ IsRowOf c row

abbrev pub AreRowsOf : List Columns → List Row → Type 0
AreRowsOf [] [] = Unit {0}
AreRowsOf (c ∷ cs) (row ∷ rows) = IsRowOf c row × AreRowsOf cs rows
AreRowsOf _ _ = ⊥

-- the keys that the columns begin with
abbrev pub AreKeysOf : List Columns → List (List ℕ) → Type 0
AreKeysOf [] [] = Unit {0}
AreKeysOf (c ∷ cs) (key ∷ keys) = IsText (column c 0) key × AreKeysOf cs keys
AreKeysOf _ _ = ⊥

-- they begin with no text in UTF-8
abbrev pub HasNoKey : Columns → Type 0
HasNoKey c = 0 < length c → (key : List ℕ) → ¬ IsText (column c 0) key

-- they begin with no natural number
abbrev pub HasNoNumber : Columns → Type 0
HasNoNumber c = 0 < length c → (n : ℕ) → column c 0 ≢ Int (pos n)

-- Out of memory, in the record or in the store, or else R1 for this cause.
abbrev pub Misreads : Type 0 → RecordFault → Type 0
Misreads cause fault = (fault ≡ OutOfMemory) ⊎ ((fault ≡ Store (SqliteFailure code.OutOfMemory)) ⊎ ((fault ≡ NotARecord) × cause))

-- a column of another kind is R1, and out of memory is the store's
abbrev pub misread_as : Error → RecordFault
misread_as (SqliteFailure code.OutOfMemory) = Store (SqliteFailure code.OutOfMemory)
misread_as _ = NotARecord
