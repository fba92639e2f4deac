-- A record that is kept in memory alone.
use Rattle.std.specs.Prelude.{◌≡◌, ◌⊎◌, ℕ, false, List, Option, None, option_map, IsTrue, IfSome}
use Rattle.plain_data.specs.ByName.{value_at, with_value}
use Rattle.job_rows.specs.declared.archive.Archive.{Archive}
use Rattle.job_rows.specs.declared.row.Row.{Row}
use Rattle.job_rows.specs.declared.log.Entry.{Entry}
use Rattle.job_rows.specs.declared.refusal.RecordError.{RecordError}
use Rattle.job_rows.specs.declared.refusal.RecordError.TheVariants.{Refused, OutOfMemory}
use Rattle.job_rows.specs.declared.refusal.RecordRefusal.TheVariants.{NoRow, UsesSpent}
use Rattle.job_rows.specs.Map.{reads, RowMap, has_archive, without_archive, touched, left_for, keeps_archive, AreSpent}

-- the rows by key, the archives by the numbers of their last use, how many bytes these may have together, and what was asked so far
pub record MemoryState : Type 0 where
  pub rows : List (List ℕ × Row)
  pub archives : List Archive
  pub budget : Option ℕ
  pub log : List Entry

-- each row stands under its own key
abbrev pub HaveTheirKeys : List (List ℕ × Row) → Type 0
HaveTheirKeys rows = (key : List ℕ) → IfSome (value_at key rows) (λ row. row.key ≡ key)

-- a row as it is given: it is archived where its key has an archive
abbrev pub row_with : List ℕ → List Archive → Row → Row
row_with key archives row = record row { archived = has_archive key archives }

abbrev pub row_at : List ℕ → MemoryState → Option Row
row_at key memory = option_map (row_with key memory.archives) (value_at key memory.rows)

-- the map has these rows and nothing else
pub record IsMapOf (memory : MemoryState) (map : RowMap) : Type 0 where
  pub rows : (key : List ℕ) → map.rows key ≡ option_map reads (row_at key memory)
  pub archives : map.archives ≡ memory.archives
  pub budget : map.budget ≡ memory.budget

-- what a command that was done leaves, but for the log
pub record Leaves (old new : MemoryState) (rows : List (List ℕ × Row)) (archives : List Archive) : Type 0 where
  pub rows_are : new.rows ≡ rows
  pub archives_are : new.archives ≡ archives
  pub budget_is : new.budget ≡ old.budget

-- nothing but the log is changed
abbrev pub Stays : MemoryState → MemoryState → Type 0
Stays old new = Leaves old new old.rows old.archives

-- the row stands under its key, and the archives that have to go are gone
abbrev pub SetsRow : Row → MemoryState → MemoryState → Type 0
SetsRow row old new = Leaves old new (with_value row.key row old.rows) (left_for row old.budget old.archives)

abbrev pub TouchesArchive : List ℕ → MemoryState → MemoryState → Type 0
TouchesArchive key old new = Leaves old new old.rows (touched key old.archives)

abbrev pub DropsArchive : List ℕ → MemoryState → MemoryState → Type 0
DropsArchive key old new = Leaves old new old.rows (without_archive key old.archives)

-- memory ran out, or the row needs a number and none is left
abbrev pub CannotPut : Row → Option ℕ → List Archive → RecordError → Type 0
CannotPut row budget archives e = (e ≡ OutOfMemory) ⊎ ((e ≡ Refused UsesSpent) × IsTrue (keeps_archive row budget) × AreSpent archives)

-- memory ran out, the key has no archive, or no number is left
abbrev pub CannotTouch : List ℕ → List Archive → RecordError → Type 0
CannotTouch key archives e =
    (e ≡ OutOfMemory)
    ⊎ (((e ≡ Refused NoRow) × (has_archive key archives ≡ false)) ⊎ ((e ≡ Refused UsesSpent) × IsTrue (has_archive key archives) × AreSpent archives))

-- memory ran out, or there is no row with the key
abbrev pub CannotDrop : List ℕ → List (List ℕ × Row) → RecordError → Type 0
CannotDrop key rows e = (e ≡ OutOfMemory) ⊎ ((e ≡ Refused NoRow) × (value_at key rows ≡ None))
