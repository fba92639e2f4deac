-- What is always so of the rows and the archives of a record: laws of the map.
use Rattle.std.specs.Prelude.{◌≡◌, ℕ, ◌<◌, ◌≤◌, false, List, [], ◌∷◌, drop, Some, IsTrue, IsSome}
use Rattle.job_rows.specs.declared.archive.Archive.{Archive}
use Rattle.job_rows.specs.declared.row.Row.{Row}
use Rattle.job_rows.specs.Map.{RowMap, Change, reads, changed_by, has_archive, total_bytes, lost_count, archives_with, left_for}

-- no key has two archives
abbrev pub AreApart : List Archive → Type 0
AreApart [] = Unit {0}
AreApart (archive ∷ archives) = (has_archive archive.key archives ≡ false) × AreApart archives

-- each archive was used after those before it, and after that number
abbrev pub AreRising : ℕ → List Archive → Type 0
AreRising last [] = Unit {0}
AreRising last (archive ∷ archives) = (last < archive.used) × AreRising archive.used archives

pub record IsInStep (map : RowMap) : Type 0 where
  -- a row is archived where its key has an archive, and each archive is that of a row
  pub flags : (key : List ℕ) (row : Row) → map.rows key ≡ Some (reads row) → row.archived ≡ has_archive key map.archives
  pub owned : (key : List ℕ) → IsTrue (has_archive key map.archives) → IsSome (map.rows key)
  pub apart : AreApart map.archives
  pub rising : AreRising 0 map.archives

-- each command leaves it so
abbrev pub StaysInStep : Type 0
StaysInStep = (change : Change) (map : RowMap) → IsInStep map → IsInStep (changed_by change map)

-- after a row is put the archives are within the budget, and with one that went they were not
pub record KeepsBudget (row : Row) (budget : ℕ) (archives : List Archive) : Type 0 where
  pub within : total_bytes (left_for row (Some budget) archives) ≤ budget
  pub fewest : (n : ℕ) → n < lost_count (Some budget) (archives_with row (Some budget) archives) → budget < total_bytes (drop n (archives_with row (Some budget) archives))

abbrev pub AlwaysKeepsBudget : Type 0
AlwaysKeepsBudget = (row : Row) (budget : ℕ) (archives : List Archive) → KeepsBudget row budget archives
