-- A record as a finite map from key to row, with the archives that it keeps, and what each command makes of it.
use Rattle.std.specs.Prelude.{◌≡◌, ℕ, ◌+◌, ◌-◌, ◌^◌, ◌≤◌, ◌<◌, min, max, suc, nat_le, Bool, true, false, not, ◌&&◌, ◌||◌, if◌then◌else◌, List, [], ◌∷◌, ◌++◌, map, filter, find, sum_by, take, drop, Option, Some, None, option_map, option_to_list, Result, Ok, Err, IsTrue, bytes_eq}
use Rattle.std.specs.List.{list_any}
use Rattle.job_rows.specs.declared.archive.Archive.{Archive}
use Rattle.job_rows.specs.declared.row.Row.{Row}
use Rattle.job_rows.specs.declared.refusal.RecordError.{RecordError}
use Rattle.job_rows.specs.declared.refusal.RecordError.TheVariants.{Refused, OutOfMemory}
use Rattle.job_rows.specs.declared.refusal.RecordRefusal.TheVariants.{NotARecord, WrongVersion, NoRow, Store, UsesSpent}
use Rattle.job_rows.specs.Storable.{IsKept}

-- what stands under a key: a row, or what does not read as one
pub data Kept : Type 0 where
  reads : Row → Kept
  unread : Kept

-- what stands under each key; the archives that are kept, by the rising numbers of their last use; and how many bytes they may have together
pub record RowMap : Type 0 where
  pub rows : List ℕ → Option Kept
  pub archives : List Archive
  pub budget : Option ℕ

-- no row
abbrev pub no_rows : Option ℕ → RowMap
no_rows budget = record { rows = λ key. None; archives = []; budget = budget }

-- ---- archives

abbrev pub is_of : List ℕ → Archive → Bool
is_of key archive = bytes_eq key archive.key

abbrev pub has_archive : List ℕ → List Archive → Bool
has_archive key archives = list_any (is_of key) archives

abbrev pub without_archive : List ℕ → List Archive → List Archive
without_archive key archives = filter (λ archive. not (is_of key archive)) archives

abbrev pub keys_in : List Archive → List (List ℕ)
keys_in archives = map (λ archive. archive.key) archives

abbrev pub total_bytes : List Archive → ℕ
total_bytes [] = 0
total_bytes (archive ∷ archives) = archive.bytes + total_bytes archives

-- the greatest number of a use, or 0
abbrev pub greatest_used : List Archive → ℕ
greatest_used [] = 0
greatest_used (archive ∷ archives) = max archive.used (greatest_used archives)

abbrev pub greatest_number : ℕ
greatest_number = 2 ^ 63 - 1

-- no number is left for a next use
abbrev pub AreSpent : List Archive → Type 0
AreSpent archives = greatest_number ≤ greatest_used archives

-- a number is left for a next use
abbrev pub AreUnspent : List Archive → Type 0
AreUnspent archives = greatest_used archives < greatest_number

abbrev pub next_used : List Archive → ℕ
next_used archives = greatest_used archives + 1

-- the archive of a key is used: it comes last, with the next number
abbrev pub touched : List ℕ → List Archive → List Archive
touched key archives = without_archive key archives ++ option_to_list (option_map (λ (archive : Archive). record archive { used = next_used archives }) (find (is_of key) archives))

-- How many archives have to go, oldest first, until the rest is within the budget.
abbrev pub lost_count : Option ℕ → List Archive → ℕ
lost_count None archives = 0
lost_count (Some budget) [] = 0
lost_count (Some budget) (archive ∷ archives) = if nat_le (total_bytes (archive ∷ archives)) budget then 0 else suc (lost_count (Some budget) archives)

-- ---- a row that is put

-- the bytes of the row's files, held to the greatest number that a store has
abbrev pub bytes_of : Row → ℕ
bytes_of row = min (sum_by (λ file. file.size) row.files) greatest_number

abbrev pub fits : ℕ → Option ℕ → Bool
fits bytes None = true
fits bytes (Some budget) = nat_le bytes budget

-- it has an archive, and that alone is within the budget
abbrev pub keeps_archive : Row → Option ℕ → Bool
keeps_archive row budget = row.archived && fits (bytes_of row) budget

-- the archive that the row gets, if any
abbrev pub own_archives : Row → Option ℕ → List Archive → List Archive
own_archives row budget archives = if keeps_archive row budget then record { key = row.key; bytes = bytes_of row; used = next_used archives } ∷ [] else []

-- the archives with that of the row, before any has to go
abbrev pub archives_with : Row → Option ℕ → List Archive → List Archive
archives_with row budget archives = without_archive row.key archives ++ own_archives row budget archives

-- those that have to go, and those that stay
abbrev pub lost_for : Row → Option ℕ → List Archive → List Archive
lost_for row budget archives = let all = archives_with row budget archives in take (lost_count budget all) all

abbrev pub left_for : Row → Option ℕ → List Archive → List Archive
left_for row budget archives = let all = archives_with row budget archives in drop (lost_count budget all) all

-- the row's own archive is lost, or refused
abbrev pub loses_own : Row → Option ℕ → List Archive → Bool
loses_own row budget archives = not (keeps_archive row budget) && (row.archived || has_archive row.key archives)

abbrev pub own_keys : Row → Option ℕ → List Archive → List (List ℕ)
own_keys row budget archives = if loses_own row budget archives then row.key ∷ [] else []

-- the keys that are without their archive by a row that is put: the others, by rising number, and last its own
abbrev pub lost_by : Row → Option ℕ → List Archive → List (List ℕ)
lost_by row budget archives = keys_in (lost_for row budget archives) ++ own_keys row budget archives

-- ---- the commands

-- what a command changes: it sets the whole row of its key, says that a key's archive was used or is gone, or takes a key's row out
pub data Change : Type 0 where
  sets : Row → Change
  touches : List ℕ → Change
  unarchives : List ℕ → Change
  forgets : List ℕ → Change

abbrev pub unarchived : Kept → Kept
unarchived (reads row) = reads (record row { archived = false })
unarchived unread = unread

-- what stands under a key once a row is put: an archive that has to go is gone from its row too
abbrev pub row_after : Row → RowMap → List ℕ → Option Kept
row_after row map key =
    if bytes_eq key row.key then Some (reads (record row { archived = keeps_archive row map.budget }))
    else if has_archive key (lost_for row map.budget map.archives) then option_map unarchived (map.rows key) else map.rows key

-- the map with the change
abbrev pub changed_by : Change → RowMap → RowMap
changed_by (sets row) map = record map { rows = row_after row map; archives = left_for row map.budget map.archives }
changed_by (touches key) map = record map { archives = touched key map.archives }
changed_by (unarchives gone) map = record map { rows = λ key. if bytes_eq key gone then option_map unarchived (map.rows key) else map.rows key; archives = without_archive gone map.archives }
changed_by (forgets gone) map = record map { rows = λ key. if bytes_eq key gone then None else map.rows key; archives = without_archive gone map.archives }

-- the map after the changes of the commands that were done, in their order
abbrev pub changed_by_all : List Change → RowMap → RowMap
changed_by_all [] map = map
changed_by_all (change ∷ changes) map = changed_by_all changes (changed_by change map)

-- ---- what each command answers of the map, and what the map is after it; `Holds` says which maps the record then is

-- `find` gives the row of the key, which has this key, says that there is none, or is refused by R1 for what does not read; the map stays
abbrev pub Finds : RowMap → List ℕ → Result (Option Row) RecordError → Type 0
Finds map key (Ok None) = map.rows key ≡ None
Finds map key (Ok (Some row)) = (map.rows key ≡ Some (reads row)) × (row.key ≡ key)
Finds map key (Err (Refused NotARecord)) = map.rows key ≡ Some unread
Finds map key (Err (Refused WrongVersion)) = ⊥
Finds map key (Err (Refused NoRow)) = ⊥
Finds map key (Err (Refused Store)) = Unit {0}
Finds map key (Err (Refused UsesSpent)) = ⊥
Finds map key (Err OutOfMemory) = Unit {0}

-- `put` sets the whole row, where its outputs are such as are read back, and answers the keys that are without their archive by it; where the
-- row needs a number, one is left. Refused, it changes nothing: by R4, or by R5 where the row needs a number and none is left
abbrev pub Puts : (RowMap → Type 0) → RowMap → Row → Result (List (List ℕ)) RecordError → Type 0
Puts Holds map row (Ok keys) = (keys ≡ lost_by row map.budget map.archives) × (IsTrue (keeps_archive row map.budget) → AreUnspent map.archives) × (IsKept row.outputs → Holds (changed_by (sets row) map))
Puts Holds map row (Err (Refused NotARecord)) = ⊥
Puts Holds map row (Err (Refused WrongVersion)) = ⊥
Puts Holds map row (Err (Refused NoRow)) = ⊥
Puts Holds map row (Err (Refused Store)) = Holds map
Puts Holds map row (Err (Refused UsesSpent)) = IsTrue (keeps_archive row map.budget) × AreSpent map.archives × Holds map
Puts Holds map row (Err OutOfMemory) = Holds map

-- `touch` gives the key's archive the next number, where one is left; refused, it changes nothing: by R3 where there is no such archive, by R4,
-- or by R5 where no number is left
abbrev pub Touches : (RowMap → Type 0) → RowMap → List ℕ → Result (Unit {0}) RecordError → Type 0
Touches Holds map key (Ok done) = IsTrue (has_archive key map.archives) × AreUnspent map.archives × Holds (changed_by (touches key) map)
Touches Holds map key (Err (Refused NotARecord)) = ⊥
Touches Holds map key (Err (Refused WrongVersion)) = ⊥
Touches Holds map key (Err (Refused NoRow)) = (has_archive key map.archives ≡ false) × Holds map
Touches Holds map key (Err (Refused Store)) = Holds map
Touches Holds map key (Err (Refused UsesSpent)) = IsTrue (has_archive key map.archives) × AreSpent map.archives × Holds map
Touches Holds map key (Err OutOfMemory) = Holds map

-- `drop_archive` says of the key's row that its archive is gone; refused, it changes nothing, and R3 says that there is no such row
abbrev pub Drops : (RowMap → Type 0) → RowMap → List ℕ → Result (Unit {0}) RecordError → Type 0
Drops Holds map key (Ok done) = ((kept : Kept) × (map.rows key ≡ Some kept)) × Holds (changed_by (unarchives key) map)
Drops Holds map key (Err (Refused NotARecord)) = ⊥
Drops Holds map key (Err (Refused WrongVersion)) = ⊥
Drops Holds map key (Err (Refused NoRow)) = (map.rows key ≡ None) × Holds map
Drops Holds map key (Err (Refused Store)) = Holds map
Drops Holds map key (Err (Refused UsesSpent)) = ⊥
Drops Holds map key (Err OutOfMemory) = Holds map
