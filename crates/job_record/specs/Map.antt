-- The record as a finite map from key to the columns of its row, with the archives that it keeps, and what each command makes of it.
use Rattle.std.specs.Prelude.{◌≡◌, ℕ, pos, false, if◌then◌else◌, List, ◌∷◌, [], ◌++◌, take, Option, Some, None, option_map, Result, Ok, Err, IsTrue, IsSome, IsUtf8, bytes_eq}
use Rattle.std.specs.declared.cmp.Ordering.{Ordering}
use Rattle.std.specs.Ordering.{nat_cmp}
use Rattle.std.specs.Cmp.Lexicographic.{slice_cmp}
use Rattle.std.specs.List.Sorted.{IsSorted}
use Rattle.sqlite.specs.declared.types.Value.TheVariants.{Int}
use Rattle.sqlite.specs.Order.{Row as Columns, column}
use Rattle.sqlite.specs.Table.{Table}
use Rattle.sqlite.specs.Effect.{Database, IsDatabase}
use Rattle.sqlite.specs.State.{State, IsUnchanged}
use Rattle.sqlite_trees.specs.Tree.{IsTable}
use Rattle.sqlite_rules.specs.Lists.{Has}
use Rattle.job_rows.specs.declared.archive.Archive.{Archive}
use Rattle.job_rows.specs.declared.row.Row.{Row}
use Rattle.job_rows.specs.Map.{has_archive, without_archive, touched, keeps_archive, left_for, lost_for, lost_by, AreSpent, AreUnspent}
use Rattle.job_record.specs.declared.fault.RecordFault.{RecordFault}
use Rattle.job_record.specs.declared.fault.RecordFault.TheVariants.{NotARecord, WrongVersion, NoRow, Store, UsesSpent, OutOfMemory}
use Rattle.job_record.specs.Statements.{put_params}
use Rattle.job_record.specs.Columns.{IsRowOf, IsUnread, AreRowsOf}
use Rattle.job_record.specs.Places.{job_tree, archive_tree, IsOther, HasRecord, with_record, with_archive}
use Rattle.job_record.specs.Keyed.{held_in, IsKeyed}
use Rattle.job_record.specs.Archives.{AreArchives}

-- what the record has for a key
abbrev pub held : State → List ℕ → Option Columns
held s = held_in (s.now.trees (job_tree s.now.schema))

-- The store holds the tables of a record, wherever they stand, and no transaction is open.
pub record IsRecord (s : State) : Type 0 where
  pub schema : HasRecord s.now.schema
  pub sound : IsDatabase s.now
  pub keyed : IsKeyed (s.now.trees (job_tree s.now.schema))
  pub kept : IsKeyed (s.now.trees (archive_tree s.now.schema))
  pub ordered : IsTable (s.now.trees (archive_tree s.now.schema))
  pub settled : s.committed ≡ s.now
  pub autocommit : s.in_transaction ≡ false

-- ---- the map

-- The columns of each key, the archives that are kept, by the rising numbers of their last use, and how many bytes these may have together;
-- and beside the record, what tables and indexes the database has, and the rows of its other tables.
pub record KeyMap : Type 0 where
  pub rows : List ℕ → Option Columns
  pub archives : List Archive
  pub budget : Option ℕ
  pub beside : Database

-- beside a record that is made in a database is all that was there
abbrev pub made_beside : Database → Database
made_beside db = record { schema = with_record db.schema; trees = db.trees }

-- and beside one of version 1 that is made one of version 2
abbrev pub migrated_beside : Database → Database
migrated_beside db = record { schema = with_archive db.schema; trees = db.trees }

abbrev pub no_columns : Database → Option ℕ → KeyMap
no_columns db budget = record { rows = λ key. None; archives = []; budget = budget; beside = made_beside db }

-- a database with the tables of a record and these others, and what they hold
pub record HoldsMap (db : Database) (map : KeyMap) : Type 0 where
  pub schema : db.schema ≡ map.beside.schema
  pub has : HasRecord map.beside.schema
  pub beside : (t : Table) → Has map.beside.schema.tables t → IsOther map.beside.schema t → db.trees t.tree ≡ map.beside.trees t.tree
  pub sound : IsDatabase db
  pub keyed : IsKeyed (db.trees (job_tree map.beside.schema))
  pub kept : IsKeyed (db.trees (archive_tree map.beside.schema))
  pub ordered : IsTable (db.trees (archive_tree map.beside.schema))
  pub rows : (key : List ℕ) → held_in (db.trees (job_tree map.beside.schema)) key ≡ map.rows key
  pub archives : AreArchives (db.trees (archive_tree map.beside.schema)) map.archives

-- the flag of a row is 1 if its key has an archive, and each archive is that of a row
pub record IsInStep (map : KeyMap) : Type 0 where
  pub flags : (key : List ℕ) (c : Columns) → map.rows key ≡ Some c → column c 4 ≡ Int (pos (if has_archive key map.archives then 1 else 0))
  pub owned : (key : List ℕ) → IsTrue (has_archive key map.archives) → IsSome (map.rows key)

-- the store holds this record, beside these other tables, and no transaction is open
pub record IsRecordOf (s : State) (map : KeyMap) : Type 0 where
  pub holds : HoldsMap s.now map
  pub in_step : IsInStep map
  pub settled : s.committed ≡ s.now
  pub autocommit : s.in_transaction ≡ false

-- ---- what a command changes

-- the columns with the flag at 0
abbrev pub unarchived : Columns → Columns
unarchived columns = take 4 columns ++ Int (pos 0) ∷ []

-- the row is archived if its archive alone is within the budget
abbrev pub kept_as : Option ℕ → Row → Row
kept_as budget row = record row { archived = keeps_archive row budget }

-- what a command asks for: to set the whole row of its key, to note that the archive of a key was used or is gone, or to take a row out
pub data Change : Type 0 where
  sets : Row → Change
  touches : List ℕ → Change
  unarchives : List ℕ → Change
  forgets : List ℕ → Change

-- the columns of a key once a row is set: an archive that has to go is gone from its row too
abbrev pub columns_after : Row → KeyMap → List ℕ → Option Columns
columns_after row map key =
    if bytes_eq key row.key then Some (put_params (kept_as map.budget row))
    else if has_archive key (lost_for row map.budget map.archives) then option_map unarchived (map.rows key) else map.rows key

-- the map with the change
abbrev pub changed_by : Change → KeyMap → KeyMap
changed_by (sets row) map = record map { rows = columns_after row map; archives = left_for row map.budget map.archives }
changed_by (touches key) map = record map { archives = touched key map.archives }
changed_by (unarchives gone) map = record map { rows = λ key. if bytes_eq key gone then option_map unarchived (map.rows key) else map.rows key; archives = without_archive gone map.archives }
changed_by (forgets gone) map = record map { rows = λ key. if bytes_eq key gone then None else map.rows key; archives = without_archive gone map.archives }

-- ---- what becomes of the store

-- nothing in it is changed
abbrev pub IsSame : State → State → Type 0
IsSame old new = new.now ≡ old.now

-- it stands, unless a failure of the store shut it
abbrev pub Stands : State → State → Type 0
Stands old new = IsTrue new.is_open → IsSame old new × IsRecord new

-- `find` gives the row of the key, or says that it does not read, and changes nothing in the store
abbrev pub FindsIn : State → State → List ℕ → Result (Option Row) RecordFault → Type 0
FindsIn old new key (Ok None) = (held old key ≡ None) × IsUnchanged old new × IsRecord new
FindsIn old new key (Ok (Some row)) = (c : Columns) × (held old key ≡ Some c) × IsRowOf c row × IsUnchanged old new × IsRecord new
FindsIn old new key (Err NotARecord) = (c : Columns) × (held old key ≡ Some c) × IsUnread c × IsUnchanged old new × IsRecord new
FindsIn old new key (Err _) = Stands old new

-- `put` sets the whole row of its key, and answers the keys that are without their archive by it; R5 says that the row needs the number of a
-- use and none is left
abbrev pub PutsIn : KeyMap → State → State → Row → Result (List (List ℕ)) RecordFault → Type 0
PutsIn map old new row (Ok keys) =
    (keys ≡ lost_by row map.budget map.archives) × (IsTrue (keeps_archive row map.budget) → AreUnspent map.archives) × IsRecordOf new (changed_by (sets row) map)
PutsIn map old new row (Err NotARecord) = ⊥
PutsIn map old new row (Err WrongVersion) = ⊥
PutsIn map old new row (Err NoRow) = ⊥
PutsIn map old new row (Err (Store e)) = Stands old new
PutsIn map old new row (Err UsesSpent) = IsTrue (keeps_archive row map.budget) × AreSpent map.archives × Stands old new
PutsIn map old new row (Err OutOfMemory) = Stands old new

-- `touch` gives the archive of the key the next number; R3 says that the key has no archive, and R5 that no number is left
abbrev pub TouchesIn : KeyMap → State → State → List ℕ → Result (Unit {0}) RecordFault → Type 0
TouchesIn map old new key (Ok done) = IsTrue (has_archive key map.archives) × AreUnspent map.archives × IsRecordOf new (changed_by (touches key) map)
TouchesIn map old new key (Err NotARecord) = ⊥
TouchesIn map old new key (Err WrongVersion) = ⊥
TouchesIn map old new key (Err NoRow) = (has_archive key map.archives ≡ false) × Stands old new
TouchesIn map old new key (Err (Store e)) = Stands old new
TouchesIn map old new key (Err UsesSpent) = IsTrue (has_archive key map.archives) × AreSpent map.archives × Stands old new
TouchesIn map old new key (Err OutOfMemory) = Stands old new

-- `drop_archive` and `forget` make their change if the key has a row, and R3 says that there is none
abbrev pub ChangesIn : Change → List ℕ → KeyMap → State → State → Result (Unit {0}) RecordFault → Type 0
ChangesIn change key map old new (Ok done) = IsSome (map.rows key) × IsRecordOf new (changed_by change map)
ChangesIn change key map old new (Err NotARecord) = ⊥
ChangesIn change key map old new (Err WrongVersion) = ⊥
ChangesIn change key map old new (Err NoRow) = (map.rows key ≡ None) × Stands old new
ChangesIn change key map old new (Err (Store e)) = Stands old new
ChangesIn change key map old new (Err UsesSpent) = ⊥
ChangesIn change key map old new (Err OutOfMemory) = Stands old new

-- by the bytes of their keys
abbrev pub by_key : Row → Row → Ordering
by_key a b = slice_cmp nat_cmp a.key b.key

-- `list` gives the rows of the map, and no others, in the order of their keys, or one of them does not read, and changes nothing
abbrev pub ListsIn : State → State → Result (List Row) RecordFault → Type 0
ListsIn old new (Ok rows) =
    (all : List Columns) × AreRowsOf all rows × ((c : Columns) → Has all c → (key : List ℕ) × (held old key ≡ Some c)) × ((key : List ℕ) (c : Columns) → held old key ≡ Some c → Has all c)
    × IsSorted by_key rows × IsUnchanged old new × IsRecord new
ListsIn old new (Err NotARecord) = (key : List ℕ) × (c : Columns) × (held old key ≡ Some c) × IsUnread c × IsUnchanged old new × IsRecord new
ListsIn old new (Err _) = Stands old new

-- `keys` gives the keys of the map, and no others, whatever else their columns hold, or one of them is no text in UTF-8, and changes nothing
abbrev pub KeysIn : State → State → Result (List (List ℕ)) RecordFault → Type 0
KeysIn old new (Ok keys) =
    ((key : List ℕ) → Has keys key → (c : Columns) × (held old key ≡ Some c)) × ((key : List ℕ) (c : Columns) → held old key ≡ Some c → Has keys key) × IsUnchanged old new × IsRecord new
KeysIn old new (Err NotARecord) = (key : List ℕ) × (c : Columns) × (held old key ≡ Some c) × (¬ IsUtf8 key) × IsUnchanged old new × IsRecord new
KeysIn old new (Err _) = Stands old new

-- `archives_of` gives the archives of the map, the oldest use first, and changes nothing; each of them reads
abbrev pub ArchivesIn : KeyMap → State → State → Result (List Archive) RecordFault → Type 0
ArchivesIn map old new (Ok archives) = (archives ≡ map.archives) × IsUnchanged old new × IsRecord new
ArchivesIn map old new (Err NotARecord) = ⊥
ArchivesIn map old new (Err WrongVersion) = ⊥
ArchivesIn map old new (Err NoRow) = ⊥
ArchivesIn map old new (Err (Store e)) = Stands old new
ArchivesIn map old new (Err UsesSpent) = ⊥
ArchivesIn map old new (Err OutOfMemory) = Stands old new
