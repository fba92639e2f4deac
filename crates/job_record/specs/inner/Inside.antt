-- What a step inside a transaction makes of a record's map, and a whole transaction.
use Rattle.std.specs.Prelude.{◌≡◌, ◌⊎◌, ◌≤◌, ◌<◌, ℕ, pos, sum_by, ◌+◌, ◌-◌, ◌^◌, min, Bool, false, not, ◌&&◌, ◌||◌, is_some, if◌then◌else◌, List, [], ◌∷◌, ◌++◌, take, drop, find, slice_get, Option, Some, None, option_map, unwrap_or, Result, Ok, Err, IsTrue, IsSome, IfSome, IsUtf8, bytes_eq}
use Rattle.sqlite.specs.declared.types.Value.{Value}
use Rattle.sqlite.specs.declared.types.Value.TheVariants.{Int}
use Rattle.sqlite.specs.Order.{Row as Columns, column}
use Rattle.sqlite.specs.Tree.{Trees}
use Rattle.sqlite.specs.Store.{Ghosts}
use Rattle.sqlite.specs.declared.error.Error.{Error}
use Rattle.sqlite.specs.State.{State, HasCleanDisk, Shows, IsRolledBack, KeepsCommit, Survives}
use Rattle.sqlite.specs.Held.{Held, state}
use Rattle.job_rows.specs.declared.archive.Archive.{Archive}
use Rattle.job_rows.specs.declared.row.Row.{Row}
use Rattle.job_rows.specs.Map.{is_of, has_archive, without_archive, keys_in, greatest_used, next_used, greatest_number, bytes_of, total_bytes, lost_count, AreSpent, AreUnspent}
use Rattle.job_record.specs.declared.fault.RecordFault.{RecordFault}
use Rattle.job_record.specs.declared.fault.RecordFault.TheVariants.{NoRow, Store, UsesSpent, OutOfMemory}
use Rattle.job_record.specs.declared.changes.Putting.{Putting}
use Rattle.job_record.specs.declared.changes.Space.{Space}
use Rattle.job_record.specs.declared.texts.Stored.{Stored}
use Rattle.job_record.specs.Columns.{columns_of}
use Rattle.job_record.specs.Texts.{texts_of}
use Rattle.job_record.specs.Blame.{RunsOn, Blames}
use Rattle.job_record.specs.Map.{KeyMap, HoldsMap, unarchived, kept_as, Change, touches, changed_by}

-- ---- one step

-- the transaction goes on
pub record GoesOn (old new : State) : Type 0 where
  pub was_open : IsTrue old.is_open
  pub is_open : IsTrue new.is_open
  pub committed : new.committed ≡ old.committed
  pub going : IsTrue new.in_transaction

-- the store refused, or memory ran out
abbrev pub IsOfStore : RecordFault → Type 0
IsOfStore (Store e) = Unit {0}
IsOfStore OutOfMemory = Unit {0}
IsOfStore _ = ⊥

-- what a step answers of the map, and which map it leaves
abbrev pub Answer : Type 0 → Type 1
Answer T = KeyMap → T → KeyMap → Type 0

-- If the map meets the premise, a step that goes on leaves what is told of it, and one that is refused has this cause, or the store's.
abbrev pub Steps : {T : Type 0} → State → State → (KeyMap → Type 0) → Answer T → (KeyMap → RecordFault → Type 0) → Result T RecordFault → Type 0
Steps old new Given Told Why (Ok value) = GoesOn old new × ((map : KeyMap) → HoldsMap old.now map → Given map → (next : KeyMap) × HoldsMap new.now next × Told map value next)
Steps old new Given Told Why (Err fault) =
    KeepsCommit old new × (IsOfStore fault ⊎ IsTrue old.is_open) × ((map : KeyMap) → HoldsMap old.now map → Given map → IsOfStore fault ⊎ Why map fault)

-- The same on a clean disk and in a transaction, if the premise holds; and nothing is committed on the way.
abbrev pub Walks : {T : Type 0} → Type 0 → State → State → (KeyMap → Type 0) → Answer T → (KeyMap → RecordFault → Type 0) → Result T RecordFault → Type 0
Walks Premise old new Given Told Why result = Survives old new (λ _. ⊥) × (HasCleanDisk new → IsTrue old.in_transaction → Premise → Steps old new Given Told Why result)

-- of an open connection
abbrev pub WalksOn : {T : Type 0} → State → State → (KeyMap → Type 0) → Answer T → (KeyMap → RecordFault → Type 0) → Result T RecordFault → Type 0
WalksOn old new Given Told Why result = Walks (IsTrue old.is_open) old new Given Told Why result

abbrev pub Always : KeyMap → Type 0
Always map = Unit {0}

abbrev pub Never : KeyMap → RecordFault → Type 0
Never map fault = ⊥

-- a step that only reads
abbrev pub Reads : {T : Type 0} → State → State → (KeyMap → T → Type 0) → Result T RecordFault → Type 0
Reads old new Told result = Steps old new Always (λ map value next. (next ≡ map) × Told map value) Never result

-- a step that writes
abbrev pub Makes : {T : Type 0} → State → State → (KeyMap → KeyMap) → Result T RecordFault → Type 0
Makes old new change result = Steps old new Always (λ map value next. next ≡ change map) Never result

-- ---- the tables

abbrev pub with_row : Stored → KeyMap → KeyMap
with_row stored map = record map { rows = λ key. if bytes_eq key stored.key then Some (columns_of stored) else map.rows key }

abbrev pub without_flag : List ℕ → KeyMap → KeyMap
without_flag gone map = record map { rows = λ key. if bytes_eq key gone then option_map unarchived (map.rows key) else map.rows key }

abbrev pub without_row : List ℕ → KeyMap → KeyMap
without_row gone map = record map { rows = λ key. if bytes_eq key gone then None else map.rows key }

abbrev pub with_archives : List Archive → KeyMap → KeyMap
with_archives archives map = record map { archives = archives }

-- whether there was a row
abbrev pub Meets : List ℕ → (KeyMap → KeyMap) → Answer Bool
Meets key change map met next = (next ≡ change map) × (met ≡ is_some (map.rows key))

-- the bytes of the archive of a key
abbrev pub bytes_at : List ℕ → KeyMap → Option ℕ
bytes_at key map = option_map (λ (archive : Archive). archive.bytes) (find (is_of key) map.archives)

abbrev pub oldest_of : KeyMap → Option (List ℕ × ℕ)
oldest_of map = option_map (λ (archive : Archive). (archive.key, archive.bytes)) (slice_get map.archives 0)

-- ---- columns with numbers

abbrev pub number_in : Value → ℕ
number_in (Int (pos n)) = n
number_in _ = 0

abbrev pub sum_in : List Columns → ℕ
sum_in all = sum_by (λ c. number_in (column c 0)) all

-- ---- the commands

-- the row as it is put
abbrev pub putting_of : Option ℕ → Row → Putting
putting_of budget row = record { stored = texts_of (kept_as budget row); bytes = bytes_of row; is_asked = row.archived }

-- how many bytes the archives have, if that was counted
abbrev pub IsCounted : Option ℕ → KeyMap → Type 0
IsCounted counted map = IfSome counted (λ bytes. bytes ≡ total_bytes map.archives)

-- the archive that a row gets
abbrev pub own_of : Putting → List Archive → List Archive
own_of putting archives = if putting.stored.archived then record { key = putting.stored.key; bytes = putting.bytes; used = next_used archives } ∷ [] else []

-- the row is set, with its archive, and before any other has to go
abbrev pub set_alone : Putting → KeyMap → KeyMap
set_alone putting map = with_archives (without_archive putting.stored.key map.archives ++ own_of putting map.archives) (with_row putting.stored map)

-- so many archives went, oldest first
abbrev pub after_loss : ℕ → KeyMap → KeyMap
after_loss count map = with_archives (drop count map.archives) (record map { rows = λ key. if has_archive key (take count map.archives) then option_map unarchived (map.rows key) else map.rows key })

abbrev pub lost_in : KeyMap → ℕ
lost_in map = lost_count map.budget map.archives

abbrev pub lost_keys : KeyMap → List (List ℕ)
lost_keys map = keys_in (take (lost_in map) map.archives)

-- the key of a row that is put, if its own archive is lost or refused
abbrev pub own_key : Putting → Option ℕ → List (List ℕ)
own_key putting had = if not putting.stored.archived && (putting.is_asked || is_some had) then putting.stored.key ∷ [] else []

-- the bytes of all archives once a row is set, from those before, if they fit
abbrev pub total_after : ℕ → Putting → Option ℕ → ℕ
total_after before putting had = min (before - unwrap_or had 0 + (if putting.stored.archived then putting.bytes else 0)) (2 ^ 128 - 1)

-- ---- what the steps need and answer

-- the number of the next use, if one is left
abbrev pub IsNext : KeyMap → ℕ → Type 0
IsNext map used = (used ≡ next_used map.archives) × AreUnspent map.archives

abbrev pub CanAdd : List ℕ → ℕ → ℕ → KeyMap → Type 0
CanAdd key bytes used map = (has_archive key map.archives ≡ false) × (greatest_used map.archives < used) × (used ≤ greatest_number) × (bytes ≤ greatest_number) × IsUtf8 key

abbrev pub CanRenumber : List ℕ → ℕ → KeyMap → Type 0
CanRenumber key used map = IsTrue (has_archive key map.archives) × IsNext map used

-- its bytes are no more than the store has a number for, and its key is a text
pub record IsStorable (putting : Putting) : Type 0 where
  pub bytes : putting.bytes ≤ greatest_number
  pub key : IsUtf8 putting.stored.key

abbrev pub CanPut : Option ℕ → Option ℕ → Putting → KeyMap → Type 0
CanPut budget counted putting map = (map.budget ≡ budget) × IsCounted counted map × IsStorable putting

abbrev pub CannotPut : Putting → KeyMap → RecordFault → Type 0
CannotPut putting map fault = (fault ≡ UsesSpent) × IsTrue putting.stored.archived × AreSpent map.archives

abbrev pub SetsAlone : Putting → Answer (Option ℕ)
SetsAlone putting map had next = (next ≡ set_alone putting map) × (had ≡ bytes_at putting.stored.key map) × (IsTrue putting.stored.archived → AreUnspent map.archives)

-- the bytes of all archives are known, or will be counted
abbrev pub CanLose : Option ℕ → Option ℕ → Putting → Option ℕ → KeyMap → Type 0
CanLose budget counted putting had map = (map.budget ≡ budget) × IfSome counted (λ before. total_after before putting had ≡ total_bytes map.archives)

abbrev pub Loses : Answer (List (List ℕ) × Option ℕ)
Loses map lost next = (next ≡ after_loss (lost_in map) map) × (lost.0 ≡ lost_keys map) × IsCounted lost.1 next

abbrev pub LosesFrom : List (List ℕ) → List (List ℕ) → Answer ℕ
LosesFrom before after map left next = (next ≡ after_loss (lost_in map) map) × (after ≡ before ++ lost_keys map) × (left ≡ total_bytes next.archives)

abbrev pub LosesOldest : Answer (List ℕ × ℕ)
LosesOldest map lost next = (next ≡ after_loss 1 map) × (oldest_of map ≡ Some lost)

abbrev pub Puts : Putting → Answer (List (List ℕ) × Option ℕ)
Puts putting map lost next =
    (IsTrue putting.stored.archived → AreUnspent map.archives) × (next ≡ after_loss (lost_in (set_alone putting map)) (set_alone putting map))
    × (lost.0 ≡ lost_keys (set_alone putting map) ++ own_key putting (bytes_at putting.stored.key map)) × IsCounted lost.1 next

abbrev pub Touches : List ℕ → Answer (Unit {0})
Touches key map done next = IsTrue (has_archive key map.archives) × AreUnspent map.archives × (next ≡ changed_by (touches key) map)

abbrev pub CannotTouch : List ℕ → KeyMap → RecordFault → Type 0
CannotTouch key map fault = ((fault ≡ NoRow) × (has_archive key map.archives ≡ false)) ⊎ ((fault ≡ UsesSpent) × IsTrue (has_archive key map.archives) × AreSpent map.archives)

abbrev pub Takes : Change → List ℕ → Answer (Option ℕ)
Takes change key map had next = IsSome (map.rows key) × (had ≡ bytes_at key map) × (next ≡ changed_by change map)

abbrev pub Lacks : List ℕ → KeyMap → RecordFault → Type 0
Lacks key map fault = (fault ≡ NoRow) × (map.rows key ≡ None)

-- ---- a whole transaction

-- It is committed, with what is told of it; or refused, and the last commit stands.
abbrev pub Changes : {T : Type 0} → State → State → (KeyMap → Type 0) → Answer T → (KeyMap → RecordFault → Type 0) → Result T RecordFault → Type 0
Changes old new Given Told Why (Ok value) =
    IsTrue old.is_open × IsTrue new.is_open × (new.committed ≡ new.now) × (new.in_transaction ≡ false)
    × ((map : KeyMap) → HoldsMap old.now map → Given map → (next : KeyMap) × HoldsMap new.now next × Told map value next)
Changes old new Given Told Why (Err fault) =
    (IsTrue new.is_open → IsTrue old.is_open × (new.now ≡ old.committed) × (new.committed ≡ old.committed)) × (new.in_transaction ≡ false)
    × (IsOfStore fault ⊎ IsTrue old.is_open) × ((map : KeyMap) → HoldsMap old.now map → Given map → IsOfStore fault ⊎ Why map fault)

-- what it may leave to a crash
abbrev pub LeavesBy : {T : Type 0} → Answer T → KeyMap → Trees → Type 0
LeavesBy {T} Told map trees = (value : T) × (next : KeyMap) × Told map value next × HoldsMap (record { schema = next.beside.schema; trees = trees }) next

-- only an open connection commits, and then what is told of the map
abbrev pub CrashesBy : {T : Type 0} → State → State → (KeyMap → Type 0) → Answer T → Type 0
CrashesBy old new Given Told = Survives old new (λ trees. IsTrue old.is_open × ((map : KeyMap) → HoldsMap old.now map → Given map → LeavesBy Told map trees))

abbrev pub IsStored : RecordFault → Type 0
IsStored (Store e) = Unit {0}
IsStored _ = ⊥

-- unless the store refuses, what is refused commits nothing
abbrev pub Spares : {T : Type 0} → State → State → Result T RecordFault → Type 0
Spares old new (Ok value) = Unit {0}
Spares old new (Err fault) = IsStored fault ⊎ Survives old new (λ _. ⊥)

-- the end of a transaction: what was done is committed, and what was refused is taken back
abbrev pub Ends : {T : Type 0} → State → State → Result T RecordFault → Result T RecordFault → Type 0
Ends old new (Ok value) (Ok answer) = (answer ≡ value) × Shows old new old.now old.now false
Ends old new (Ok value) (Err fault) = ((e : Error) × (fault ≡ Store e)) × (IsTrue old.in_transaction → IsRolledBack old new)
Ends old new (Err fault) result = (result ≡ Err fault) × IsRolledBack old new

-- ---- the bytes that were counted

abbrev pub done_of : {T : Type 0} → Result T RecordFault → Result (Unit {0}) RecordFault
done_of (Ok value) = Ok tt
done_of (Err fault) = Err fault

abbrev pub total_without : Option ℕ → Option ℕ → Option ℕ
total_without counted had = option_map (λ total. total - unwrap_or had 0) counted

abbrev pub space_without : Space → Result (Option ℕ) RecordFault → Space
space_without space (Ok had) = record space { counted = total_without space.counted had }
space_without space (Err fault) = space

-- ---- what a transaction ran

-- it ran some of these statements, and goes on
abbrev pub GoesTo : {S : Type 0} → Ghosts S → List (List ℕ) → Held S → Held S → Type 0
GoesTo g texts old new = ((n : ℕ) × RunsOn g texts n old new) × IsTrue (state g new).in_transaction

-- the same, or what it refuses has its cause
abbrev pub Traces : {S T : Type 0} → Ghosts S → List (List ℕ) → Held S → Held S → Result T RecordFault → Type 0
Traces g texts old new (Ok value) = GoesTo g texts old new
Traces g texts old new (Err fault) = Blames g texts old fault
