-- Why a command of several statements is refused.
use Rattle.std.specs.Prelude.{◌≡◌, ◌≢◌, ◌⊎◌, ◌<◌, ◌≤◌, ℕ, zero, suc, pos, length, List, [], ◌∷◌, Any, Ok, Err}
use Rattle.sqlite.specs.declared.types.Value.TheVariants.{Int}
use Rattle.sqlite.specs.Order.{Row as Columns, column}
use Rattle.sqlite.specs.Store.{Ghosts}
use Rattle.sqlite.specs.declared.error.Error.{Error}
use Rattle.sqlite.specs.declared.error.Error.TheVariants.{QueryReturnedNoRows}
use Rattle.sqlite.specs.State.{ExecutesInside, QueriesRow, FailsToQuery, Shown}
use Rattle.sqlite.specs.Steps.{FailsToCommit}
use Rattle.sqlite.specs.Held.{Held, state}
use Rattle.sqlite_rules.specs.Lists.{Has}
use Rattle.job_rows.specs.Map.{greatest_number}
use Rattle.job_record.specs.declared.fault.RecordFault.{RecordFault}
use Rattle.job_record.specs.declared.fault.RecordFault.TheVariants.{NotARecord, WrongVersion, NoRow, Store, UsesSpent, OutOfMemory}
use Rattle.job_record.specs.Statements.{put_text, drop_archive_text, forget_text}
use Rattle.job_record.specs.Archives.{greatest_text, oldest_text, bytes_text, all_bytes_text, add_text, use_text, remove_text}
use Rattle.job_record.specs.Columns.{IsText, HasNoNumber}
use Rattle.job_record.specs.RecordMap.{LacksMemory}

-- ---- the statements of each command

abbrev pub put_texts : List (List ℕ)
put_texts = bytes_text ∷ greatest_text ∷ put_text ∷ remove_text ∷ add_text ∷ all_bytes_text ∷ oldest_text ∷ drop_archive_text ∷ []

abbrev pub touch_texts : List (List ℕ)
touch_texts = bytes_text ∷ greatest_text ∷ use_text ∷ []

abbrev pub drop_texts : List (List ℕ)
drop_texts = bytes_text ∷ drop_archive_text ∷ remove_text ∷ []

abbrev pub forget_texts : List (List ℕ)
forget_texts = bytes_text ∷ forget_text ∷ remove_text ∷ []

-- ---- why one of them is refused

-- the columns begin with no key and bytes of an archive
abbrev pub HasNoArchive : Columns → Type 0
HasNoArchive c = 1 < length c → (key : List ℕ) (bytes : ℕ) → IsText (column c 0) key → column c 1 ≢ Int (pos bytes)

module _ {S : Type 0} (g : Ghosts S) (texts : List (List ℕ)) where
  -- one of the statements ran, or showed a row, none, or all
  abbrev pub Runs : Held S → Held S → Type 0
  Runs at next =
      (text : List ℕ) × Has texts text × (params : Columns)
      × (((count : ℕ) × ExecutesInside 0 text params (state g at) (state g next) (Ok count))
      ⊎ (((row : Columns) × QueriesRow text params (state g at) (state g next) (Ok row))
      ⊎ (QueriesRow text params (state g at) (state g next) (Err QueryReturnedNoRows)
      ⊎ ((rows : List Columns) × Shown text params (state g at) (state g next) rows))))

  -- so many ran, one after the other
  abbrev pub RunsOn : ℕ → Held S → Held S → Type 0
  RunsOn zero at last = last ≡ at
  RunsOn (suc n) at last = (next : Held S) × Runs at next × RunsOn n next last

  -- it is so once some of them have run
  abbrev pub Comes : Held S → (Held S → Type 0) → Type 0
  Comes first P = (n : ℕ) × (at : Held S) × RunsOn n first at × P at

  -- the store refuses one of them, or to commit
  abbrev pub Refuses : Error → Held S → Type 0
  Refuses e at =
      (to : Held S)
      × (FailsToCommit (state g at) (state g to) e
      ⊎ ((text : List ℕ) × Has texts text × (params : Columns)
      × (ExecutesInside 0 text params (state g at) (state g to) (Err e)
      ⊎ (((e ≢ QueryReturnedNoRows) × QueriesRow text params (state g at) (state g to) (Err e))
      ⊎ FailsToQuery text params (state g at) (state g to) e))))

  -- one shows a column that is no number or no text, or no oldest archive, though one has to go
  abbrev pub Misshows : Held S → Type 0
  Misshows at =
      (to : Held S) × (text : List ℕ) × Has texts text × (params : Columns)
      × (((row : Columns) × QueriesRow text params (state g at) (state g to) (Ok row) × (HasNoNumber row ⊎ HasNoArchive row))
      ⊎ (((rows : List Columns) × Shown text params (state g at) (state g to) rows × Any HasNoNumber rows)
      ⊎ ((text ≡ oldest_text) × QueriesRow text params (state g at) (state g to) (Err QueryReturnedNoRows))))

  -- one meets no row
  abbrev pub MeetsNone : Held S → Type 0
  MeetsNone at =
      (to : Held S) × (text : List ℕ) × Has texts text × (params : Columns)
      × (ExecutesInside 0 text params (state g at) (state g to) (Ok 0) ⊎ QueriesRow text params (state g at) (state g to) (Err QueryReturnedNoRows))

  -- the query for the greatest number shows one that has none after it
  abbrev pub IsSpent : Held S → Type 0
  IsSpent at =
      (to : Held S) × (row : Columns) × Has texts greatest_text × QueriesRow greatest_text [] (state g at) (state g to) (Ok row)
      × (n : ℕ) × (column row 0 ≡ Int (pos n)) × (greatest_number ≤ n)

  -- why a transaction that began so is refused, on any store; R2 never
  abbrev pub Blames : Held S → RecordFault → Type 0
  Blames first NotARecord = Comes first Misshows
  Blames first WrongVersion = ⊥
  Blames first NoRow = Comes first MeetsNone
  Blames first (Store e) = LacksMemory e ⊎ Comes first (Refuses e)
  Blames first UsesSpent = Comes first IsSpent
  Blames first OutOfMemory = Unit {0}
