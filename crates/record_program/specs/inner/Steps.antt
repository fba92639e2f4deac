-- The steps of `--forget`: the keys with the sum are picked, and each is forgotten. And of `--budget`: the keys of the archives that have to
-- go are picked, and each archive goes.
use Rattle.std.specs.Prelude.{◌≡◌, ◌≢◌, ℕ, List, [], Some, Result, Ok, Err, IsTrue}
use Rattle.sqlite.specs.Order.{Row as Columns}
use Rattle.sqlite.specs.State.{State}
use Rattle.sqlite_rules.specs.Lists.{Has}
use Rattle.job_record.specs.declared.changes.Space.{Space}
use Rattle.job_record.specs.declared.fault.RecordFault.{RecordFault}
use Rattle.job_record.specs.declared.fault.RecordFault.TheVariants.{NotARecord, WrongVersion, NoRow, Store, UsesSpent, OutOfMemory}
use Rattle.job_record.specs.Counted.{FitsSpace}
use Rattle.job_record.specs.Map.{KeyMap, IsRecordOf, changed_by, forgets, unarchives}
use Rattle.record_program.specs.Lines.{has_sum, keys_with}
use Rattle.record_program.specs.Forgetting.{HasRowWith, HasOddKey, LacksAtMost, forgotten}
use Rattle.record_program.specs.Trimming.{LacksFirst, lost_keys, without_first}

-- those of the keys that have the sum; R3 says that there is none
abbrev pub PicksOf : List ℕ → List (List ℕ) → Result (List (List ℕ)) RecordFault → Type 0
PicksOf sum all (Ok keys) = (keys ≡ keys_with sum all) × (keys ≢ [])
PicksOf sum all (Err NoRow) = keys_with sum all ≡ []
PicksOf sum all (Err fault) = fault ≡ OutOfMemory

-- where the keys were listed
abbrev pub Picks : List ℕ → (all result : Result (List (List ℕ)) RecordFault) → Type 0
Picks sum (Ok all) result = PicksOf sum all result
Picks sum (Err fault) result = result ≡ Err fault

-- the record is as it was, unless a failure of the store has shut it
abbrev pub StaysOf : KeyMap → State → Type 0
StaysOf map new = IsTrue new.is_open → IsRecordOf new map

-- the keys of the record that have the sum
abbrev pub HoldsKeys : List ℕ → KeyMap → State → Result (List (List ℕ)) RecordFault → Type 0
HoldsKeys sum map new (Ok keys) =
    HasRowWith sum map × IsRecordOf new map × ((key : List ℕ) → Has keys key → IsTrue (has_sum sum key)) × ((key : List ℕ) (c : Columns) → map.rows key ≡ Some c → IsTrue (has_sum sum key) → Has keys key)
HoldsKeys sum map new (Err NoRow) = (¬ HasRowWith sum map) × IsRecordOf new map
HoldsKeys sum map new (Err NotARecord) = HasOddKey map × IsRecordOf new map
HoldsKeys sum map new (Err WrongVersion) = ⊥
HoldsKeys sum map new (Err (Store e)) = StaysOf map new
HoldsKeys sum map new (Err UsesSpent) = ⊥
HoldsKeys sum map new (Err OutOfMemory) = StaysOf map new

-- the key has no row any more
abbrev pub ForgetsOne : List ℕ → KeyMap → Space → State → Result (Unit {0}) RecordFault → Type 0
ForgetsOne key map space new (Ok done) = IsRecordOf new (changed_by (forgets key) map) × FitsSpace space (changed_by (forgets key) map)
ForgetsOne key map space new (Err (Store e)) = StaysOf map new
ForgetsOne key map space new (Err OutOfMemory) = StaysOf map new
ForgetsOne key map space new (Err fault) = ⊥

-- these keys have no row any more
abbrev pub ForgetsAll : List ℕ → List (List ℕ) → KeyMap → State → Result (Unit {0}) RecordFault → Type 0
ForgetsAll sum keys map new (Ok done) = IsRecordOf new (forgotten keys map)
ForgetsAll sum keys map new (Err (Store e)) = LacksAtMost sum map new
ForgetsAll sum keys map new (Err OutOfMemory) = LacksAtMost sum map new
ForgetsAll sum keys map new (Err fault) = ⊥

-- ---- `--budget`

-- the keys of the archives that have to go
abbrev pub HoldsLost : (budget : ℕ) → KeyMap → State → Result (List (List ℕ)) RecordFault → Type 0
HoldsLost budget map new (Ok keys) = (keys ≡ lost_keys budget map.archives) × IsRecordOf new map
HoldsLost budget map new (Err (Store e)) = StaysOf map new
HoldsLost budget map new (Err OutOfMemory) = StaysOf map new
HoldsLost budget map new (Err fault) = ⊥

-- the key has no archive any more
abbrev pub LosesOne : List ℕ → KeyMap → Space → State → Result (Unit {0}) RecordFault → Type 0
LosesOne key map space new (Ok done) = IsRecordOf new (changed_by (unarchives key) map) × FitsSpace space (changed_by (unarchives key) map)
LosesOne key map space new (Err (Store e)) = StaysOf map new
LosesOne key map space new (Err OutOfMemory) = StaysOf map new
LosesOne key map space new (Err fault) = ⊥

-- these first archives are gone
abbrev pub LosesFirst : (count : ℕ) → KeyMap → State → Result (Unit {0}) RecordFault → Type 0
LosesFirst count map new (Ok done) = IsRecordOf new (without_first count map)
LosesFirst count map new (Err (Store e)) = LacksFirst count map new
LosesFirst count map new (Err OutOfMemory) = LacksFirst count map new
LosesFirst count map new (Err fault) = ⊥
