-- What a crash leaves of a record: the map after the accepted commands, or that map with one command too that the store refused.
use Rattle.std.specs.Prelude.{◌≡◌, ◌⊎◌, ℕ, List, [], ◌∷◌, Option, Result, Ok, Err, IsTrue}
use Rattle.sqlite.specs.Tree.{Trees}
use Rattle.sqlite.specs.Effect.{IsDatabase}
use Rattle.sqlite.specs.State.{State, Opens, Survives}
use Rattle.sqlite_rules.specs.Lists.{Has}
use Rattle.job_record.specs.declared.fault.RecordFault.{RecordFault}
use Rattle.job_record.specs.declared.fault.RecordFault.TheVariants.{Store}
use Rattle.job_record.specs.declared.changes.Space.{Space}
use Rattle.job_record.specs.Counted.{FitsSpace}
use Rattle.job_record.specs.Map.{KeyMap, no_columns, IsRecordOf, Change, changed_by}
use Rattle.job_record.specs.OpenMap.{IsBlank, IsFirst, IsMigrated, IsLeft, AreEmptyRecord, AreMigrated}

-- The accepted commands made `map`, and the store refused these changes since the last of them.
pub record IsSafe (s : State) (map : KeyMap) (refused : List Change) : Type 0 where
  -- while the connection is open, it shows the map, and a crash leaves the map
  pub shown : IsTrue s.is_open → IsRecordOf s map
  pub kept : IsTrue s.is_open → (trees : Trees) → s.may_leave trees → IsLeft trees map
  -- also once it is shut, a crash leaves the map, or the map with one of the changes
  pub crash : (trees : Trees) → s.may_leave trees → IsLeft trees map ⊎ ((c : Change) × Has refused c × IsLeft trees (changed_by c map))

-- a change is done, or the store refuses it, or it can't be made
abbrev pub AnswersSafely : {T : Type 0} → State → Change → Result T RecordFault → KeyMap → List Change → Type 0
AnswersSafely new c (Ok done) map refused = IsSafe new (changed_by c map) []
AnswersSafely new c (Err (Store e)) map refused = IsSafe new map (c ∷ refused)
AnswersSafely new c (Err _) map refused = IsSafe new map refused

abbrev pub ChangesSafely : {T : Type 0} → Space → State → State → Change → Result T RecordFault → Type 0
ChangesSafely space old new c result = (map : KeyMap) (refused : List Change) → FitsSpace space map → IsSafe old map refused → AnswersSafely new c result map refused

-- a change is one whole transaction: a crash in it leaves what it could leave before, or, of an open record, its map with the change
abbrev pub CrashesWhole : State → State → Space → Change → Type 0
CrashesWhole old new space c = Survives old new (λ trees. IsTrue old.is_open × ((map : KeyMap) → FitsSpace space map → IsRecordOf old map → IsLeft trees (changed_by c map)))

-- a command that only reads
abbrev pub ReadsSafely : State → State → Type 0
ReadsSafely old new = (map : KeyMap) (refused : List Change) → IsSafe old map refused → IsSafe new map refused

-- a store in which there is room becomes the empty map beside what it had, a record of version 1 has an archive for each archived row, and a record keeps its map
pub record OpensSafely (budget : Option ℕ) (old new : State) : Type 0 where
  pub made : IsBlank old → IsSafe new (no_columns old.now budget) []
  pub migrated : IsFirst old → (map : KeyMap) × (map.budget ≡ budget) × IsMigrated old map × IsSafe new map []
  pub taken : (map : KeyMap) → IsRecordOf old map → IsSafe new map []

-- A record that is refused keeps its map. Of a store in which there is room a crash leaves the last commit, or an empty record, and of a record of
-- version 1 the last commit, or the record of version 2 that it becomes.
pub record RefusesSafely (old new : State) : Type 0 where
  pub blank : IsBlank old → IsTrue old.is_open → (trees : Trees) → new.may_leave trees → (trees ≡ old.committed.trees) ⊎ AreEmptyRecord old.now trees
  pub first : IsFirst old → IsTrue old.is_open → (trees : Trees) → new.may_leave trees → (trees ≡ old.committed.trees) ⊎ AreMigrated old trees
  pub taken : (map : KeyMap) → IsRecordOf old map → IsTrue old.is_open → IsSafe new map []

-- a connection that is opened over the trees that a record left shows that record
abbrev pub FindsAgain : State → Type 0
FindsAgain s = (map : KeyMap) → Opens s → IsDatabase s.now → IsLeft s.now.trees map → IsRecordOf s map
