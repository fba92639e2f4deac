-- What a crash leaves after each command.
use Rattle.std.proofs.Common.{◌≡◌, ◌⊎◌, inl, inr, List, [], ◌∷◌, Ok, Err, Result, IsTrue, false, refl, sym, ap, subst, ◌∙◌}
use Rattle.sqlite.specs.Tree.{Trees}
use Rattle.sqlite.specs.Effect.{Database}
use Rattle.sqlite.specs.State.{State, HasCleanDisk, Survives}
use Rattle.sqlite.proofs.StateLemmas.{survives_weaker}
use Rattle.sqlite_trees.specs.Tree.{IsTable}
use Rattle.job_record.specs.declared.fault.RecordFault.{RecordFault}
use Rattle.job_record.specs.declared.fault.RecordFault.TheVariants.{NotARecord, WrongVersion, NoRow, Store, UsesSpent, OutOfMemory}
use Rattle.job_record.specs.declared.changes.Space.{Space}
use Rattle.job_record.specs.Counted.{FitsSpace}
use Rattle.job_record.specs.Places.{job_tree, archive_tree, HasRecord}
use Rattle.job_record.specs.Keyed.{IsKeyed}
use Rattle.job_record.specs.Map.{KeyMap, HoldsMap, IsRecord, IsRecordOf, Stands, Change, changed_by}
use Rattle.job_record.specs.OpenMap.{IsLeft}
use Rattle.job_record.specs.Crash.{IsSafe, ChangesSafely, CrashesWhole}
use Rattle.job_record.specs.inner.Crash.{RunsOpen}
use Rattle.job_record.specs.inner.Inside.{Answer, IsStored, Changes, CrashesBy, LeavesBy, Spares}
use Rattle.job_record.proofs.Chain.{left_trees}
use Rattle.job_record.proofs.KeptInStep.{stays_in_step}

-- while the connection is open, a crash leaves the last commit
abbrev pub Settles : State → Type 0
Settles s = IsTrue s.is_open → (trees : Trees) → s.may_leave trees → trees ≡ s.committed.trees

-- ---- one state

pub left_by : (s : State) (map : KeyMap) → Settles s → IsTrue s.is_open → IsRecordOf s map → (trees : Trees) → s.may_leave trees → IsLeft trees map
left_by s map settles open_now it trees may = record {
  holds = left_trees s.now trees map (settles open_now trees may ∙ ap (λ (d : Database). d.trees) it.settled) it.holds;
  in_step = it.in_step;
}

pub safe_open : (s : State) (map : KeyMap) (refused : List Change) → Settles s → IsTrue s.is_open → IsRecordOf s map → IsSafe s map refused
safe_open s map refused settles open_now it = record {
  shown = λ _. it;
  kept = λ _. left_by s map settles open_now it;
  crash = λ trees may. inl (left_by s map settles open_now it trees may);
}

-- the record whose map it is
pub record_of : (s : State) (map : KeyMap) → IsRecordOf s map → IsRecord s
record_of s map it = record {
  schema = subst HasRecord (sym it.holds.schema) it.holds.has;
  sound = it.holds.sound;
  keyed = subst (λ t. IsKeyed (s.now.trees (job_tree t))) (sym it.holds.schema) it.holds.keyed;
  kept = subst (λ t. IsKeyed (s.now.trees (archive_tree t))) (sym it.holds.schema) it.holds.kept;
  ordered = subst (λ t. IsTable (s.now.trees (archive_tree t))) (sym it.holds.schema) it.holds.ordered;
  settled = it.settled;
  autocommit = it.autocommit;
}

pub same_of : (old new : State) (map : KeyMap) → IsRecordOf old map → new.now ≡ old.now → new.committed ≡ old.now → new.in_transaction ≡ false → IsRecordOf new map
same_of old new map it now committed mode = record {
  holds = subst (λ d. HoldsMap d map) (sym now) it.holds;
  in_step = it.in_step;
  settled = committed ∙ sym now;
  autocommit = mode;
}

pub stands_of : (old new : State) (map : KeyMap) → IsRecordOf old map → Stands old new → IsTrue new.is_open → IsRecordOf new map
stands_of old new map it stands open_now =
    let s = stands open_now in
    same_of old new map it s.0 (s.1.settled ∙ s.0) s.1.autocommit

-- ---- a change

module _ {T : Type 0} (Given : KeyMap → Type 0) (Told : Answer T) (Why : KeyMap → RecordFault → Type 0) (c : Change) (old new : State) (space : Space)
    (given : (map : KeyMap) → FitsSpace space map → Given map) (tells : (map : KeyMap) (value : T) (next : KeyMap) → HoldsMap old.now map → FitsSpace space map → Told map value next → next ≡ changed_by c map) where
  -- it is done
  pub made : (value : T) → Changes old new Given Told Why (Ok value) → (map : KeyMap) → FitsSpace space map → IsRecordOf old map → IsRecordOf new (changed_by c map)
  made value changes map fits it =
      let next = changes.4 map it.holds (given map fits) in
      record {
        holds = subst (HoldsMap new.now) (tells map value next.0 it.holds fits next.2) next.1;
        in_step = stays_in_step old.now c map it.holds it.in_step;
        settled = changes.2;
        autocommit = changes.3;
      }

  -- it is refused
  pub stands : (fault : RecordFault) → Changes old new Given Told Why (Err fault) → (map : KeyMap) → IsRecordOf old map → Stands old new
  stands fault changes map it open_now =
      let u = changes.0 open_now in
      let now : new.now ≡ old.now = u.1 ∙ it.settled in
      (now, record_of new map (same_of old new map it now (u.2 ∙ it.settled) changes.1))

  leaves : (map : KeyMap) → FitsSpace space map → IsRecordOf old map → (trees : Trees) → LeavesBy Told map trees → IsLeft trees (changed_by c map)
  leaves map fits it trees h = record {
    holds = subst (λ (m : KeyMap). HoldsMap (record { schema = m.beside.schema; trees = trees }) m) (tells map h.0 h.1 it.holds fits h.2) h.3;
    in_step = stays_in_step old.now c map it.holds it.in_step;
  }

  pub whole : CrashesBy old new Given Told → CrashesWhole old new space c
  whole crash = survives_weaker old new _ _ (λ clean trees h. (h.0, λ map fits it. leaves map fits it trees (h.1 map it.holds (given map fits)))) crash

  module _ (settles : Settles new) (clean : HasCleanDisk new) where
    refused_store : (fault : RecordFault) → Changes old new Given Told Why (Err fault) → CrashesBy old new Given Told → (map : KeyMap) (refused : List Change) → FitsSpace space map → IsSafe old map refused → IsSafe new map (c ∷ refused)
    refused_store fault changes crash map refused fits safe = record {
      shown = λ now. stands_of old new map (safe.shown (changes.0 now).0) (stands fault changes map (safe.shown (changes.0 now).0)) now;
      kept = λ now. left_by new map settles now (stands_of old new map (safe.shown (changes.0 now).0) (stands fault changes map (safe.shown (changes.0 now).0)) now);
      crash = λ trees may. elim (crash.crash clean trees may) [
        | inl before ↦ elim (safe.crash trees before) [ inl whole ↦ inl whole | inr other ↦ inr (other.0, inr other.1, other.2) ]
        | inr made ↦ let it = safe.shown made.0 in inr (c, inl refl, leaves map fits it trees (made.1 map it.holds (given map fits)))
      ];
    }

    refused_other : (fault : RecordFault) → Changes old new Given Told Why (Err fault) → Survives old new (λ _. ⊥) → (map : KeyMap) (refused : List Change) → IsSafe old map refused → IsSafe new map refused
    refused_other fault changes spared map refused safe = record {
      shown = λ now. stands_of old new map (safe.shown (changes.0 now).0) (stands fault changes map (safe.shown (changes.0 now).0)) now;
      kept = λ now. left_by new map settles now (stands_of old new map (safe.shown (changes.0 now).0) (stands fault changes map (safe.shown (changes.0 now).0)) now);
      crash = λ trees may. elim (spared.crash clean trees may) [ inl before ↦ safe.crash trees before | inr none ↦ absurd none ];
    }

    spared_of : (fault : RecordFault) → ¬ IsStored fault → Spares {T = T} old new (Err fault) → Survives old new (λ _. ⊥)
    spared_of fault other (inl stored) = absurd (other stored)
    spared_of fault other (inr spared) = spared

    pub changes_safely : (result : Result T RecordFault) → Changes old new Given Told Why result → CrashesBy old new Given Told → Spares old new result → ChangesSafely space old new c result
    changes_safely (Ok value) changes crash spares map refused fits safe = safe_open new (changed_by c map) [] settles changes.1 (made value changes map fits (safe.shown changes.0))
    changes_safely (Err NotARecord) changes crash spares map refused fits safe = refused_other NotARecord changes (spared_of NotARecord (λ none. none) spares) map refused safe
    changes_safely (Err WrongVersion) changes crash spares map refused fits safe = refused_other WrongVersion changes (spared_of WrongVersion (λ none. none) spares) map refused safe
    changes_safely (Err NoRow) changes crash spares map refused fits safe = refused_other NoRow changes (spared_of NoRow (λ none. none) spares) map refused safe
    changes_safely (Err (Store e)) changes crash spares map refused fits safe = refused_store (Store e) changes crash map refused fits safe
    changes_safely (Err UsesSpent) changes crash spares map refused fits safe = refused_other UsesSpent changes (spared_of UsesSpent (λ none. none) spares) map refused safe
    changes_safely (Err OutOfMemory) changes crash spares map refused fits safe = refused_other OutOfMemory changes (spared_of OutOfMemory (λ none. none) spares) map refused safe

-- ---- a command that only reads

module _ (old new : State) (settles : Settles new) (map : KeyMap) (refused : List Change) (safe : IsSafe old map refused) (stands : IsRecord old → Stands old new) (was_open : IsTrue new.is_open → IsTrue old.is_open) where
  still : IsTrue new.is_open → IsRecordOf new map
  still open_now = let it = safe.shown (was_open open_now) in stands_of old new map it (stands (record_of old map it)) open_now

  pub stays_safe : ((trees : Trees) → new.may_leave trees → old.may_leave trees) → IsSafe new map refused
  stays_safe crash = record {
    shown = still;
    kept = λ open_now. left_by new map settles open_now (still open_now);
    crash = λ trees may. safe.crash trees (crash trees may);
  }

-- ---- what the look at a text tells

pub was_open_at : (old new : State) → RunsOpen old new → IsTrue new.is_open → IsTrue old.is_open
was_open_at old new (inl open_then) open_now = open_then
was_open_at old new (inr idle) open_now = idle.was_open open_now

pub crash_at : (old new : State) (Commits : Trees → Type 0) → HasCleanDisk new → RunsOpen old new → Survives old new Commits → (trees : Trees) → new.may_leave trees → old.may_leave trees ⊎ (IsTrue old.is_open × Commits trees)
crash_at old new Commits clean (inl open_then) survives trees may = elim (survives.crash clean trees may) [ inl before ↦ inl before | inr made ↦ inr (open_then, made) ]
crash_at old new Commits clean (inr idle) survives trees may = inl (idle.crash trees may)
