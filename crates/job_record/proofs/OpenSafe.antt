-- What a crash leaves after a record is opened, or refused.
use Rattle.std.proofs.Common.{◌≡◌, inl, inr, ℕ, pos, List, [], Option, Some, None, Ok, IsTrue, refl, ◌∙◌}
use Rattle.sqlite.specs.Store.{Ghosts}
use Rattle.sqlite.specs.Order.{Row as Columns}
use Rattle.sqlite.specs.Tree.{Trees}
use Rattle.sqlite_schema.specs.declared.command.Returning.{Returning}
use Rattle.sqlite_resolve.specs.declared.compiled.Compiled.{Compiled}
use Rattle.sqlite.specs.State.{State, HasCleanDisk, ShowsRows, Shown, QueriesRow}
use Rattle.sqlite.specs.Held.{Held, state}
use Rattle.job_record.specs.Statements.{version_text}
use Rattle.job_record.specs.Map.{KeyMap, no_columns, IsRecordOf}
use Rattle.job_record.specs.Opening.{ReadsVersion, Opens}
use Rattle.job_record.specs.OpenMap.{OpensAs, RefusesAs, CrashesAs}
use Rattle.job_record.specs.Crash.{OpensSafely, RefusesSafely}
use Rattle.job_record.specs.Rows.{OpensWithRows}
use Rattle.job_record.proofs.Safe.{record_of, same_of, safe_open, stays_safe}
use Rattle.job_record.proofs.SafeCalls.{settled}

module _ (sql : List ℕ) (params : Columns) (old new : State) where
  rows_open : (c : Compiled) (full : Columns) (rows : List Columns) (shows : Option Returning) → ShowsRows old new sql c full rows shows → IsTrue new.is_open
  rows_open c full rows None h = h.3.0.is_open
  rows_open c full rows (Some what) h = h.1.shown.is_open

  shown_open : (rows : List Columns) → Shown sql params old new rows → IsTrue new.is_open
  unfolding Shown
  shown_open rows h = rows_open h.0 _ rows h.0.returning h.2

  row_open : (row : Columns) → QueriesRow sql params old new (Ok row) → IsTrue new.is_open
  unfolding QueriesRow
  row_open row (inl h) = h.1.0.is_open
  row_open row (inr h) = shown_open h.0 h.1

reads_open : (old new : State) (n : _) → ReadsVersion old new (Ok n) → IsTrue new.is_open
reads_open old new n h = row_open version_text [] old new h.0 h.1

-- a record keeps its map if nothing is changed
taken_of : (old new : State) (map : KeyMap) (budget : Option ℕ) → OpensAs budget old new → IsRecordOf old map → IsRecordOf new map
taken_of old new map budget opens it = let t = opens.taken (record_of old map it) in same_of old new map it t.0.0.now_is (t.1.settled ∙ t.0.0.now_is) t.1.autocommit

module _ {S : Type 0} (g : Ghosts S) where
  opens_open : (old new : Held S) → Opens g old new (Ok (tt {0})) → IsTrue (state g new).is_open
  opens_open old new (inl (has, found, u, reads)) = reads_open (state g found) (state g new) (pos 2) reads
  opens_open old new (inr (inl (at, bare, (last, ran, shown)))) = shown.is_open
  opens_open old new (inr (inr (at, ready, (last, m, shown)))) = shown.is_open

  module _ (old new : Held S) (law : (s : S) (trees : Trees) → IsTrue (g.view s).is_open → g.recovers s trees → trees ≡ (g.view s).committed) where
    pub opened_safe : (budget : Option ℕ) → Opens g old new (Ok (tt {0})) → OpensAs budget (state g old) (state g new) → OpensSafely budget (state g old) (state g new)
    opened_safe budget h opens =
        let safe = λ (map : KeyMap) (it : IsRecordOf (state g new) map). safe_open (state g new) map [] (settled g old new law) (opens_open old new h) it in
        record {
          made = λ b. safe (no_columns (state g old).now budget) (opens.made b);
          migrated = λ f. let m = opens.migrated f in (m.0, m.1, m.2, safe m.0 m.3);
          taken = λ map it. safe map (taken_of (state g old) (state g new) map budget opens it);
        }

    pub kept_safe : HasCleanDisk (state g new) → RefusesAs (state g old) (state g new) → CrashesAs (state g old) (state g new) → RefusesSafely (state g old) (state g new)
    kept_safe clean refuses crashes = record {
      blank = λ b was_open trees may. elim ((crashes.blank b).crash clean trees may) [ inl before ↦ inl (law old.store trees was_open before) | inr empty ↦ inr empty ];
      first = λ f was_open trees may. elim ((crashes.first f).crash clean trees may) [ inl before ↦ inl (law old.store trees was_open before) | inr made ↦ inr made ];
      taken = λ map it was_open.
          stays_safe (state g old) (state g new) (settled g old new law) map [] (safe_open (state g old) map [] (settled g old old law) was_open it) (λ _. refuses.taken (record_of (state g old) map it))
          (λ _. was_open) (λ trees may. elim ((crashes.taken (record_of (state g old) map it)).crash clean trees may) [ inl before ↦ before | inr none ↦ absurd none ]);
    }

-- the rows that a record holds once it is opened
pub opens_rows : (budget : Option ℕ) (old new : State) → OpensSafely budget old new → OpensWithRows budget old new
opens_rows budget old new safe =
    record {
      made = λ b. record { columns = no_columns old.now budget; refused = []; safe = safe.made b; rows = record { rows = λ key. tt; archives = refl; budget = refl } };
      migrated = λ f. let m = safe.migrated f in (m.0, m.1, m.2, λ map is. record { columns = m.0; refused = []; safe = m.3; rows = is });
      taken = λ columns it budget_is map is. record { columns = columns; refused = []; safe = safe.taken columns it; rows = is };
    }
