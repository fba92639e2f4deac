-- What a command that only reads makes of the map.
use Rattle.std.proofs.Common.{◌≡◌, ◌⊎◌, inl, inr, ℕ, false, List, [], Option, Some, None, Ok, Err, Result, refl, sym, subst, ◌∙◌}
use Rattle.sqlite.specs.Store.{Ghosts}
use Rattle.sqlite.specs.Order.{Row as Columns}
use Rattle.sqlite.specs.Effect.{Database, IsDatabase}
use Rattle.sqlite.specs.State.{State, IsUnchanged, IsRolledBack, Shown}
use Rattle.sqlite.specs.Held.{Held, state}
use Rattle.sqlite_trees.specs.Tree.{IsTable}
use Rattle.job_rows.specs.declared.row.Row.{Row}
use Rattle.job_record.specs.declared.fault.RecordFault.{RecordFault}
use Rattle.job_record.specs.declared.fault.RecordFault.TheVariants.{NotARecord, WrongVersion, NoRow, Store, UsesSpent, OutOfMemory}
use Rattle.job_record.specs.Statements.{find_text, list_text, key_params}
use Rattle.job_record.specs.RecordMap.{Finds, Lists}
use Rattle.job_record.specs.Keyed.{IsKeyed}
use Rattle.job_record.specs.Places.{job_tree, archive_tree, HasRecord}
use Rattle.job_record.specs.Map.{IsRecord, IsSame, Stands, FindsIn, ListsIn}
use Rattle.job_record.proofs.OneRow.{row_with}
use Rattle.job_record.proofs.RowMap.{key_held}
use Rattle.job_record.proofs.Queries.{row_same, error_same, shown_same, failed_same}
use Rattle.job_record.proofs.Reading.{find_is_plain, row_found, none_found, none_same, list_is_plain, all_found, listed, lists_all, list_sorted}
use Rattle.sqlite_rules.proofs.ListLemmas.{any_has}
use Rattle.job_record.specs.Columns.{IsUnread}

module _ (old new : State) (it : IsRecord old) where
  -- a store that shows what it showed
  shows : new.now ≡ old.now → new.committed ≡ old.committed → new.in_transaction ≡ false → IsSame old new × IsRecord new
  shows now committed mode = (
    now,
    record {
      schema = subst (λ (d : Database). HasRecord d.schema) (sym now) it.schema;
      sound = subst IsDatabase (sym now) it.sound;
      keyed = subst (λ (d : Database). IsKeyed (d.trees (job_tree d.schema))) (sym now) it.keyed;
      kept = subst (λ (d : Database). IsKeyed (d.trees (archive_tree d.schema))) (sym now) it.kept;
      ordered = subst (λ (d : Database). IsTable (d.trees (archive_tree d.schema))) (sym now) it.ordered;
      settled = committed ∙ it.settled ∙ sym now;
      autocommit = mode;
    },
  )

  pub same_shows : IsUnchanged old new → IsSame old new × IsRecord new
  same_shows u = shows u.0.now_is u.0.committed_is (u.0.mode ∙ it.autocommit)

  pub undone_stands : IsUnchanged old new ⊎ IsRolledBack old new → Stands old new
  undone_stands (inl u) open_now = same_shows u
  undone_stands (inr r) open_now = let u = r.undone open_now in shows (u.0 ∙ it.settled) u.1 r.autocommit

stands_itself : (s : State) → IsRecord s → Stands s s
stands_itself s it open_now = (refl, it)

module _ {S : Type 0} (g : Ghosts S) (old new : Held S) where
  same_stands : IsRecord (state g old) → new ≡ old → Stands (state g old) (state g new)
  same_stands it same = subst (λ h. Stands (state g old) (state g h)) (sym same) (stands_itself (state g old) it)

  pub find_is_map : (key : List ℕ) (result : Result (Option Row) RecordFault) → Finds g old new key result → IsRecord (state g old) → FindsIn (state g old) (state g new) key result
  find_is_map key (Ok None) h it =
      let u = none_same (state g old) (state g new) key it h in
      (none_found (state g old) (state g new) key it h, u, (same_shows (state g old) (state g new) it u).1)
  find_is_map key (Ok (Some row)) h it =
      let u = row_same find_text (key_params key) (state g old) (state g new) (find_is_plain (state g old) (state g new) key it) h.0 h.1 in
      (h.0, row_found (state g old) (state g new) key it h.0 h.1, h.2, u, (same_shows (state g old) (state g new) it u).1)
  find_is_map key (Err NotARecord) h it =
      let u = row_same find_text (key_params key) (state g old) (state g new) (find_is_plain (state g old) (state g new) key it) h.0 h.1 in
      let held = row_found (state g old) (state g new) key it h.0 h.1 in
      let unread : IsUnread h.0 = λ row is. h.2 row is (row_with h.0 key (key_held ((state g old).now.trees (job_tree (state g old).now.schema)) key h.0 held) row is) in
      (h.0, held, unread, u, (same_shows (state g old) (state g new) it u).1)
  find_is_map key (Err WrongVersion) h it = absurd h
  find_is_map key (Err NoRow) h it = absurd h
  find_is_map key (Err UsesSpent) h it = absurd h
  find_is_map key (Err (Store e)) (inl q) it =
      undone_stands (state g old) (state g new) it (error_same find_text (key_params key) (state g old) (state g new) (find_is_plain (state g old) (state g new) key it) e q.1)
  find_is_map key (Err (Store e)) (inr q) it =
      λ open_now. same_shows (state g old) (state g new) it (row_same find_text (key_params key) (state g old) (state g new) (find_is_plain (state g old) (state g new) key it) q.1 q.2)
  find_is_map key (Err OutOfMemory) (inl same) it = same_stands it same
  find_is_map key (Err OutOfMemory) (inr q) it =
      λ open_now. same_shows (state g old) (state g new) it (row_same find_text (key_params key) (state g old) (state g new) (find_is_plain (state g old) (state g new) key it) q.0 q.1)

  pub listed_same : (all : List Columns) → IsRecord (state g old) → Shown list_text [] (state g old) (state g new) all → IsUnchanged (state g old) (state g new)
  listed_same all it h = shown_same list_text [] (state g old) (state g new) (list_is_plain (state g old) (state g new) it) all h

  pub list_is_map : (result : Result (List Row) RecordFault) → Lists g old new result → IsRecord (state g old) → ListsIn (state g old) (state g new) result
  list_is_map (Ok rows) h it =
      let found = all_found (state g old) (state g new) it h.0 h.1 in
      let u = listed_same h.0 it h.1 in (
        h.0,
        h.2,
        listed (state g old) (state g new) it h.0 found,
        lists_all (state g old) (state g new) it h.0 found,
        list_sorted (state g old) (state g new) it h.0 rows h.1 h.2,
        u,
        (same_shows (state g old) (state g new) it u).1,
      )
  list_is_map (Err NotARecord) h it =
      let c = any_has IsUnread h.0 h.2 in
      let key = listed (state g old) (state g new) it h.0 (all_found (state g old) (state g new) it h.0 h.1) c.0 c.1 in
      let u = listed_same h.0 it h.1 in
      (key.0, c.0, key.1, c.2, u, (same_shows (state g old) (state g new) it u).1)
  list_is_map (Err WrongVersion) h it = absurd h
  list_is_map (Err NoRow) h it = absurd h
  list_is_map (Err UsesSpent) h it = absurd h
  list_is_map (Err (Store e)) (inl h) it =
      undone_stands (state g old) (state g new) it (failed_same list_text [] (state g old) (state g new) (list_is_plain (state g old) (state g new) it) e h)
  list_is_map (Err (Store e)) (inr h) it = λ open_now. same_shows (state g old) (state g new) it (listed_same h.1 it h.2)
  list_is_map (Err OutOfMemory) h it = λ open_now. same_shows (state g old) (state g new) it (listed_same h.0 it h.1)
