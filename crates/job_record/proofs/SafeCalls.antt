-- A command that only reads keeps the record safe from a crash.
use Rattle.std.proofs.Common.{◌≡◌, inl, inr, ℕ, List, [], Option, Some, None, Ok, Err, Result, IsTrue}
use Rattle.sqlite.specs.Store.{Ghosts}
use Rattle.sqlite.specs.Order.{Row as Columns}
use Rattle.sqlite.specs.Tree.{Trees}
use Rattle.sqlite.specs.State.{HasCleanDisk, Survives, CommitsShowing}
use Rattle.sqlite.specs.Held.{Held, state}
use Rattle.sqlite.specs.Listing.{understood}
use Rattle.sqlite.proofs.Callers.{IsPlain, never_commits}
use Rattle.job_rows.specs.declared.row.Row.{Row}
use Rattle.job_record.specs.declared.fault.RecordFault.{RecordFault}
use Rattle.job_record.specs.declared.fault.RecordFault.TheVariants.{NotARecord, WrongVersion, NoRow, Store, UsesSpent, OutOfMemory}
use Rattle.job_record.specs.Statements.{find_text, list_text, key_params}
use Rattle.job_record.specs.RecordMap.{Finds, Lists}
use Rattle.job_record.specs.Map.{IsRecord, Stands, FindsIn, ListsIn}
use Rattle.job_record.specs.Crash.{ReadsSafely}
use Rattle.job_record.specs.inner.Crash.{RunsOpen}
use Rattle.job_record.proofs.MapSteps.{same_shows, find_is_map, list_is_map}
use Rattle.job_record.proofs.Reading.{find_is_plain, list_is_plain}
use Rattle.job_record.proofs.Safe.{Settles, record_of, stays_safe, was_open_at, crash_at}

-- ---- the calls

module _ {S : Type 0} (g : Ghosts S) (old new : Held S) (law : (s : S) (trees : Trees) → IsTrue (g.view s).is_open → g.recovers s trees → trees ≡ (g.view s).committed) where
  pub settled : Settles (state g new)
  settled open_now trees may = law new.store trees open_now may

  -- ---- the calls that only read

  pub reads_safe : (sql : List ℕ) (params : Columns) → (IsRecord (state g old) → Stands (state g old) (state g new)) → (IsRecord (state g old) → IsPlain (understood (state g old).now.schema sql))
      → RunsOpen (state g old) (state g new) → HasCleanDisk (state g new) → Survives (state g old) (state g new) (CommitsShowing sql params (state g old)) → ReadsSafely (state g old) (state g new)
  reads_safe sql params stands plain runs clean survives map refused safe =
      stays_safe (state g old) (state g new) settled map refused safe stands (was_open_at (state g old) (state g new) runs)
      (λ trees may. elim (crash_at (state g old) (state g new) (CommitsShowing sql params (state g old)) clean runs survives trees may) [
        | inl before ↦ before
        | inr made ↦ absurd (never_commits sql params (state g old) trees (plain (record_of (state g old) map (safe.shown made.0))) made.1)
      ])

  found_stands : (key : List ℕ) (result : Result (Option Row) RecordFault) → IsRecord (state g old) → FindsIn (state g old) (state g new) key result → Stands (state g old) (state g new)
  found_stands key (Ok None) it h open_now = same_shows (state g old) (state g new) it h.1
  found_stands key (Ok (Some row)) it h open_now = same_shows (state g old) (state g new) it h.3
  found_stands key (Err NotARecord) it h open_now = same_shows (state g old) (state g new) it h.3
  found_stands key (Err WrongVersion) it h open_now = h open_now
  found_stands key (Err NoRow) it h open_now = h open_now
  found_stands key (Err UsesSpent) it h open_now = h open_now
  found_stands key (Err (Store e)) it h open_now = h open_now
  found_stands key (Err OutOfMemory) it h open_now = h open_now

  pub find_safe : (key : List ℕ) (result : Result (Option Row) RecordFault) → Finds g old new key result → RunsOpen (state g old) (state g new) → HasCleanDisk (state g new)
      → Survives (state g old) (state g new) (CommitsShowing find_text (key_params key) (state g old)) → ReadsSafely (state g old) (state g new)
  find_safe key result finds =
      reads_safe find_text (key_params key) (λ it. found_stands key result it (find_is_map g old new key result finds it)) (find_is_plain (state g old) (state g new) key)

  listed_stands : (result : Result (List Row) RecordFault) → IsRecord (state g old) → ListsIn (state g old) (state g new) result → Stands (state g old) (state g new)
  listed_stands (Ok rows) it h open_now = same_shows (state g old) (state g new) it h.5
  listed_stands (Err NotARecord) it h open_now = same_shows (state g old) (state g new) it h.4
  listed_stands (Err WrongVersion) it h open_now = h open_now
  listed_stands (Err NoRow) it h open_now = h open_now
  listed_stands (Err UsesSpent) it h open_now = h open_now
  listed_stands (Err (Store e)) it h open_now = h open_now
  listed_stands (Err OutOfMemory) it h open_now = h open_now

  pub list_safe : (result : Result (List Row) RecordFault) → Lists g old new result → RunsOpen (state g old) (state g new) → HasCleanDisk (state g new) → Survives (state g old) (state g new) (CommitsShowing list_text [] (state g old))
      → ReadsSafely (state g old) (state g new)
  list_safe result lists = reads_safe list_text [] (λ it. listed_stands result it (list_is_map g old new result lists it)) (list_is_plain (state g old) (state g new))
