-- Only an open connection gives an answer.
use Rattle.std.proofs.Common.{inl, inr, ℕ, List, [], Option, Some, None, Result, Ok, Err, IsTrue}
use Rattle.sqlite.specs.Store.{Ghosts}
use Rattle.sqlite.specs.Order.{Row as Columns}
use Rattle.sqlite.specs.declared.error.Error.TheVariants.{QueryReturnedNoRows}
use Rattle.sqlite.specs.State.{State, IsNotRun, FailsToShow, FailsToQuery, ShowsRows, Shown, QueriesRow}
use Rattle.sqlite.specs.Held.{Held, state}
use Rattle.sqlite_schema.specs.declared.command.Returning.{Returning}
use Rattle.sqlite_resolve.specs.declared.compiled.Compiled.{Compiled}
use Rattle.job_rows.specs.declared.row.Row.{Row}
use Rattle.job_record.specs.declared.fault.RecordFault.{RecordFault}
use Rattle.job_record.specs.declared.fault.RecordFault.TheVariants.{NotARecord, WrongVersion, NoRow, Store, UsesSpent, OutOfMemory}
use Rattle.job_record.specs.Statements.{find_text, key_params}
use Rattle.job_record.specs.RecordMap.{Finds, AnswersOpen}
use Rattle.job_record.proofs.Queries.{no_cause}

module _ (sql : List ℕ) (params : Columns) (old new : State) where
  rows_were : (c : Compiled) (full : Columns) (rows : List Columns) (shows : Option Returning) → ShowsRows old new sql c full rows shows → IsTrue old.is_open
  rows_were c full rows None h = h.3.0.was_open
  rows_were c full rows (Some what) h = h.1.shown.was_open

  shown_was : (rows : List Columns) → Shown sql params old new rows → IsTrue old.is_open
  unfolding Shown
  shown_was rows h = rows_were h.0 _ rows h.0.returning h.2

  row_was : (row : Columns) → QueriesRow sql params old new (Ok row) → IsTrue old.is_open
  unfolding QueriesRow
  row_was row (inl h) = h.1.0.was_open
  row_was row (inr h) = shown_was h.0 h.1

  refused_was : (c : Compiled) (full : Columns) (shows : Option Returning) → FailsToShow old new sql c full QueryReturnedNoRows shows → IsTrue old.is_open
  refused_was c full None h = h.3.0.was_open
  refused_was c full (Some what) (inl h) = h.1.0.was_open
  refused_was c full (Some what) (inr h) = absurd (no_cause h.0 h.1)

  none_failed : FailsToQuery sql params old new QueryReturnedNoRows → IsTrue old.is_open
  unfolding FailsToQuery IsNotRun
  none_failed (inl (inl h)) = h.1.0.was_open
  none_failed (inl (inr h)) = absurd (no_cause h.0 h.1)
  none_failed (inr h) = refused_was h.0 _ h.0.returning h.2

  none_was : QueriesRow sql params old new (Err QueryReturnedNoRows) → IsTrue old.is_open
  unfolding QueriesRow
  none_was (inl h) = none_failed h
  none_was (inr h) = shown_was [] h.1

module _ {S : Type 0} (g : Ghosts S) (old new : Held S) where
  pub finds_open : (key : List ℕ) (result : Result (Option Row) RecordFault) → Finds g old new key result → AnswersOpen (state g old) result
  finds_open key (Ok None) h = none_was find_text (key_params key) (state g old) (state g new) h
  finds_open key (Ok (Some row)) h = row_was find_text (key_params key) (state g old) (state g new) h.0 h.1
  finds_open key (Err NotARecord) h = row_was find_text (key_params key) (state g old) (state g new) h.0 h.1
  finds_open key (Err WrongVersion) h = absurd h
  finds_open key (Err NoRow) h = absurd h
  finds_open key (Err UsesSpent) h = absurd h
  finds_open key (Err (Store e)) h = tt
  finds_open key (Err OutOfMemory) h = tt
