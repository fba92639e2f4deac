-- A statement that runs after a look at its text does what it does without the look.
use Rattle.std.proofs.Common.{◌≡◌, inl, inr, ℕ, ◌≤◌, Bool, true, false, cond, List, [], Option, Some, None, Ok, Err, Result, refl, sym, ap, ◌∙◌, true≢false, arith}
use Rattle.std.specs.Prelude.{MatchBool}
use Rattle.sqlite.specs.Order.{Row}
use Rattle.sqlite.specs.Tree.{Trees}
use Rattle.sqlite.specs.declared.error.Error.{Error}
use Rattle.sqlite.specs.declared.error.Error.TheVariants.{ExecuteReturnedResults}
use Rattle.sqlite_trees.specs.declared.error.StoreError.{StoreError}
use Rattle.sqlite_trees.specs.declared.error.StoreError.TheVariants.{OutOfMemory, Io, Corrupt, Full, Broken, Unstorable}
use Rattle.sqlite_schema.specs.declared.command.Command.{Command}
use Rattle.sqlite_schema.specs.declared.command.Command.TheVariants.{Select, Begin, Commit, Rollback, Savepoint as Save, Release, RollbackTo, Nothing, Rows}
use Rattle.sqlite_schema.specs.declared.command.Returning.{Returning}
use Rattle.sqlite_resolve.specs.declared.compiled.Compiled.{Compiled}
use Rattle.sqlite.specs.Effect.{Database}
use Rattle.sqlite.specs.State.{State, KeepsCounts, Shows, IsUnchanged, IsRolledBack, HasCause, Fails, Writes, Runs, RunsCommand, IsStatement, IsNotRun, ShowsRows, Shown, FailsToShow, FailsToQuery, Begins, QueriesRow, CommitsShowing}
use Rattle.sqlite.proofs.Callers.{unchanged_then}

module _ (old mid new : State) (same : IsUnchanged old mid) (limit : mid.step_limit ≡ old.step_limit) (counts : old.faults ≤ mid.faults) where
  shown_from : {now1 now2 committed1 committed2 : Database} {mode1 mode2 : Bool} → now1 ≡ now2 → committed1 ≡ committed2 → mode1 ≡ mode2 → Shows mid new now1 committed1 mode1 → Shows old new now2 committed2 mode2
  shown_from now committed mode h = record {
    was_open = same.0.was_open;
    is_open = h.is_open;
    now_is = h.now_is ∙ now;
    committed_is = h.committed_is ∙ committed;
    mode = h.mode ∙ mode;
  }

  counts_from : KeepsCounts mid new → KeepsCounts old new
  counts_from h = record { changes = h.changes ∙ same.1.changes; last_rowid = h.last_rowid ∙ same.1.last_rowid }

  same_from : IsUnchanged mid new → IsUnchanged old new
  same_from = unchanged_then old mid new same

  undone_from : IsRolledBack mid new → IsRolledBack old new
  undone_from h = record {
    was_open = λ _. same.0.was_open;
    undone = λ open_now. let u = h.undone open_now in (u.0 ∙ same.0.committed_is, u.1 ∙ same.0.committed_is);
    autocommit = h.autocommit;
    unmarked = h.unmarked;
    counts = counts_from h.counts;
  }

  abbrev writes_from : (returning : Option Returning) (command : Command) (text : List ℕ) (params : Row) (count : ℕ) → Writes mid new returning command text params count → Writes old new returning command text params count
  writes_from returning command text params count w = record {
    tally = w.tally;
    changed = rw (limit, same.0.now_is) at w.changed;
    frozen = rw same.0.now_is at w.frozen;
    sound = w.sound;
    shown = shown_from refl (rw same.0.mode (ap (λ c. cond old.in_transaction c new.now) same.0.committed_is)) same.0.mode w.shown;
    marks = w.marks ∙ same.2;
    counted = w.counted;
    changes = rw same.1.changes at w.changes;
    last_rowid = rw same.1.last_rowid at w.last_rowid;
  }

  runs_from : (returning : Option Returning) (command : Command) (text : List ℕ) (params : Row) (count : ℕ) → Runs mid new returning command text params count → Runs old new returning command text params count
  runs_from returning (Select q names) text params count h = absurd h
  runs_from returning Begin text params count h = (sym same.0.mode ∙ h.0, shown_from same.0.now_is same.0.committed_is refl h.1, counts_from h.2, h.3, h.4 ∙ same.2)
  runs_from returning Commit text params count h = (sym same.0.mode ∙ h.0, shown_from same.0.now_is same.0.now_is refl h.1, counts_from h.2, h.3, h.4)
  runs_from returning Rollback text params count h = (sym same.0.mode ∙ h.0, undone_from h.1, h.2)
  runs_from returning (Save name) text params count h = ((shown_from same.0.now_is same.0.committed_is refl h.0.0, counts_from h.0.1, rw (same.2, same.0.mode, same.0.now_is) at h.0.2), h.1)
  runs_from returning (Release name) text params count h = (
    h.0,
    rw same.2 at h.1,
    elim h.2 [
      | inl ends ↦ inl (rw same.2 at ends.0, (shown_from same.0.now_is same.0.now_is refl ends.1.0, counts_from ends.1.1, ends.1.2))
      | inr drops ↦ inr (rw same.2 at drops.0, (shown_from same.0.now_is same.0.committed_is refl drops.1.0, counts_from drops.1.1, rw same.2 at drops.1.2))
    ],
    h.3,
  )
  runs_from returning (RollbackTo name) text params count h =
      (h.0, rw same.2 at h.1, (h.2.0, rw same.2 at h.2.1, shown_from refl same.0.committed_is refl h.2.2, counts_from h.2.3, rw same.2 at h.2.4), h.3)
  runs_from returning (Rows values width names) text params count h = (same_from h.0, h.1)
  runs_from returning Nothing text params count h = (same_from h.0, h.1)
  runs_from returning _ text params count h = writes_from returning _ text params count h

  -- ---- refusals

  cause_from : (too_big : Type 0) (cause : StoreError) → HasCause mid new too_big cause → HasCause old new too_big cause
  cause_from too_big OutOfMemory h = tt
  cause_from too_big Io h = omega (arith, counts, h)
  cause_from too_big Corrupt h = omega (arith, counts, h)
  cause_from too_big Full h = omega (arith, counts, h)
  cause_from too_big Broken h = absurd (true≢false (sym same.0.is_open ∙ h))
  cause_from too_big Unstorable h = h

  fails_from : (A B : Type 0) (e : Error) → (A → B) → Fails mid new A e → Fails old new B e
  fails_from A B e f h = (h.0, h.1, weaker h.0 (cause_from A h.0 h.2), undone_from h.3, h.4)
    where
      weaker : (cause : StoreError) → HasCause old new A cause → HasCause old new B cause
      weaker OutOfMemory h = tt
      weaker Io h = h
      weaker Corrupt h = h
      weaker Full h = h
      weaker Broken h = h
      weaker Unstorable h = f h

  command_from : (sql : List ℕ) (c : Compiled) (params : Row) (r : Result ℕ Error) → RunsCommand mid new sql c params r → RunsCommand old new sql c params r
  command_from sql c params (Ok count) h = runs_from c.returning c.command _ params count h
  command_from sql c params (Err e) (inl (inl h, u)) = inl (inl (rw (same.0.mode, same.2) at h), same_from u)
  command_from sql c params (Err e) (inl (inr h, u)) = inl (inr (h.0, rw (limit, same.0.now_is) at h.1), same_from u)
  command_from sql c params (Err e) (inr h) = inr (fails_from _ _ e (λ big. rw (limit, same.0.now_is) at big) h)

  alone_from : (r : Result ℕ Error) (b : Bool) (P Q : Type 0) → (P → Q) → MatchBool b ((r ≡ Err ExecuteReturnedResults) × IsUnchanged mid new) P
      → MatchBool b ((r ≡ Err ExecuteReturnedResults) × IsUnchanged old new) Q
  alone_from r true P Q f h = (h.0, same_from h.1)
  alone_from r false P Q f h = f h

  abbrev statement_from : (sql : List ℕ) (params : Row) (c : Compiled) → IsStatement mid sql params c → IsStatement old sql params c
  statement_from sql params c it = record { is = rw same.0.now_is at it.is; whole = it.whole; given = it.given; now = it.now }

  pub not_run_from : (sql : List ℕ) (params : Row) (e : Error) → IsNotRun mid new sql params e → IsNotRun old new sql params e
  unfolding IsNotRun
  not_run_from sql params e (inl h) = inl (rw same.0.now_is at h.0, same_from h.1)
  not_run_from sql params e (inr h) = inr (fails_from _ _ e (λ big. big) h)

  -- ---- a query

  rows_from : (sql : List ℕ) (c : Compiled) (params : Row) (rows : List Row) (shows : Option Returning) → ShowsRows mid new sql c params rows shows → ShowsRows old new sql c params rows shows
  rows_from sql c params rows None h = (h.0, rw same.0.now_is at h.1, h.2, same_from h.3)
  rows_from sql c params rows (Some what) h = (h.0, writes_from (Some what) c.command _ params h.0 h.1, h.2)

  pub shows_from : (sql : List ℕ) (params : Row) (rows : List Row) → Shown sql params mid new rows → Shown sql params old new rows
  unfolding Shown
  shows_from sql params rows h = (h.0, statement_from sql params h.0 h.1, rows_from sql h.0 _ rows h.0.returning h.2)

  refusal_from : (sql : List ℕ) (c : Compiled) (params : Row) (e : Error) (shows : Option Returning) → FailsToShow mid new sql c params e shows → FailsToShow old new sql c params e shows
  refusal_from sql c params e None h = (h.0, rw same.0.now_is at h.1, rw limit at h.2, same_from h.3)
  refusal_from sql c params e (Some what) h = command_from sql c params (Err e) h

  pub failed_from : (sql : List ℕ) (params : Row) (e : Error) → FailsToQuery sql params mid new e → FailsToQuery sql params old new e
  unfolding FailsToQuery
  failed_from sql params e (inl h) = inl (not_run_from sql params e h)
  failed_from sql params e (inr h) = inr (h.0, statement_from sql params h.0 h.1, refusal_from sql h.0 _ e h.0.returning h.2)

  begins_from : (sql : List ℕ) (params : Row) (rows : List Row) → Begins sql params mid rows → Begins sql params old rows
  unfolding Begins
  begins_from sql params rows h = (h.0, statement_from sql params h.0 h.1, h.2, h.3, rw same.0.now_is at h.4, h.5)

  pub queries_from : (sql : List ℕ) (params : Row) (r : Result Row Error) → QueriesRow sql params mid new r → QueriesRow sql params old new r
  unfolding QueriesRow
  queries_from sql params (Ok row) (inl h) = inl (begins_from sql params _ h.0, same_from h.1)
  queries_from sql params (Ok row) (inr h) = inr (h.0, shows_from sql params h.0 h.1, h.2)
  queries_from sql params (Err e) (inl h) = inl (failed_from sql params e h)
  queries_from sql params (Err e) (inr h) = inr (h.0, shows_from sql params [] h.1)

  pub showing_from : (sql : List ℕ) (params : Row) (trees : Trees) → CommitsShowing sql params mid trees → CommitsShowing sql params old trees
  unfolding CommitsShowing
  showing_from sql params trees h = (h.0, statement_from sql params h.0 h.1, h.2, rw (limit, same.0.mode, same.0.now_is) at h.3)
