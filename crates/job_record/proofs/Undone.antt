-- The transactions of an opening: what they ran, and how one that is refused goes back.
use Rattle.std.proofs.Common.{◌≡◌, inl, inr, ℕ, List, [], ◌∷◌, Ok, Err, Result, IsTrue, refl, sym, ap, subst, ◌∙◌}
use Rattle.std.specs.Prelude.{IsOk}
use Rattle.sqlite.specs.Store.{Ghosts}
use Rattle.sqlite.specs.Tree.{Trees}
use Rattle.sqlite.specs.Order.{Row}
use Rattle.sqlite.specs.declared.error.Error.{Error}
use Rattle.sqlite.specs.State.{State, HasCleanDisk, Survives, KeepsCommit, IsRolledBack, ExecutesInside}
use Rattle.sqlite.specs.Held.{Held, state}
use Rattle.sqlite.proofs.Callers.{survives_begin}
use Rattle.sqlite.proofs.StateLemmas.{survives_then}
use Rattle.job_record.specs.declared.fault.RecordFault.{RecordFault}
use Rattle.job_record.specs.declared.fault.RecordFault.TheVariants.{Store}
use Rattle.job_record.specs.Blame.{RunsOn}
use Rattle.job_record.specs.Opening.{begun, GoesBack, CannotMigrate, make_texts, migrate_texts, RunsAll, RefusesOne, MigratesFrom}
use Rattle.job_record.specs.inner.Inside.{GoesOn, Ends}
use Rattle.job_record.specs.inner.Opened.{FailsToEnd, RunsThese, MakesOrFails, CommitsTables, MigratesIn, MigratesOrFails, CommitsMigrated}
use Rattle.job_record.proofs.Chain.{was_clean, goes_then, goes_keeps, keeps_then}
use Rattle.job_record.proofs.Stepping.{goes_on, kept_by}

-- a statement that is refused commits nothing
pub kept_inside : (sql : List ℕ) (params : Row) (old new : State) (e : Error) → ExecutesInside 0 sql params old new (Err e) → KeepsCommit old new
kept_inside sql params old new e (inl h) = kept_by sql params old new h.1
kept_inside sql params old new e (inr h) = kept_by sql params old new (inl h.2)

goes_back : (first last end : State) → KeepsCommit first last → IsRolledBack last end → GoesBack first end
goes_back first last end kept r = (λ now. let u = r.undone now in let k = kept.committed (r.was_open now) in (u.0 ∙ k, u.1 ∙ k), r.autocommit)

module _ {S : Type 0} (g : Ghosts S) where
  -- ---- statements one after the other

  module _ (sql : List ℕ) (at next : Held S) (n : ℕ) (ran : ExecutesInside 0 sql [] (state g at) (state g next) (Ok n)) where
    goes : GoesOn (state g at) (state g next)
    goes = goes_on sql [] (state g at) (state g next) n ran

    pub runs_last : RunsThese g at next (sql ∷ []) (Ok (tt {0}))
    runs_last = ((next, n, ran.0, refl), goes)

    module _ (more : List (List ℕ)) (last : Held S) where
      pub then_runs : RunsThese g next last more (Ok (tt {0})) → RunsThese g at last (sql ∷ more) (Ok (tt {0}))
      then_runs r = ((next, n, ran.0, r.0), goes_then (state g at) (state g next) (state g last) goes r.1)

      pub then_refuses : (fault : RecordFault) → RunsThese g next last more (Err fault) → RunsThese g at last (sql ∷ more) (Err fault)
      then_refuses fault r = (keeps_then (state g at) (state g next) (state g last) (goes_keeps (state g at) (state g next) goes) r.0, (r.1.0, r.1.1, inr (next, n, ran.0, r.1.2)))

  pub refuses_now : (sql : List ℕ) (more : List (List ℕ)) (at to : Held S) (e : Error) → ExecutesInside 0 sql [] (state g at) (state g to) (Err e) → RunsThese g at to (sql ∷ more) (Err (Store e))
  refuses_now sql more at to e ran = (kept_inside sql [] (state g at) (state g to) e ran, (e, refl, inl (to, ran)))

  -- ---- a whole transaction

  module _ (old first last end : Held S) (is : first ≡ begun g old) where
    pub going : IsTrue (state g first).in_transaction
    going = ap (λ (h : Held S). h.in_transaction) is

    back : KeepsCommit (state g first) (state g last) → IsRolledBack (state g last) (state g end) → GoesBack (state g old) (state g end)
    back kept r = subst (λ h. GoesBack (state g h) (state g end)) is (goes_back (state g first) (state g last) (state g end) kept r)

    pub makes_or_fails : (answer result : Result (Unit {0}) RecordFault) → RunsThese g first last make_texts answer → Ends (state g last) (state g end) answer result → FailsToEnd (state g last) (state g end) answer result
        → MakesOrFails g old end result
    makes_or_fails (Ok done) (Ok told) r e fails = (last, subst (λ h. RunsAll g h last make_texts) is r.0, e.1)
    makes_or_fails (Ok done) (Err fault) r e fails = (
      back (goes_keeps (state g first) (state g last) r.1) (e.1 r.1.going),
      (fails.0, fails.1, inr (last, subst (λ h. RunsAll g h last make_texts) is r.0, fails.2)),
    )
    makes_or_fails (Err why) (Ok told) r e fails = absurd (let same = e.0 in cc)
    makes_or_fails (Err why) (Err fault) r e fails =
        let same : fault ≡ why = let all = e.0 in cc in
        (back r.0 e.1, (r.1.0, same ∙ r.1.1, inl (subst (λ h. RefusesOne g h make_texts r.1.0) is r.1.2)))

    pub migrates_or_fails : (answer result : Result (Unit {0}) RecordFault) → MigratesIn g first last answer → Ends (state g last) (state g end) answer result → FailsToEnd (state g last) (state g end) answer result
        → MigratesOrFails g old end result
    migrates_or_fails (Ok done) (Ok told) m e fails = (last, subst (λ h. MigratesFrom g h last) is m.0, e.1)
    migrates_or_fails (Ok done) (Err fault) m e fails =
        let ran = m.2.0 in (
          back (goes_keeps (state g first) (state g last) m.1) (e.1 m.1.going),
          subst (CannotMigrate g (begun g old)) (sym fails.1) (inr (ran.0, last, subst (λ h. RunsOn g migrate_texts ran.0 h last) is ran.1, (end, inl fails.2))),
        )
    migrates_or_fails (Err why) (Ok told) m e fails = absurd (let same = e.0 in cc)
    migrates_or_fails (Err why) (Err fault) m e fails = let same : fault ≡ why = let all = e.0 in cc in (back m.0 e.1, subst (CannotMigrate g (begun g old)) (sym same) (subst (λ h. CannotMigrate g h why) is m.1))

    -- what it may leave to a crash
    pub commits_by : (P : Trees → Type 0) (answer : Result (Unit {0}) RecordFault) → (HasCleanDisk (state g last) → IsOk answer → P (state g last).now.trees) → Survives (state g first) (state g last) (λ _. ⊥)
        → Survives (state g last) (state g end) (λ trees. IsOk answer × (trees ≡ (state g last).now.trees)) → Survives (state g old) (state g end) P
    commits_by P answer leaves one two =
        survives_begin g old (state g end) P (subst (λ h. Survives (state g h) (state g end) P) is
        (survives_then (state g first) (state g last) (state g end) (λ _. ⊥) (λ trees. IsOk answer × (trees ≡ (state g last).now.trees)) P (λ _ db none. absurd none)
        (λ clean db h. subst P (sym h.1) (leaves (was_clean (state g last) (state g end) _ two clean) h.0)) one two))

    pub tables_left : (answer : Result (Unit {0}) RecordFault) → RunsThese g first last make_texts answer → IsOk answer → CommitsTables g old (state g last).now.trees
    tables_left (Ok done) r is_done = (last, subst (λ h. RunsAll g h last make_texts) is r.0, refl)
    tables_left (Err why) r is_done = absurd (let e = is_done in cc)

    pub migrated_left : (answer : Result (Unit {0}) RecordFault) → MigratesIn g first last answer → IsOk answer → CommitsMigrated g old (state g last).now.trees
    migrated_left (Ok done) m is_done = (last, subst (λ h. MigratesFrom g h last) is m.0, refl)
    migrated_left (Err why) m is_done = absurd (let e = is_done in cc)
