-- A look at a text that refuses it runs no statement, and one that takes it says that the connection is open.
use Rattle.std.proofs.Common.{◌≡◌, inl, inr, ℕ, List, Err, subst}
use Rattle.sqlite.specs.Order.{Row}
use Rattle.sqlite.specs.declared.error.Error.{Error}
use Rattle.sqlite.specs.State.{State, HasCleanDisk, IsUnchanged, Survives, IsNotRun, FailsToQuery, QueriesRow, CommitsShowing}
use Rattle.sqlite.proofs.StateLemmas.{survives_then}
use Rattle.job_record.specs.inner.Crash.{IsIdle}
use Rattle.job_record.proofs.Chain.{was_clean}
use Rattle.job_record.proofs.After.{showing_from}

module _ (old new : State) (sql : List ℕ) (params : Row) (e : Error) (h : IsNotRun old new sql params e) where
  pub refused_fails : FailsToQuery sql params old new e
  unfolding FailsToQuery
  refused_fails = inl h

  pub refused_queries : QueriesRow sql params old new (Err e)
  unfolding QueriesRow
  refused_queries = inl refused_fails

  pub refused_idle : HasCleanDisk new → Survives old new (λ _. ⊥) → IsIdle old new
  unfolding IsNotRun
  refused_idle clean survives = record {
    was_open = elim h [ inl same ↦ (λ _. same.1.0.was_open) | inr failed ↦ failed.3.was_open ];
    crash = λ trees may. elim (survives.crash clean trees may) [ inl before ↦ before | inr none ↦ absurd none ];
  }

-- the statement runs on what the look left
module _ (old mid new : State) (sql text : List ℕ) (params : Row) (look : Survives old mid (λ _. ⊥)) (told : HasCleanDisk mid → (text ≡ sql) × IsUnchanged old mid) where
  pub looked_shows : Survives mid new (CommitsShowing text params mid) → Survives old new (CommitsShowing sql params old)
  looked_shows ran =
      survives_then old mid new (λ _. ⊥) (CommitsShowing text params mid) (CommitsShowing sql params old) (λ _ db none. absurd none)
      (λ late db h. let t = told (was_clean mid new (CommitsShowing text params mid) ran late) in showing_from old mid new t.1 look.limit look.counts sql params db (subst (λ s. CommitsShowing s params mid db) t.0 h)) look ran
