-- A plain query changes nothing, and none of its refusals is the one of an empty answer.
use Rattle.std.proofs.Common.{◌≡◌, ◌⊎◌, inl, inr, ℕ, List, [], Option, Ok, Err, sym, ap, subst, ◌∙◌}
use Rattle.sqlite.specs.Order.{Row}
use Rattle.sqlite.specs.Schema.{Schema}
use Rattle.sqlite.specs.Command.TheVariants.{Select}
use Rattle.sqlite.specs.declared.error.Error.{Error}
use Rattle.sqlite.specs.declared.error.Error.TheVariants.{QueryReturnedNoRows}
use Rattle.sqlite.specs.Clock.{timed}
use Rattle.sqlite.specs.Effect.{Database, RefusesToRead}
use Rattle.sqlite.specs.Listing.{understood}
use Rattle.sqlite.specs.State.{State, store_error, IsUnchanged, IsRolledBack, IsNoStatement, IsNotRun, FailsToShow, FailsToQuery, ShowsRows, Shown, QueriesRow}
use Rattle.sqlite.proofs.Callers.{IsPlain, command_of}
use Rattle.sqlite_trees.specs.declared.error.StoreError.{StoreError}
use Rattle.sqlite_trees.specs.declared.error.StoreError.TheVariants.{OutOfMemory, Io, Corrupt, Full, Broken, Unstorable}
use Rattle.sqlite_schema.specs.declared.program.Program.{Program}

module _ (sql : List ℕ) (params : Row) (old new : State) (plain : IsPlain (understood old.now.schema sql)) where
  pub shown_same : (rows : List Row) → Shown sql params old new rows → IsUnchanged old new
  unfolding Shown
  shown_same rows h =
      let none = (subst IsPlain h.1.is plain).0 in
      (subst (ShowsRows old new sql h.0 (timed params h.0.formats h.1.now) rows) none h.2).3

  pub failed_same : (e : Error) → FailsToQuery sql params old new e → IsUnchanged old new ⊎ IsRolledBack old new
  unfolding FailsToQuery IsNotRun
  failed_same e (inl (inl refused)) = inl refused.1
  failed_same e (inl (inr failed)) = inr failed.3
  failed_same e (inr h) =
      let none = (subst IsPlain h.1.is plain).0 in
      inl (subst (FailsToShow old new sql h.0 (timed params h.0.formats h.1.now) e) none h.2).3

  pub row_same : (row : Row) → QueriesRow sql params old new (Ok row) → IsUnchanged old new
  unfolding QueriesRow
  row_same row (inl h) = h.1
  row_same row (inr h) = shown_same h.0 h.1

  pub error_same : (e : Error) → QueriesRow sql params old new (Err e) → IsUnchanged old new ⊎ IsRolledBack old new
  unfolding QueriesRow
  error_same e (inl h) = failed_same e h
  error_same e (inr h) = inl (shown_same [] h.1)

pub no_cause : (cause : StoreError) → QueryReturnedNoRows ≡ store_error cause → ⊥
no_cause OutOfMemory h = cc
no_cause Io h = cc
no_cause Corrupt h = cc
no_cause Full h = cc
no_cause Broken h = cc
no_cause Unstorable h = cc

pub no_statement : (s : State) (sql : List ℕ) (params : Row) → IsNoStatement s sql params QueryReturnedNoRows → ⊥
no_statement s sql params (inl h) = let e = h.2 in cc
no_statement s sql params (inr h) = elim h.2 [
  | inl a ↦ let e = a.1 in cc
  | inr b ↦ elim b [ inl a ↦ let e = a.1 in cc | inr a ↦ let e = a.1 in cc ]
]

pub no_refusal : (limit : Option ℕ) (q : Program) (shown : List (List ℕ)) (db : Database) (params : Row) → RefusesToRead limit (Select q shown) db params QueryReturnedNoRows → ⊥
no_refusal limit q shown db params (inl h) = let e = h.0 in cc
no_refusal limit q shown db params (inr (inl h)) = let e = h.0 in cc
no_refusal limit q shown db params (inr (inr h)) = let e = h.0 in cc

-- a query that is known shows that there is no row
module _ (sql : List ℕ) (params : Row) (old new : State) (schema : Schema) (has : old.now.schema ≡ schema) (q : Program) (names : List (List ℕ)) (is : command_of (understood schema sql) ≡ Select q names) (plain : IsPlain (understood schema sql)) where
  plain_here : IsPlain (understood old.now.schema sql)
  plain_here = subst (λ s. IsPlain (understood s sql)) (sym has) plain

  shows_none : FailsToQuery sql params old new QueryReturnedNoRows → ⊥
  unfolding FailsToQuery IsNotRun
  shows_none (inl (inl refused)) = no_statement old sql params refused.0
  shows_none (inl (inr failed)) = no_cause failed.0 failed.1
  shows_none (inr h) =
      let none = (subst IsPlain h.1.is plain_here).0 in
      let full = timed params h.0.formats h.1.now in
      let refuses = subst (FailsToShow old new sql h.0 full QueryReturnedNoRows) none h.2 in
      let command = ap command_of (sym h.1.is ∙ ap (λ s. understood s sql) has) ∙ is in
      no_refusal old.step_limit q names refuses.0 full (subst (λ c. RefusesToRead old.step_limit c refuses.0 full QueryReturnedNoRows) command refuses.2)

  pub no_rows : QueriesRow sql params old new (Err QueryReturnedNoRows) → Shown sql params old new []
  unfolding QueriesRow
  no_rows (inl h) = absurd (shows_none h)
  no_rows (inr h) = h.1
