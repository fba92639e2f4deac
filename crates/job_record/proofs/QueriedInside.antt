-- A query inside a transaction that has not ended.
use Rattle.std.proofs.Common.{ℕ, List, Result, Ok, Err, ◌⊎◌, inl, inr, IsTrue, sym, ◌∙◌, true≢false}
use Rattle.sqlite.specs.Order.{Row as Columns}
use Rattle.sqlite.specs.State.{State, QueriesRow, QueriesRowInside, FailsToQuery, IsTooLate}
use Rattle.sqlite.specs.declared.error.Error.{Error}

pub row_inside : (sql : List ℕ) (params : Columns) (old new : State) (result : Result Columns Error) → IsTrue old.in_transaction → QueriesRowInside sql params old new result → QueriesRow sql params old new result
row_inside sql params old new (Ok row) going ran = ran
row_inside sql params old new (Err e) going (inl ran) = ran
row_inside sql params old new (Err e) going (inr late) = absurd (true≢false (sym going ∙ late.3))

pub fails_inside : (sql : List ℕ) (params : Columns) (old new : State) (e : Error) → IsTrue old.in_transaction → FailsToQuery sql params old new e ⊎ IsTooLate sql params old new e → FailsToQuery sql params old new e
fails_inside sql params old new e going (inl failed) = failed
fails_inside sql params old new e going (inr late) = absurd (true≢false (sym going ∙ late.3))
