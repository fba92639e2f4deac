use Rattle.std.proofs.Common.{inr, subst}
use Rattle.std.proofs.lemmas.Result.{err_from_is_err_and}
use Rattle.sqlite.specs.Values.{bound}
use Rattle.sqlite.specs.State.{QueriesRow}
use Rattle.sqlite.specs.Held.{state}
use Rattle.job_record.proofs.Chain.{was_clean}
use Rattle.job_record.proofs.After.{queries_from}
use Rattle.job_record.proofs.Looked.{refused_queries, refused_idle, looked_shows}
use Rattle.job_record.proofs.tables.first_row.Goals as goal

pub returns-in_err-statement-clause-row : goal.returns-in_err-statement-clause-row
returns-in_err-statement-clause-row g c clean =
    let p = err_from_is_err_and c.from_residual.result c.from_residual.ensures.1 in
    rw (p.1, p.2) (refused_queries (state g.S.Store c.args.conn.now) (state g.S.Store c.prepare.new.self) c.args.text.now (bound c.args.params.now) _ (c.in_err-statement.ensures.err clean _))

pub returns-in_err-statement-clause-open : goal.returns-in_err-statement-clause-open
returns-in_err-statement-clause-open g c clean =
    inr (refused_idle (state g.S.Store c.args.conn.now) (state g.S.Store c.prepare.new.self) c.args.text.now (bound c.args.params.now) _ (c.in_err-statement.ensures.err clean _) clean c.prepare.ensures.survives)

pub returns-clause-row : goal.returns-clause-row
returns-clause-row g c clean =
    let old = state g.S.Store c.args.conn.now in
    let mid = state g.S.Store c.prepare.new.self in
    let new = state g.S.Store c.query_row.new.conn in
    let look = c.prepare.ensures.survives in
    let told = c.in_ok-statement.ensures.ok (was_clean _ _ _ c.query_row.ensures.survives clean) in
    queries_from old mid new told.1 look.limit look.counts c.args.text.now (bound c.args.params.now) c.query_row.result (subst (λ s. QueriesRow s (bound c.args.params.now) mid new c.query_row.result) told.0 (c.query_row.ensures.row clean))

pub returns-clause-survives : goal.returns-clause-survives
returns-clause-survives g c =
    looked_shows (state g.S.Store c.args.conn.now) (state g.S.Store c.prepare.new.self) (state g.S.Store c.query_row.new.conn) c.args.text.now _ (bound c.args.params.now) c.prepare.ensures.survives (λ clean. c.in_ok-statement.ensures.ok clean)
    c.query_row.ensures.survives
