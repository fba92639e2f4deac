use Rattle.std.proofs.Common.{inr, subst}
use Rattle.std.proofs.lemmas.Result.{err_from_is_err_and, IfOk-weaker, IfErr-weaker}
use Rattle.sqlite.specs.Values.{bound}
use Rattle.sqlite.specs.State.{Shown, FailsToQuery}
use Rattle.sqlite.specs.Held.{state}
use Rattle.job_record.proofs.Chain.{was_clean}
use Rattle.job_record.proofs.After.{shows_from, failed_from}
use Rattle.job_record.proofs.Looked.{refused_fails, refused_idle, looked_shows}
use Rattle.job_record.proofs.tables.all_rows.Goals as goal

pub returns-in_err-statement-clause-err : goal.returns-in_err-statement-clause-err
returns-in_err-statement-clause-err g c clean =
    let p = err_from_is_err_and c.from_residual.result c.from_residual.ensures.1 in
    rw (p.1, p.2) (refused_fails (state g.S.Store c.args.conn.now) (state g.S.Store c.prepare.new.self) c.args.text.now (bound c.args.params.now) _ (c.in_err-statement.ensures.err clean _))

pub returns-in_err-statement-clause-open : goal.returns-in_err-statement-clause-open
returns-in_err-statement-clause-open g c clean =
    inr (refused_idle (state g.S.Store c.args.conn.now) (state g.S.Store c.prepare.new.self) c.args.text.now (bound c.args.params.now) _ (c.in_err-statement.ensures.err clean _) clean c.prepare.ensures.survives)

pub returns-clause-ok : goal.returns-clause-ok
returns-clause-ok g c clean =
    let old = state g.S.Store c.args.conn.now in
    let mid = state g.S.Store c.prepare.new.self in
    let new = state g.S.Store c.query_all.new.conn in
    let look = c.prepare.ensures.survives in
    let told = c.in_ok-statement.ensures.ok (was_clean _ _ _ c.query_all.ensures.survives clean) in
    IfOk-weaker c.query_all.result _ _ (λ rows h. shows_from old mid new told.1 look.limit look.counts c.args.text.now (bound c.args.params.now) rows.items (subst (λ s. Shown s (bound c.args.params.now) mid new rows.items) told.0 h)) (c.query_all.ensures.ok clean)

pub returns-clause-err : goal.returns-clause-err
returns-clause-err g c clean =
    let old = state g.S.Store c.args.conn.now in
    let mid = state g.S.Store c.prepare.new.self in
    let new = state g.S.Store c.query_all.new.conn in
    let look = c.prepare.ensures.survives in
    let told = c.in_ok-statement.ensures.ok (was_clean _ _ _ c.query_all.ensures.survives clean) in
    IfErr-weaker c.query_all.result _ _ (λ e h. failed_from old mid new told.1 look.limit look.counts c.args.text.now (bound c.args.params.now) e (subst (λ s. FailsToQuery s (bound c.args.params.now) mid new e) told.0 h)) (c.query_all.ensures.err clean)

pub returns-clause-survives : goal.returns-clause-survives
returns-clause-survives g c =
    looked_shows (state g.S.Store c.args.conn.now) (state g.S.Store c.prepare.new.self) (state g.S.Store c.query_all.new.conn) c.args.text.now _ (bound c.args.params.now) c.prepare.ensures.survives (λ clean. c.in_ok-statement.ensures.ok clean)
    c.query_all.ensures.survives
