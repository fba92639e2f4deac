use Rattle.std.proofs.Common.{◌≤◌, [], length, sym, subst, arith}
use Rattle.std.proofs.lemmas.Result.{err_from_is_err_and}
use Rattle.sqlite.specs.State.{Shown}
use Rattle.sqlite.specs.Held.{state}
use Rattle.job_rows.specs.Map.{greatest_number}
use Rattle.job_record.specs.Archives.{archived_text}
use Rattle.job_record.proofs.Chain.{was_clean}
use Rattle.job_record.proofs.MigratedIn.{make_fails, read_fails, to_read, add_fails, to_added, note_fails, migrates}
use Rattle.job_record.proofs.migrating.migrate_in.Goals as goal

pub returns-in_err-execute-clause-migrates : goal.returns-in_err-execute-clause-migrates
returns-in_err-execute-clause-migrates g c clean going =
    let p = err_from_is_err_and c.from_residual.result c.from_residual.ensures.1 in
    rw (p.1, p.2) (make_fails g.S.Store c.args.change.now.conn.now c.execute.new.self.conn.now _ (c.in_err-execute.ensures.runs clean going))

pub returns-in_err-archived-clause-migrates : goal.returns-in_err-archived-clause-migrates
returns-in_err-archived-clause-migrates g c clean going =
    let first = c.args.change.now.conn.now in
    let made = c.execute.new.self.conn.now in
    let to = c.query_all.new.self.conn.now in
    let makes = c.in_ok-execute.ensures.runs (was_clean _ _ _ c.query_all.ensures.survives clean) going in
    let p = err_from_is_err_and c.from_residual-in_err-archived.result c.from_residual-in_err-archived.ensures.1 in
    rw (p.1, p.2) (read_fails g.S.Store first made _ makes to _ (c.in_err-archived.ensures.err clean))

pub returns-in_err-add_all-clause-migrates : goal.returns-in_err-add_all-clause-migrates
returns-in_err-add_all-clause-migrates g c clean going =
    let first = c.args.change.now.conn.now in
    let made = c.execute.new.self.conn.now in
    let read = c.query_all.new.self.conn.now in
    let to = c.add_all.new.change.conn.now in
    let all = c.as_slice.result.now in
    let second = was_clean _ _ _ c.add_all.ensures.survives clean in
    let makes = c.in_ok-execute.ensures.runs (was_clean _ _ _ c.query_all.ensures.survives second) going in
    let shows = subst (λ l. Shown archived_text [] (state g.S.Store made) (state g.S.Store read) l) (sym c.as_slice.ensures.value) (c.in_ok-archived.ensures.ok second) in
    let on = to_read g.S.Store first made _ makes read all shows in
    let p = err_from_is_err_and c.from_residual-in_err-add_all.result c.from_residual-in_err-add_all.ensures.1 in
    rw (p.1, p.2) (add_fails g.S.Store first made _ makes read all shows to _ (c.in_err-add_all.ensures.adds clean on.going on.is_open))

pub returns-in_err-execute-2-clause-migrates : goal.returns-in_err-execute-2-clause-migrates
returns-in_err-execute-2-clause-migrates g c clean going =
    let first = c.args.change.now.conn.now in
    let made = c.execute.new.self.conn.now in
    let read = c.query_all.new.self.conn.now in
    let added = c.add_all.new.change.conn.now in
    let to = c.execute-2.new.self.conn.now in
    let all = c.as_slice.result.now in
    let third = was_clean _ _ _ c.execute-2.ensures.survives clean in
    let second = was_clean _ _ _ c.add_all.ensures.survives third in
    let makes = c.in_ok-execute.ensures.runs (was_clean _ _ _ c.query_all.ensures.survives second) going in
    let shows = subst (λ l. Shown archived_text [] (state g.S.Store made) (state g.S.Store read) l) (sym c.as_slice.ensures.value) (c.in_ok-archived.ensures.ok second) in
    let on = to_read g.S.Store first made _ makes read all shows in
    let adds = c.in_ok-add_all.ensures.adds third on.going on.is_open in
    let going_on = to_added g.S.Store first made _ makes read all shows added adds in
    let p = err_from_is_err_and c.from_residual-in_err-execute-2.result c.from_residual-in_err-execute-2.ensures.1 in
    rw (p.1, p.2) (note_fails g.S.Store first made _ makes read all shows added adds to _ (c.in_err-execute-2.ensures.runs clean going_on.going))

pub returns-clause-migrates : goal.returns-clause-migrates
returns-clause-migrates g c clean going =
    let first = c.args.change.now.conn.now in
    let made = c.execute.new.self.conn.now in
    let read = c.query_all.new.self.conn.now in
    let added = c.add_all.new.change.conn.now in
    let last = c.execute-2.new.self.conn.now in
    let all = c.as_slice.result.now in
    let third = was_clean _ _ _ c.execute-2.ensures.survives clean in
    let second = was_clean _ _ _ c.add_all.ensures.survives third in
    let makes = c.in_ok-execute.ensures.runs (was_clean _ _ _ c.query_all.ensures.survives second) going in
    let shows = subst (λ l. Shown archived_text [] (state g.S.Store made) (state g.S.Store read) l) (sym c.as_slice.ensures.value) (c.in_ok-archived.ensures.ok second) in
    let on = to_read g.S.Store first made _ makes read all shows in
    let adds = c.in_ok-add_all.ensures.adds third on.going on.is_open in
    let going_on = to_added g.S.Store first made _ makes read all shows added adds in
    let vector = c.in_ok-archived.archived in
    let few : length all ≤ greatest_number = omega (arith, c.as_slice.ensures.len, vector.ok, vector.small) in
    migrates g.S.Store first made _ makes read all shows added adds last _ few (c.in_ok-execute-2.ensures.runs clean going_on.going)
