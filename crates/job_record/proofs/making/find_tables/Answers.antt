use Rattle.std.proofs.lemmas.Result.{err_from_is_err_and}
use Rattle.job_record.proofs.Chain.{was_clean}
use Rattle.job_record.proofs.Opens.{lacks_first, lacks_second, lacks_third, looked_twice, looks_ok, looks_err}
use Rattle.job_record.proofs.making.find_tables.Goals as goal

pub returns-in_err-meta-clause-err : goal.returns-in_err-meta-clause-err
returns-in_err-meta-clause-err g c clean =
    let p = err_from_is_err_and c.from_residual.result c.from_residual.ensures.1 in
    rw (p.1, p.2) (lacks_first g.S.Store c.args.conn.now c.has_table.new.conn _ (c.in_err-meta.ensures.err clean))

pub returns-in_err-job-clause-err : goal.returns-in_err-job-clause-err
returns-in_err-job-clause-err g c clean =
    let p = err_from_is_err_and c.from_residual-in_err-job.result c.from_residual-in_err-job.ensures.1 in
    rw (p.1, p.2)
    (lacks_second g.S.Store c.args.conn.now c.has_table.new.conn c.has_table-2.new.conn (c.in_ok-meta.ensures.ok (was_clean _ _ _ c.has_table-2.ensures.survives clean)).1 _ (c.in_err-job.ensures.err clean))

pub returns-in_err-archive-clause-err : goal.returns-in_err-archive-clause-err
returns-in_err-archive-clause-err g c clean =
    let p = err_from_is_err_and c.from_residual-in_err-archive.result c.from_residual-in_err-archive.ensures.1 in
    let second = was_clean _ _ _ c.has_table-3.ensures.survives clean in
    let first = was_clean _ _ _ c.has_table-2.ensures.survives second in
    let same = looked_twice g.S.Store c.args.conn.now c.has_table.new.conn c.has_table-2.new.conn c.has_table-3.new.conn (c.in_ok-meta.ensures.ok first).1 (c.in_ok-job.ensures.ok second).1 in
    rw (p.1, p.2) (lacks_third g.S.Store c.args.conn.now c.has_table-2.new.conn c.has_table-3.new.conn same _ (c.in_err-archive.ensures.err clean))

pub returns-clause-ok : goal.returns-clause-ok
returns-clause-ok g c clean =
    let second = was_clean _ _ _ c.has_table-3.ensures.survives clean in
    let first = was_clean _ _ _ c.has_table-2.ensures.survives second in
    looks_ok g.S.Store c.args.conn.now c.has_table.new.conn c.has_table-2.new.conn c.has_table-3.new.conn _ _ _ _ c.tables_of.ensures (c.in_ok-meta.ensures.ok first, c.in_ok-job.ensures.ok second, c.in_ok-archive.ensures.ok clean)

pub returns-clause-err : goal.returns-clause-err
returns-clause-err g c clean =
    let second = was_clean _ _ _ c.has_table-3.ensures.survives clean in
    let first = was_clean _ _ _ c.has_table-2.ensures.survives second in
    looks_err g.S.Store c.args.conn.now c.has_table.new.conn c.has_table-2.new.conn c.has_table-3.new.conn _ _ _ _ c.tables_of.ensures (c.in_ok-meta.ensures.ok first, c.in_ok-job.ensures.ok second, c.in_ok-archive.ensures.ok clean)
