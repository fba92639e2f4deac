use Rattle.std.proofs.lemmas.Result.{err_from_is_err_and}
use Rattle.job_record.proofs.BytesRead.{key_unread, files_unread}
use Rattle.job_record.proofs.migrating.row_bytes.Goals as goal

pub returns-in_err-key-clause-err : goal.returns-in_err-key-clause-err
returns-in_err-key-clause-err c =
    let p = err_from_is_err_and c.from_residual.result c.from_residual.ensures.1 in
    rw (p.1, p.2) (key_unread c.args.columns.now _ c.in_err-key.ensures.err)

pub returns-in_err-bytes-clause-err : goal.returns-in_err-bytes-clause-err
returns-in_err-bytes-clause-err c =
    let p = err_from_is_err_and c.from_residual-in_err-bytes.result c.from_residual-in_err-bytes.ensures.1 in
    rw (p.1, p.2) (files_unread c.args.columns.now _ _ c.in_ok-text_at.ensures.ok.1 c.in_err-bytes.ensures.err)
