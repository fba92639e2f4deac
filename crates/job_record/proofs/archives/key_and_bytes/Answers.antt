use Rattle.std.proofs.Common.{arith}
use Rattle.std.proofs.lemmas.Result.{err_from_is_err_and}
use Rattle.job_record.proofs.RowsRead.{misreads_as}
use Rattle.job_record.proofs.archives.key_and_bytes.Goals as goal

pub returns-in_err-text_at-clause-err : goal.returns-in_err-text_at-clause-err
returns-in_err-text_at-clause-err c =
    let p = err_from_is_err_and c.from_residual.result c.from_residual.ensures.1 in
    rw (p.1, p.2) (misreads_as (λ none wide key bytes text is. none (omega (arith, wide)) key text) c.in_err-text_at.field-0.0 c.in_err-text_at.ensures.err)
