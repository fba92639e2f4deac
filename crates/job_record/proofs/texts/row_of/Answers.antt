use Rattle.std.proofs.lemmas.Result.{err_from_is_err_and}
use Rattle.job_record.proofs.RowsRead.{misreads_as}
use Rattle.job_record.proofs.texts.row_of.Goals as goal

pub returns-in_err-files-clause-err : goal.returns-in_err-files-clause-err
returns-in_err-files-clause-err c =
    let p = err_from_is_err_and c.from_residual.result c.from_residual.ensures.1 in
    rw (p.1, p.2) (misreads_as (λ none row h. none row.files h.files) c.in_err-files.field-0.0 c.in_err-files.ensures.err)
