use Rattle.std.proofs.Common.{sym, ap, ◌∙◌, Some}
use Rattle.std.proofs.lemmas.Result.{err_from_is_err_and}
use Rattle.job_record.proofs.RowsRead.{misreads_as}
use Rattle.job_record.proofs.Files.{files_more, files_stop}
use Rattle.job_record.proofs.texts.read_list.Goals as goal

pub loop-entry-preserved : goal.loop-entry-preserved
loop-entry-preserved c =
    files_more c.args.list.now c.loop-entry.entry-index c.entry-item.result c.loop-entry.files.items c.in_ok-read_found.field-0 c.loop-entry-test.true c.entry-item.is c.loop-entry.invariant c.in_ok-read_found.ensures.ok
    ∙ ap Some (sym c.in_ok-push.ensures.items)

pub returns-in_err-read_found-clause-err : goal.returns-in_err-read_found-clause-err
returns-in_err-read_found-clause-err c =
    let p = err_from_is_err_and c.from_residual.result c.from_residual.ensures.1 in
    rw (p.1, p.2)
    (misreads_as (λ none. files_stop c.args.list.now c.loop-entry.entry-index c.entry-item.result c.loop-entry.files.items c.loop-entry-test.true c.entry-item.is c.loop-entry.invariant none) c.in_err-read_found.field-0.0 c.in_err-read_found.ensures.err)
