use Rattle.std.proofs.Common.{◌+◌, sym, subst, take}
use Rattle.std.proofs.lemmas.Result.{err_from_is_err_and}
use Rattle.job_record.specs.Archives.{AreArchivesIn}
use Rattle.job_record.proofs.ArchivesHeld.{archives_taken}
use Rattle.job_record.proofs.RowsRead.{misreads_as}
use Rattle.job_record.proofs.commands.read_archives.Goals as goal

pub loop-columns-preserved : goal.loop-columns-preserved
loop-columns-preserved c =
    let l = c.loop-columns in
    subst (AreArchivesIn (take (l.columns-index + 1) c.args.all.now)) (sym c.in_ok-push.ensures.items)
    (archives_taken c.args.all.now l.columns-index l.archives.items c.columns-item.result c.in_ok-archive_in.field-0 c.loop-columns-test.true c.columns-item.is l.invariant c.in_ok-archive_in.ensures.ok)

pub returns-in_err-archive_in-clause-err : goal.returns-in_err-archive_in-clause-err
returns-in_err-archive_in-clause-err c =
    let p = err_from_is_err_and c.from_residual.result c.from_residual.ensures.1 in
    rw (p.1, p.2)
    (misreads_as (λ none. (c.loop-columns.columns-index, c.columns-item.result, c.loop-columns-test.true, sym c.columns-item.is, none)) c.in_err-archive_in.field-0.0 c.in_err-archive_in.ensures.err)
