use Rattle.std.proofs.Common.{refl, arith}
use Rattle.std.proofs.lemmas.Result.{err_from_is_err_and}
use Rattle.job_record.proofs.changes.next_used.Goals as goal

pub returns-in_err-greatest-clause-cause : goal.returns-in_err-greatest-clause-cause
returns-in_err-greatest-clause-cause g c texts has clean going =
    let p = err_from_is_err_and c.from_residual.result c.from_residual.ensures.1 in
    rw (p.1, p.2) (c.in_err-greatest.ensures.cause texts has clean going)

pub returns-then-greatest-ge-GREATEST_NUMBER-clause-cause : goal.returns-then-greatest-ge-GREATEST_NUMBER-clause-cause
returns-then-greatest-ge-GREATEST_NUMBER-clause-cause g c texts has clean going = (0, c.args.change.now.conn.now, refl, c.in_ok-greatest.ensures.spent texts has clean going (omega (arith, c.if-greatest-ge-GREATEST_NUMBER.true)))
