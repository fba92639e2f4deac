use Rattle.std.proofs.lemmas.Result.{IfErr-weaker}
use Rattle.sqlite.specs.Held.{state}
use Rattle.job_record.specs.Archives.{all_bytes_text}
use Rattle.job_record.proofs.QueriedInside.{fails_inside}
use Rattle.job_record.proofs.inside.all_bytes.Goals as goal

pub returns-clause-err : goal.returns-clause-err
returns-clause-err g c clean going =
    IfErr-weaker c.query_all.result _ _ (λ e failed. fails_inside all_bytes_text _ (state g.S.Store c.args.change.now.conn.now) (state g.S.Store c.query_all.new.self.conn.now) e going failed) (c.query_all.ensures.err clean)
