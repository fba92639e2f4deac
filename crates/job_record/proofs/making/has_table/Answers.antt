use Rattle.sqlite.specs.Held.{state}
use Rattle.job_record.proofs.Opens.{outlined, lacking_ok, lacking_err}
use Rattle.job_record.proofs.making.has_table.Goals as goal
use Rattle.job_record.proofs.making.has_table.Goals.{in-Ok, in-Err}

pub returns-clause-ok : goal.returns-clause-ok
returns-clause-ok g c clean = elim c.match-prepare.branch [
  | in-Ok w ↦ rw w.result-is (outlined _ _ (w.in-Ok.ensures.shape clean), (w.in-Ok.ensures.ok clean).1)
  | in-Err w ↦ rw (w.result-is, w.lacking.ensures) (lacking_ok (state g.S.Store c.args.conn.now) (state g.S.Store c.prepare.new.self) c.args.query.now w.in-Err.error (w.in-Err.ensures.err clean))
]

pub returns-clause-err : goal.returns-clause-err
returns-clause-err g c clean = elim c.match-prepare.branch [
  | in-Ok w ↦ rw w.result-is tt
  | in-Err w ↦ rw (w.result-is, w.lacking.ensures) (lacking_err (state g.S.Store c.args.conn.now) (state g.S.Store c.prepare.new.self) c.args.query.now w.in-Err.error (w.in-Err.ensures.err clean))
]
