use Rattle.sqlite.specs.Held.{state}
use Rattle.job_record.proofs.SomeRows.{has_rows}
use Rattle.job_record.proofs.laws.see_rows.Goals as goal

pub returns : goal.returns
returns g c = has_rows (state g.S.Store c.args._conn.now)
