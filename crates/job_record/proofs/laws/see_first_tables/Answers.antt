use Rattle.sqlite.specs.Held.{state}
use Rattle.job_record.proofs.FirstTables.{stands_first}
use Rattle.job_record.proofs.laws.see_first_tables.Goals as goal

pub returns : goal.returns
returns g c = stands_first (state g.S.Store c.args._conn.now).now.schema
