use Rattle.sqlite.specs.Held.{state}
use Rattle.job_record.proofs.CommandsThere.{compiles}
use Rattle.job_record.proofs.laws.see_statements.Goals as goal

pub returns : goal.returns
returns g c = compiles (state g.S.Store c.args._conn.now).now.schema
