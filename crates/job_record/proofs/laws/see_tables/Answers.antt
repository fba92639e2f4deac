use Rattle.sqlite.specs.Held.{state}
use Rattle.job_record.proofs.TablesMade.{stands_made}
use Rattle.job_record.proofs.laws.see_tables.Goals as goal

pub returns : goal.returns
returns g c = stands_made (state g.S.Store c.args._conn.now).now.schema
