use Rattle.sqlite.specs.Held.{state}
use Rattle.job_record.proofs.FoundAgain.{found_again}
use Rattle.job_record.proofs.laws.see_record.Goals as goal

pub returns : goal.returns
returns g c = found_again (state g.S.Store c.args._conn.now)
