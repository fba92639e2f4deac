use Rattle.std.proofs.Common.{sym, subst}
use Rattle.sqlite.specs.Held.{state}
use Rattle.job_rows.specs.Map.{Puts}
use Rattle.job_record.specs.Rows.{HoldsWithin}
use Rattle.job_record.proofs.KeptRows.{puts_rows}
use Rattle.job_record.proofs.Chain.{was_clean}
use Rattle.job_record.proofs.rows.JobRecordRecord.put.Goals as goal

pub returns-clause-sound : goal.returns-clause-sound
returns-clause-sound g c = was_clean _ _ _ c.put.ensures.crash

pub returns-clause-puts : goal.returns-clause-puts
returns-clause-puts g c clean map h =
    let old = c.args.self.now in
    let new = c.put.new.self in
    let row = c.args.row.now in
    let told = c.put.ensures in
    subst (Puts (HoldsWithin (state g.S.Store new.conn) new.space) map row) (sym c.answered.ensures)
    (puts_rows g.S.Store old.conn new.conn old.space new.space map h row c.put.result (told.open clean) (told.map clean) (told.safe clean) told.reads_back told.budget (told.counts clean) told.same)
