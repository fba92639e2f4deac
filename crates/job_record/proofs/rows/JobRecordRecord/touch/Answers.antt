use Rattle.std.proofs.Common.{sym, subst}
use Rattle.sqlite.specs.Held.{state}
use Rattle.job_rows.specs.Map.{Touches}
use Rattle.job_record.specs.Rows.{HoldsWithin}
use Rattle.job_record.proofs.KeptRows.{touches_rows}
use Rattle.job_record.proofs.Chain.{was_clean}
use Rattle.job_record.proofs.rows.JobRecordRecord.touch.Goals as goal

pub returns-clause-sound : goal.returns-clause-sound
returns-clause-sound g c = was_clean _ _ _ c.touch.ensures.crash

pub returns-clause-touches : goal.returns-clause-touches
returns-clause-touches g c clean map h =
    let old = c.args.self.now in
    let new = c.touch.new.self in
    let key = c.as_str.result.now in
    let told = c.touch.ensures in
    let touched = touches_rows g.S.Store old.conn new.conn old.space new.space map h key c.touch.result (told.open clean) (told.map clean) (told.safe clean) told.budget (told.counts clean) told.same in
    let answered = subst (Touches (HoldsWithin (state g.S.Store new.conn) new.space) map key) (sym c.answered.ensures) touched in
    subst (λ asked. Touches (HoldsWithin (state g.S.Store new.conn) new.space) map asked c.answered.result) c.as_str.ensures.bytes answered
