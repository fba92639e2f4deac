use Rattle.std.proofs.Common.{sym, subst}
use Rattle.sqlite.specs.Held.{state}
use Rattle.job_rows.specs.Map.{Drops}
use Rattle.job_record.specs.Rows.{HoldsWithin}
use Rattle.job_record.proofs.KeptRows.{drops_rows}
use Rattle.job_record.proofs.Chain.{was_clean}
use Rattle.job_record.proofs.rows.JobRecordRecord.drop_archive.Goals as goal

pub returns-clause-sound : goal.returns-clause-sound
returns-clause-sound g c = was_clean _ _ _ c.drop_archive.ensures.crash

pub returns-clause-drops : goal.returns-clause-drops
returns-clause-drops g c clean map h =
    let old = c.args.self.now in
    let new = c.drop_archive.new.self in
    let key = c.as_str.result.now in
    let told = c.drop_archive.ensures in
    let dropped = drops_rows g.S.Store old.conn new.conn old.space new.space map h key c.drop_archive.result (told.open clean) (told.map clean) (told.safe clean) told.budget (told.counts clean) told.same in
    let answered = subst (Drops (HoldsWithin (state g.S.Store new.conn) new.space) map key) (sym c.answered.ensures) dropped in
    subst (λ asked. Drops (HoldsWithin (state g.S.Store new.conn) new.space) map asked c.answered.result) c.as_str.ensures.bytes answered
