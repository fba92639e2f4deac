use Rattle.std.proofs.Common.{◌≡◌, sym, subst}
use Rattle.std.specs.Prelude.{IfOk, IfSome}
use Rattle.sqlite.specs.Held.{state}
use Rattle.job_rows.specs.Map.{Finds}
use Rattle.job_record.specs.Rows.{HoldsWithin}
use Rattle.job_record.proofs.KeptRows.{finds_rows, keyed_answered}
use Rattle.job_record.proofs.Chain.{was_clean}
use Rattle.job_record.proofs.rows.JobRecordRecord.find.Goals as goal

pub returns-clause-keyed : goal.returns-clause-keyed
returns-clause-keyed g c =
    let asked = c.as_str.result.now in
    let keyed = keyed_answered asked c.find.result c.find.ensures.keyed in
    let told = subst (λ result. IfOk result (λ found. IfSome found (λ row. row.key ≡ asked))) (sym c.answered.ensures) keyed in
    subst (λ key. IfOk c.answered.result (λ found. IfSome found (λ row. row.key ≡ key))) c.as_str.ensures.bytes told

pub returns-clause-sound : goal.returns-clause-sound
returns-clause-sound g c = was_clean _ _ _ c.find.ensures.survives

pub returns-clause-finds : goal.returns-clause-finds
returns-clause-finds g c clean map h =
    let old = c.args.self.now in
    let new = c.find.new.self in
    let key = c.as_str.result.now in
    let told = c.find.ensures in
    let found = finds_rows g.S.Store old.conn new.conn old.space new.space map h key c.find.result (told.finds clean) (told.open clean) (told.map clean) (told.safe clean) told.space in
    let answered = subst (λ result. Finds map key result × HoldsWithin (state g.S.Store new.conn) new.space map) (sym c.answered.ensures) found in
    subst (λ asked. Finds map asked c.answered.result × HoldsWithin (state g.S.Store new.conn) new.space map) c.as_str.ensures.bytes answered
