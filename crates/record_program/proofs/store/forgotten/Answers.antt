use Rattle.sqlite.specs.Held.{state}
use Rattle.record_program.specs.Forgetting.{shows, refuses, without_sum}
use Rattle.record_program.proofs.LeavesOthers.{record_of}
use Rattle.record_program.proofs.store.forgotten.Goals as goal

pub returns-in-Ok-clause-forgets : goal.returns-in-Ok-clause-forgets
returns-in-Ok-clause-forgets g c clean map fits it =
    let forgot = c.in-Ok.ensures.forgets (c.shown.ensures.clean clean) map fits it in
    let left = c.forget_rows.new.kept.conn in
    shows left c.shown.result forgot (c.shown.ensures.shows clean (record_of (state g.S.Store left) (without_sum c.args.sum.now map) forgot.1))

pub returns-in-Err-clause-forgets : goal.returns-in-Err-clause-forgets
returns-in-Err-clause-forgets g c clean map fits it = refuses c.in-Err.fault (c.in-Err.ensures.forgets clean map fits it)
