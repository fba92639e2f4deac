use Rattle.std.proofs.Common.{List, ℕ, Ok, sym, subst}
use Rattle.sqlite.specs.Held.{state}
use Rattle.job_record.specs.declared.changes.Space.{Space}
use Rattle.job_record.specs.Counted.{FitsSpace}
use Rattle.record_program.specs.inner.Steps.{HoldsKeys}
use Rattle.record_program.proofs.LeavesOthers.{forgets_rows}
use Rattle.record_program.proofs.store.forget_rows.Goals as goal

pub returns-in-Ok-clause-forgets : goal.returns-in-Ok-clause-forgets
returns-in-Ok-clause-forgets g c clean map fits it =
    let mid = state g.S.Store c.keys_held.new.kept.conn in
    let new = state g.S.Store c.forget_all.new.kept.conn in
    let sum = c.args.sum.now in
    let keys = c.as_slice.result.now in
    let holds = subst (λ (ks : List (List ℕ)). HoldsKeys sum map mid (Ok ks)) (sym c.as_slice.ensures) (c.in-Ok.ensures.holds (c.forget_all.ensures.clean clean) map it) in
    let fits_still = subst (λ (s : Space). FitsSpace s map) (sym c.keys_held.ensures.space) fits in
    forgets_rows sum map mid new keys c.forget_all.result holds (c.forget_all.ensures.forgets clean map fits_still holds.1 sum holds.2)
