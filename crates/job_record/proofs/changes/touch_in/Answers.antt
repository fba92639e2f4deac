use Rattle.std.proofs.Common.{rules, Ok, inl, inr, refl}
use Rattle.std.proofs.lemmas.Result.{err_from_is_err_and}
use Rattle.sqlite.specs.Held.{state}
use Rattle.job_record.specs.inner.Inside.{Always, Never, CanRenumber}
use Rattle.job_record.proofs.Chain.{walk_of, was_clean}
use Rattle.job_record.proofs.Walked.{TellsBytes, TellsUse, touch_lacks, touch_refused, touch_moves}
use Rattle.job_record.proofs.Traced.{blamed_then, traces_then}
use Rattle.job_record.specs.Blame.{touch_texts}
use Rattle.job_record.proofs.changes.touch_in.Goals as goal

pub returns-then-is_none-clause-step : goal.returns-then-is_none-clause-step
returns-then-is_none-clause-step g c =
    let key = c.args.key.now in
    let old = state g.S.Store c.args.change.now.conn.now in
    let mid = state g.S.Store c.bytes_at.new.change.conn.now in
    let one = walk_of (Unit {0}) old mid Always (TellsBytes key) Never (Ok c.in_ok-bytes_at.field-0) c.bytes_at.ensures.survives c.in_ok-bytes_at.ensures.step in
    touch_lacks key old mid mid mid c.in_ok-bytes_at.field-0 (rw c.if-is_none.true at c.is_none.ensures) one

pub returns-in_err-used-clause-step : goal.returns-in_err-used-clause-step
returns-in_err-used-clause-step g c =
    let key = c.args.key.now in
    let old = state g.S.Store c.args.change.now.conn.now in
    let mid = state g.S.Store c.bytes_at.new.change.conn.now in
    let later = state g.S.Store c.next_used.new.change.conn.now in
    let one = walk_of (Unit {0}) old mid Always (TellsBytes key) Never (Ok c.in_ok-bytes_at.field-0) c.bytes_at.ensures.survives c.in_ok-bytes_at.ensures.step in
    let p = err_from_is_err_and c.from_residual-in_err-used.result c.from_residual-in_err-used.ensures.1 in
    rw (p.1, p.2) (touch_refused key old mid later later c.in_ok-bytes_at.field-0 c.in_err-used.field-0.0 (rw c.if-is_none.false at c.is_none.ensures) one c.in_err-used.ensures.step)

pub returns-clause-step : goal.returns-clause-step
returns-clause-step g c =
    let key = c.args.key.now in
    let old = state g.S.Store c.args.change.now.conn.now in
    let mid = state g.S.Store c.bytes_at.new.change.conn.now in
    let later = state g.S.Store c.next_used.new.change.conn.now in
    let new = state g.S.Store c.renumber.new.change.conn.now in
    let one = walk_of (Unit {0}) old mid Always (TellsBytes key) Never (Ok c.in_ok-bytes_at.field-0) c.bytes_at.ensures.survives c.in_ok-bytes_at.ensures.step in
    let three = walk_of (Unit {0}) later new (CanRenumber key c.in_ok-used.used) (TellsUse key) Never c.renumber.result c.renumber.ensures.survives c.renumber.ensures.step in
    touch_moves key old mid later new c.in_ok-bytes_at.field-0 c.in_ok-used.used c.renumber.result (rw c.if-is_none.false at c.is_none.ensures) one c.in_ok-used.ensures.step three

pub returns-in_err-bytes_at-clause-cause : goal.returns-in_err-bytes_at-clause-cause
returns-in_err-bytes_at-clause-cause g c clean going =
    let p = err_from_is_err_and c.from_residual.result c.from_residual.ensures.1 in
    rw (p.1, p.2) (c.in_err-bytes_at.ensures.cause touch_texts (inl refl) clean going)

pub returns-in_err-used-clause-cause : goal.returns-in_err-used-clause-cause
returns-in_err-used-clause-cause g c clean going =
    let p = err_from_is_err_and c.from_residual-in_err-used.result c.from_residual-in_err-used.ensures.1 in
    rw (p.1, p.2) (blamed_then g.S.Store touch_texts (c.args.change.now.conn.now) (c.bytes_at.new.change.conn.now) c.in_err-used.field-0.0 (c.in_ok-bytes_at.ensures.cause touch_texts (inl refl) (was_clean _ _ _ c.next_used.ensures.step.0 clean) going)
    (λ on-1. c.in_err-used.ensures.cause touch_texts (inr (inl refl)) clean on-1))

pub returns-clause-cause : goal.returns-clause-cause
returns-clause-cause g c clean going =
    traces_then g.S.Store touch_texts (c.args.change.now.conn.now) (c.bytes_at.new.change.conn.now) (c.renumber.new.change.conn.now) c.renumber.result (c.in_ok-bytes_at.ensures.cause touch_texts (inl refl) (was_clean _ _ _ c.next_used.ensures.step.0 (was_clean _ _ _ c.renumber.ensures.survives clean)) going)
    (λ on-1. traces_then g.S.Store touch_texts (c.bytes_at.new.change.conn.now) (c.next_used.new.change.conn.now) (c.renumber.new.change.conn.now) c.renumber.result (c.in_ok-used.ensures.cause touch_texts (inr (inl refl)) (was_clean _ _ _ c.renumber.ensures.survives clean) on-1)
    (λ on-2. c.renumber.ensures.cause touch_texts (inr (inr (inl refl))) clean on-2))

pub returns-then-is_none-clause-cause : goal.returns-then-is_none-clause-cause
returns-then-is_none-clause-cause g c clean going = (0, c.args.change.now.conn.now, refl, c.in_ok-bytes_at.ensures.none touch_texts (inl refl) clean going (search rules))
