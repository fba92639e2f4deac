use Rattle.std.proofs.Common.{◌≡◌, ◌++◌, ◌∷◌, [], Ok, Err, subst, inl, inr, refl}
use Rattle.std.proofs.lemmas.Result.{err_from_is_err_and}
use Rattle.sqlite.specs.Held.{state}
use Rattle.job_record.specs.inner.Inside.{Always, Never, Walks, CanAdd, with_row, with_archives}
use Rattle.job_record.proofs.Chain.{walk_of, was_clean}
use Rattle.job_record.proofs.Walked.{TellsBytes, TellsRemoved, set_gone_fails, set_add_fails, set_added}
use Rattle.job_record.proofs.Traced.{blamed_then, goes_then}
use Rattle.job_record.specs.Blame.{put_texts}
use Rattle.job_record.proofs.changes.set_own.Goals as goal

pub returns-in_err-remove-clause-step : goal.returns-in_err-remove-clause-step
returns-in_err-remove-clause-step g c =
    let row = c.args.row.now in
    let had = c.in_ok-had.had in
    let used = c.in_ok-used.used in
    let old = state g.S.Store c.args.change.now.conn.now in
    let s1 = state g.S.Store c.bytes_at.new.change.conn.now in
    let s2 = state g.S.Store c.next_for.new.change.conn.now in
    let s3 = state g.S.Store c.put.new.change.conn.now in
    let s4 = state g.S.Store c.remove.new.change.conn.now in
    let fault = c.in_err-remove.field-0.0 in
    let bytes = c.as_str-key.ensures.bytes in
    let one = subst (λ k. Walks (Unit {0}) old s1 Always (TellsBytes k) Never (Ok had)) bytes (walk_of (Unit {0}) old s1 Always (TellsBytes c.as_str-key.result.now) Never (Ok had) c.bytes_at.ensures.survives c.in_ok-had.ensures.step) in
    let put = walk_of (Unit {0}) s2 s3 Always (λ map done next. next ≡ with_row row.stored map) Never (Ok (tt {0})) c.put.ensures.survives c.in_ok-put.ensures.step in
    let gone = subst (λ k. Walks (Unit {0}) s3 s4 Always (TellsRemoved k) Never (Err fault)) bytes (walk_of (Unit {0}) s3 s4 Always (TellsRemoved c.as_str-key.result.now) Never (Err fault) c.remove.ensures.survives c.in_err-remove.ensures.step) in
    let p = err_from_is_err_and c.from_residual-in_err-remove.result c.from_residual-in_err-remove.ensures.1 in
    rw (p.1, p.2) (set_gone_fails row old s1 s2 s3 s4 s4 had used (tt {0}) fault one c.in_ok-used.ensures.step put gone)

pub returns-in_err-add-clause-step : goal.returns-in_err-add-clause-step
returns-in_err-add-clause-step g c =
    let row = c.args.row.now in
    let had = c.in_ok-had.had in
    let used = c.in_ok-used.used in
    let old = state g.S.Store c.args.change.now.conn.now in
    let s1 = state g.S.Store c.bytes_at.new.change.conn.now in
    let s2 = state g.S.Store c.next_for.new.change.conn.now in
    let s3 = state g.S.Store c.put.new.change.conn.now in
    let s4 = state g.S.Store c.remove.new.change.conn.now in
    let new = state g.S.Store c.add.new.change.conn.now in
    let fault = c.in_err-add.field-0.0 in
    let bytes = c.as_str-key.ensures.bytes in
    let one = subst (λ k. Walks (Unit {0}) old s1 Always (TellsBytes k) Never (Ok had)) bytes (walk_of (Unit {0}) old s1 Always (TellsBytes c.as_str-key.result.now) Never (Ok had) c.bytes_at.ensures.survives c.in_ok-had.ensures.step) in
    let put = walk_of (Unit {0}) s2 s3 Always (λ map done next. next ≡ with_row row.stored map) Never (Ok (tt {0})) c.put.ensures.survives c.in_ok-put.ensures.step in
    let gone = subst (λ k. Walks (Unit {0}) s3 s4 Always (TellsRemoved k) Never (Ok (tt {0}))) bytes (walk_of (Unit {0}) s3 s4 Always (TellsRemoved c.as_str-key.result.now) Never (Ok (tt {0})) c.remove.ensures.survives c.in_ok-remove.ensures.step) in
    let added = subst (λ k. Walks {T = Unit {0}} (Unit {0}) s4 new (CanAdd k row.bytes used) (λ map done next. next ≡ with_archives (map.archives ++ record { key = k; bytes = row.bytes; used = used } ∷ []) map) Never (Err fault)) bytes
    (walk_of {T = Unit {0}} (Unit {0}) s4 new (CanAdd c.as_str-key.result.now row.bytes used) (λ map done next. next ≡ with_archives (map.archives ++ record { key = c.as_str-key.result.now; bytes = row.bytes; used = used } ∷ []) map) Never (Err fault) c.add.ensures.survives c.in_err-add.ensures.step) in
    let p = err_from_is_err_and c.from_residual-in_err-add.result c.from_residual-in_err-add.ensures.1 in
    rw (p.1, p.2) (set_add_fails row old s1 s2 s3 s4 new had used (tt {0}) (tt {0}) fault c.if-row.true one c.in_ok-used.ensures.step put gone added)

pub returns-in_ok-add-clause-step : goal.returns-in_ok-add-clause-step
returns-in_ok-add-clause-step g c =
    let row = c.args.row.now in
    let had = c.in_ok-had.had in
    let used = c.in_ok-used.used in
    let old = state g.S.Store c.args.change.now.conn.now in
    let s1 = state g.S.Store c.bytes_at.new.change.conn.now in
    let s2 = state g.S.Store c.next_for.new.change.conn.now in
    let s3 = state g.S.Store c.put.new.change.conn.now in
    let s4 = state g.S.Store c.remove.new.change.conn.now in
    let new = state g.S.Store c.add.new.change.conn.now in
    let bytes = c.as_str-key.ensures.bytes in
    let one = subst (λ k. Walks (Unit {0}) old s1 Always (TellsBytes k) Never (Ok had)) bytes (walk_of (Unit {0}) old s1 Always (TellsBytes c.as_str-key.result.now) Never (Ok had) c.bytes_at.ensures.survives c.in_ok-had.ensures.step) in
    let put = walk_of (Unit {0}) s2 s3 Always (λ map done next. next ≡ with_row row.stored map) Never (Ok (tt {0})) c.put.ensures.survives c.in_ok-put.ensures.step in
    let gone = subst (λ k. Walks (Unit {0}) s3 s4 Always (TellsRemoved k) Never (Ok (tt {0}))) bytes (walk_of (Unit {0}) s3 s4 Always (TellsRemoved c.as_str-key.result.now) Never (Ok (tt {0})) c.remove.ensures.survives c.in_ok-remove.ensures.step) in
    let added = subst (λ k. Walks (Unit {0}) s4 new (CanAdd k row.bytes used) (λ map done next. next ≡ with_archives (map.archives ++ record { key = k; bytes = row.bytes; used = used } ∷ []) map) Never (Ok (tt {0}))) bytes
    (walk_of (Unit {0}) s4 new (CanAdd c.as_str-key.result.now row.bytes used) (λ map done next. next ≡ with_archives (map.archives ++ record { key = c.as_str-key.result.now; bytes = row.bytes; used = used } ∷ []) map) Never (Ok (tt {0})) c.add.ensures.survives c.in_ok-add.ensures.step) in
    set_added row old s1 s2 s3 s4 new had used (tt {0}) (tt {0}) (tt {0}) c.if-row.true one c.in_ok-used.ensures.step put gone added

pub returns-in_err-had-clause-cause : goal.returns-in_err-had-clause-cause
returns-in_err-had-clause-cause g c clean going =
    let p = err_from_is_err_and c.from_residual.result c.from_residual.ensures.1 in
    rw (p.1, p.2) (c.in_err-had.ensures.cause put_texts (inl refl) clean going)

pub returns-in_err-used-clause-cause : goal.returns-in_err-used-clause-cause
returns-in_err-used-clause-cause g c clean going =
    let p = err_from_is_err_and c.from_residual-in_err-used.result c.from_residual-in_err-used.ensures.1 in
    rw (p.1, p.2) (blamed_then g.S.Store put_texts (c.args.change.now.conn.now) (c.bytes_at.new.change.conn.now) c.in_err-used.field-0.0 (c.in_ok-had.ensures.cause put_texts (inl refl) (was_clean _ _ _ c.next_for.ensures.step.0 clean) going)
    (λ on-1. c.in_err-used.ensures.cause clean on-1))

pub returns-in_err-put-clause-cause : goal.returns-in_err-put-clause-cause
returns-in_err-put-clause-cause g c clean going =
    let p = err_from_is_err_and c.from_residual-in_err-put.result c.from_residual-in_err-put.ensures.1 in
    rw (p.1, p.2) (blamed_then g.S.Store put_texts (c.args.change.now.conn.now) (c.bytes_at.new.change.conn.now) c.in_err-put.field-0.0 (c.in_ok-had.ensures.cause put_texts (inl refl) (was_clean _ _ _ c.next_for.ensures.step.0 (was_clean _ _ _ c.put.ensures.survives clean)) going)
    (λ on-1. blamed_then g.S.Store put_texts (c.bytes_at.new.change.conn.now) (c.next_for.new.change.conn.now) c.in_err-put.field-0.0 (c.in_ok-used.ensures.cause (was_clean _ _ _ c.put.ensures.survives clean) on-1)
    (λ on-2. c.in_err-put.ensures.cause put_texts (inr (inr (inl refl))) clean on-2)))

pub returns-in_err-remove-clause-cause : goal.returns-in_err-remove-clause-cause
returns-in_err-remove-clause-cause g c clean going =
    let p = err_from_is_err_and c.from_residual-in_err-remove.result c.from_residual-in_err-remove.ensures.1 in
    rw (p.1, p.2) (blamed_then g.S.Store put_texts (c.args.change.now.conn.now) (c.bytes_at.new.change.conn.now) c.in_err-remove.field-0.0 (c.in_ok-had.ensures.cause put_texts (inl refl) (was_clean _ _ _ c.next_for.ensures.step.0 (was_clean _ _ _ c.put.ensures.survives (was_clean _ _ _ c.remove.ensures.survives clean))) going)
    (λ on-1. blamed_then g.S.Store put_texts (c.bytes_at.new.change.conn.now) (c.next_for.new.change.conn.now) c.in_err-remove.field-0.0 (c.in_ok-used.ensures.cause (was_clean _ _ _ c.put.ensures.survives (was_clean _ _ _ c.remove.ensures.survives clean)) on-1)
    (λ on-2. blamed_then g.S.Store put_texts (c.next_for.new.change.conn.now) (c.put.new.change.conn.now) c.in_err-remove.field-0.0 (c.in_ok-put.ensures.cause put_texts (inr (inr (inl refl))) (was_clean _ _ _ c.remove.ensures.survives clean) on-2)
    (λ on-3. c.in_err-remove.ensures.cause put_texts (inr (inr (inr (inl refl)))) clean on-3))))

pub returns-in_err-add-clause-cause : goal.returns-in_err-add-clause-cause
returns-in_err-add-clause-cause g c clean going =
    let p = err_from_is_err_and c.from_residual-in_err-add.result c.from_residual-in_err-add.ensures.1 in
    rw (p.1, p.2) (blamed_then g.S.Store put_texts (c.args.change.now.conn.now) (c.bytes_at.new.change.conn.now) c.in_err-add.field-0.0 (c.in_ok-had.ensures.cause put_texts (inl refl) (was_clean _ _ _ c.next_for.ensures.step.0 (was_clean _ _ _ c.put.ensures.survives (was_clean _ _ _ c.remove.ensures.survives (was_clean _ _ _ c.add.ensures.survives clean)))) going)
    (λ on-1. blamed_then g.S.Store put_texts (c.bytes_at.new.change.conn.now) (c.next_for.new.change.conn.now) c.in_err-add.field-0.0 (c.in_ok-used.ensures.cause (was_clean _ _ _ c.put.ensures.survives (was_clean _ _ _ c.remove.ensures.survives (was_clean _ _ _ c.add.ensures.survives clean))) on-1)
    (λ on-2. blamed_then g.S.Store put_texts (c.next_for.new.change.conn.now) (c.put.new.change.conn.now) c.in_err-add.field-0.0 (c.in_ok-put.ensures.cause put_texts (inr (inr (inl refl))) (was_clean _ _ _ c.remove.ensures.survives (was_clean _ _ _ c.add.ensures.survives clean)) on-2)
    (λ on-3. blamed_then g.S.Store put_texts (c.put.new.change.conn.now) (c.remove.new.change.conn.now) c.in_err-add.field-0.0 (c.in_ok-remove.ensures.cause put_texts (inr (inr (inr (inl refl)))) (was_clean _ _ _ c.add.ensures.survives clean) on-3)
    (λ on-4. c.in_err-add.ensures.cause put_texts (inr (inr (inr (inr (inl refl))))) clean on-4)))))

pub returns-in_ok-add-clause-cause : goal.returns-in_ok-add-clause-cause
returns-in_ok-add-clause-cause g c clean going =
    goes_then g.S.Store put_texts (c.args.change.now.conn.now) (c.bytes_at.new.change.conn.now) (c.add.new.change.conn.now) (c.in_ok-had.ensures.cause put_texts (inl refl) (was_clean _ _ _ c.next_for.ensures.step.0 (was_clean _ _ _ c.put.ensures.survives (was_clean _ _ _ c.remove.ensures.survives (was_clean _ _ _ c.add.ensures.survives clean)))) going)
    (λ on-1. goes_then g.S.Store put_texts (c.bytes_at.new.change.conn.now) (c.next_for.new.change.conn.now) (c.add.new.change.conn.now) (c.in_ok-used.ensures.cause (was_clean _ _ _ c.put.ensures.survives (was_clean _ _ _ c.remove.ensures.survives (was_clean _ _ _ c.add.ensures.survives clean))) on-1)
    (λ on-2. goes_then g.S.Store put_texts (c.next_for.new.change.conn.now) (c.put.new.change.conn.now) (c.add.new.change.conn.now) (c.in_ok-put.ensures.cause put_texts (inr (inr (inl refl))) (was_clean _ _ _ c.remove.ensures.survives (was_clean _ _ _ c.add.ensures.survives clean)) on-2)
    (λ on-3. goes_then g.S.Store put_texts (c.put.new.change.conn.now) (c.remove.new.change.conn.now) (c.add.new.change.conn.now) (c.in_ok-remove.ensures.cause put_texts (inr (inr (inr (inl refl)))) (was_clean _ _ _ c.add.ensures.survives clean) on-3)
    (λ on-4. c.in_ok-add.ensures.cause put_texts (inr (inr (inr (inr (inl refl))))) clean on-4))))

pub returns-else-row-clause-cause : goal.returns-else-row-clause-cause
returns-else-row-clause-cause g c clean going =
    goes_then g.S.Store put_texts (c.args.change.now.conn.now) (c.bytes_at.new.change.conn.now) (c.remove.new.change.conn.now) (c.in_ok-had.ensures.cause put_texts (inl refl) (was_clean _ _ _ c.next_for.ensures.step.0 (was_clean _ _ _ c.put.ensures.survives (was_clean _ _ _ c.remove.ensures.survives clean))) going)
    (λ on-1. goes_then g.S.Store put_texts (c.bytes_at.new.change.conn.now) (c.next_for.new.change.conn.now) (c.remove.new.change.conn.now) (c.in_ok-used.ensures.cause (was_clean _ _ _ c.put.ensures.survives (was_clean _ _ _ c.remove.ensures.survives clean)) on-1)
    (λ on-2. goes_then g.S.Store put_texts (c.next_for.new.change.conn.now) (c.put.new.change.conn.now) (c.remove.new.change.conn.now) (c.in_ok-put.ensures.cause put_texts (inr (inr (inl refl))) (was_clean _ _ _ c.remove.ensures.survives clean) on-2)
    (λ on-3. c.in_ok-remove.ensures.cause put_texts (inr (inr (inr (inl refl)))) clean on-3)))
