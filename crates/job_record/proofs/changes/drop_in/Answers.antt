use Rattle.std.proofs.Common.{rules, Ok, Err, refl, inl, inr}
use Rattle.std.proofs.lemmas.Result.{err_from_is_err_and}
use Rattle.sqlite.specs.Held.{state}
use Rattle.job_record.specs.Map.{unarchives}
use Rattle.job_record.specs.inner.Inside.{Always, Meets, Never, without_flag}
use Rattle.job_record.proofs.Chain.{walk_of, was_clean}
use Rattle.job_record.proofs.Walked.{TellsBytes, TellsRemoved, take_halts}
use Rattle.job_record.proofs.Traced.{blamed_then, goes_then}
use Rattle.job_record.specs.declared.fault.RecordFault.TheVariants.{NoRow}
use Rattle.job_record.specs.Blame.{drop_texts}
use Rattle.job_record.proofs.changes.drop_in.Goals as goal

pub returns-in_err-remove-clause-step : goal.returns-in_err-remove-clause-step
returns-in_err-remove-clause-step g c =
    let key = c.args.key.now in
    let old = state g.S.Store c.args.change.now.conn.now in
    let mid = state g.S.Store c.bytes_at.new.change.conn.now in
    let later = state g.S.Store c.drop_archive.new.change.conn.now in
    let new = state g.S.Store c.remove.new.change.conn.now in
    let one = walk_of (Unit {0}) old mid Always (TellsBytes key) Never (Ok c.in_ok-had.had) c.bytes_at.ensures.survives c.in_ok-had.ensures.step in
    let two = walk_of (Unit {0}) mid later Always (Meets key (without_flag key)) Never (Ok c.in_ok-drop_archive.field-0) c.drop_archive.ensures.survives c.in_ok-drop_archive.ensures.step in
    let three = walk_of (Unit {0}) later new Always (TellsRemoved key) Never (Err c.in_err-remove.field-0.0) c.remove.ensures.survives c.in_err-remove.ensures.step in
    let p = err_from_is_err_and c.from_residual-in_err-remove.result c.from_residual-in_err-remove.ensures.1 in
    rw (p.1, p.2) (take_halts key (without_flag key) (unarchives key) (λ map. refl) (λ map. refl) old mid later new c.in_ok-had.had c.in_ok-drop_archive.field-0 c.in_err-remove.field-0.0 one two three)

pub returns-in_err-had-clause-cause : goal.returns-in_err-had-clause-cause
returns-in_err-had-clause-cause g c clean going =
    let p = err_from_is_err_and c.from_residual.result c.from_residual.ensures.1 in
    rw (p.1, p.2) (c.in_err-had.ensures.cause drop_texts (inl refl) clean going)

pub returns-in_err-drop_archive-clause-cause : goal.returns-in_err-drop_archive-clause-cause
returns-in_err-drop_archive-clause-cause g c clean going =
    let p = err_from_is_err_and c.from_residual-in_err-drop_archive.result c.from_residual-in_err-drop_archive.ensures.1 in
    rw (p.1, p.2) (blamed_then g.S.Store drop_texts (c.args.change.now.conn.now) (c.bytes_at.new.change.conn.now) c.in_err-drop_archive.field-0.0 (c.in_ok-had.ensures.cause drop_texts (inl refl) (was_clean _ _ _ c.drop_archive.ensures.survives clean) going)
    (λ on-1. c.in_err-drop_archive.ensures.cause drop_texts (inr (inl refl)) clean on-1))

pub returns-in_err-remove-clause-cause : goal.returns-in_err-remove-clause-cause
returns-in_err-remove-clause-cause g c clean going =
    let p = err_from_is_err_and c.from_residual-in_err-remove.result c.from_residual-in_err-remove.ensures.1 in
    rw (p.1, p.2) (blamed_then g.S.Store drop_texts (c.args.change.now.conn.now) (c.bytes_at.new.change.conn.now) c.in_err-remove.field-0.0 (c.in_ok-had.ensures.cause drop_texts (inl refl) (was_clean _ _ _ c.drop_archive.ensures.survives (was_clean _ _ _ c.remove.ensures.survives clean)) going)
    (λ on-1. blamed_then g.S.Store drop_texts (c.bytes_at.new.change.conn.now) (c.drop_archive.new.change.conn.now) c.in_err-remove.field-0.0 (c.in_ok-drop_archive.ensures.cause drop_texts (inr (inl refl)) (was_clean _ _ _ c.remove.ensures.survives clean) on-1)
    (λ on-2. c.in_err-remove.ensures.cause drop_texts (inr (inr (inl refl))) clean on-2)))

pub returns-clause-cause : goal.returns-clause-cause
returns-clause-cause g c clean going =
    goes_then g.S.Store drop_texts (c.args.change.now.conn.now) (c.bytes_at.new.change.conn.now) (c.remove.new.change.conn.now) (c.in_ok-had.ensures.cause drop_texts (inl refl) (was_clean _ _ _ c.drop_archive.ensures.survives (was_clean _ _ _ c.remove.ensures.survives clean)) going)
    (λ on-1. goes_then g.S.Store drop_texts (c.bytes_at.new.change.conn.now) (c.drop_archive.new.change.conn.now) (c.remove.new.change.conn.now) (c.in_ok-drop_archive.ensures.cause drop_texts (inr (inl refl)) (was_clean _ _ _ c.remove.ensures.survives clean) on-1)
    (λ on-2. c.in_ok-remove.ensures.cause drop_texts (inr (inr (inl refl))) clean on-2))

pub returns-then-not-branch-clause-cause : goal.returns-then-not-branch-clause-cause
returns-then-not-branch-clause-cause g c clean going =
    let met = c.in_ok-drop_archive.ensures.none drop_texts (inr (inl refl)) clean in
    blamed_then g.S.Store drop_texts c.args.change.now.conn.now c.bytes_at.new.change.conn.now NoRow (c.in_ok-had.ensures.cause drop_texts (inl refl) (was_clean _ _ _ c.drop_archive.ensures.survives clean) going)
    (λ on. (0, c.bytes_at.new.change.conn.now, refl, met on (search rules)))
