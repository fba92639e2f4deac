use Rattle.std.proofs.Common.{rules, Ok, Err, subst, inl, inr, refl}
use Rattle.std.proofs.lemmas.Result.{err_from_is_err_and}
use Rattle.sqlite.specs.Held.{state}
use Rattle.job_record.specs.inner.Inside.{Always, Meets, Never, Walks, without_flag}
use Rattle.job_record.proofs.Chain.{walk_of, was_clean}
use Rattle.job_record.proofs.Walked.{TellsFirst, TellsRemoved, oldest_stops, oldest_done}
use Rattle.job_record.proofs.Traced.{blamed_then, goes_then}
use Rattle.job_record.specs.Blame.{put_texts}
use Rattle.job_record.proofs.changes.lose_oldest.Goals as goal

pub returns-in_err-remove-clause-step : goal.returns-in_err-remove-clause-step
returns-in_err-remove-clause-step g c =
    let key = c.in-Some.key in
    let bytes = c.in-Some.bytes in
    let old = state g.S.Store c.args.change.now.conn.now in
    let mid = state g.S.Store c.oldest.new.change.conn.now in
    let later = state g.S.Store c.drop_archive.new.change.conn.now in
    let new = state g.S.Store c.remove.new.change.conn.now in
    let met = c.in_ok-drop_archive.field-0 in
    let fault = c.in_err-remove.field-0.0 in
    let one = subst (λ o. Walks (Unit {0}) old mid Always TellsFirst Never (Ok o)) c.in-Some.is (walk_of (Unit {0}) old mid Always TellsFirst Never (Ok c.in_ok-key.field-0) c.oldest.ensures.survives c.in_ok-key.ensures.step) in
    let two = subst (λ k. Walks (Unit {0}) mid later Always (Meets k (without_flag k)) Never (Ok met)) c.as_str.ensures.bytes (walk_of (Unit {0}) mid later Always (Meets c.as_str.result.now (without_flag c.as_str.result.now)) Never (Ok met) c.drop_archive.ensures.survives c.in_ok-drop_archive.ensures.step) in
    let three = subst (λ k. Walks (Unit {0}) later new Always (TellsRemoved k) Never (Err fault)) c.as_str-2.ensures.bytes (walk_of (Unit {0}) later new Always (TellsRemoved c.as_str-2.result.now) Never (Err fault) c.remove.ensures.survives c.in_err-remove.ensures.step) in
    let p = err_from_is_err_and c.from_residual-in_err-remove.result c.from_residual-in_err-remove.ensures.1 in
    rw (p.1, p.2) (oldest_stops key bytes met old mid later new fault one two three)

pub returns-clause-step : goal.returns-clause-step
returns-clause-step g c =
    let key = c.in-Some.key in
    let bytes = c.in-Some.bytes in
    let old = state g.S.Store c.args.change.now.conn.now in
    let mid = state g.S.Store c.oldest.new.change.conn.now in
    let later = state g.S.Store c.drop_archive.new.change.conn.now in
    let new = state g.S.Store c.remove.new.change.conn.now in
    let met = c.in_ok-drop_archive.field-0 in
    let one = subst (λ o. Walks (Unit {0}) old mid Always TellsFirst Never (Ok o)) c.in-Some.is (walk_of (Unit {0}) old mid Always TellsFirst Never (Ok c.in_ok-key.field-0) c.oldest.ensures.survives c.in_ok-key.ensures.step) in
    let two = subst (λ k. Walks (Unit {0}) mid later Always (Meets k (without_flag k)) Never (Ok met)) c.as_str.ensures.bytes (walk_of (Unit {0}) mid later Always (Meets c.as_str.result.now (without_flag c.as_str.result.now)) Never (Ok met) c.drop_archive.ensures.survives c.in_ok-drop_archive.ensures.step) in
    let three = subst (λ k. Walks (Unit {0}) later new Always (TellsRemoved k) Never (Ok (tt {0}))) c.as_str-2.ensures.bytes (walk_of (Unit {0}) later new Always (TellsRemoved c.as_str-2.result.now) Never (Ok (tt {0})) c.remove.ensures.survives c.in_ok-remove.ensures.step) in
    oldest_done key bytes met old mid later new (tt {0}) one two three

pub returns-in_err-key-clause-cause : goal.returns-in_err-key-clause-cause
returns-in_err-key-clause-cause g c clean going =
    let p = err_from_is_err_and c.from_residual.result c.from_residual.ensures.1 in
    rw (p.1, p.2) (c.in_err-key.ensures.cause put_texts (inr (inr (inr (inr (inr (inr (inl refl))))))) clean going)

pub returns-in_err-drop_archive-clause-cause : goal.returns-in_err-drop_archive-clause-cause
returns-in_err-drop_archive-clause-cause g c clean going =
    let p = err_from_is_err_and c.from_residual-in_err-drop_archive.result c.from_residual-in_err-drop_archive.ensures.1 in
    rw (p.1, p.2) (blamed_then g.S.Store put_texts (c.args.change.now.conn.now) (c.oldest.new.change.conn.now) c.in_err-drop_archive.field-0.0 (c.in_ok-key.ensures.cause put_texts (inr (inr (inr (inr (inr (inr (inl refl))))))) (was_clean _ _ _ c.drop_archive.ensures.survives clean) going)
    (λ on-1. c.in_err-drop_archive.ensures.cause put_texts (inr (inr (inr (inr (inr (inr (inr (inl refl)))))))) clean on-1))

pub returns-in_err-remove-clause-cause : goal.returns-in_err-remove-clause-cause
returns-in_err-remove-clause-cause g c clean going =
    let p = err_from_is_err_and c.from_residual-in_err-remove.result c.from_residual-in_err-remove.ensures.1 in
    rw (p.1, p.2) (blamed_then g.S.Store put_texts (c.args.change.now.conn.now) (c.oldest.new.change.conn.now) c.in_err-remove.field-0.0 (c.in_ok-key.ensures.cause put_texts (inr (inr (inr (inr (inr (inr (inl refl))))))) (was_clean _ _ _ c.drop_archive.ensures.survives (was_clean _ _ _ c.remove.ensures.survives clean)) going)
    (λ on-1. blamed_then g.S.Store put_texts (c.oldest.new.change.conn.now) (c.drop_archive.new.change.conn.now) c.in_err-remove.field-0.0 (c.in_ok-drop_archive.ensures.cause put_texts (inr (inr (inr (inr (inr (inr (inr (inl refl)))))))) (was_clean _ _ _ c.remove.ensures.survives clean) on-1)
    (λ on-2. c.in_err-remove.ensures.cause put_texts (inr (inr (inr (inl refl)))) clean on-2)))

pub returns-clause-cause : goal.returns-clause-cause
returns-clause-cause g c clean going =
    goes_then g.S.Store put_texts (c.args.change.now.conn.now) (c.oldest.new.change.conn.now) (c.remove.new.change.conn.now) (c.in_ok-key.ensures.cause put_texts (inr (inr (inr (inr (inr (inr (inl refl))))))) (was_clean _ _ _ c.drop_archive.ensures.survives (was_clean _ _ _ c.remove.ensures.survives clean)) going)
    (λ on-1. goes_then g.S.Store put_texts (c.oldest.new.change.conn.now) (c.drop_archive.new.change.conn.now) (c.remove.new.change.conn.now) (c.in_ok-drop_archive.ensures.cause put_texts (inr (inr (inr (inr (inr (inr (inr (inl refl)))))))) (was_clean _ _ _ c.remove.ensures.survives clean) on-1)
    (λ on-2. c.in_ok-remove.ensures.cause put_texts (inr (inr (inr (inl refl)))) clean on-2))

pub returns-in_default-clause-cause : goal.returns-in_default-clause-cause
returns-in_default-clause-cause g c clean going = (0, c.args.change.now.conn.now, refl, c.in_ok-key.ensures.none put_texts (inr (inr (inr (inr (inr (inr (inl refl))))))) clean going (search rules))
