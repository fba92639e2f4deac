use Rattle.std.proofs.Common.{◌≡◌, ◌++◌, ◌∷◌, [], if◌then◌else◌, sym, ap, ◌∙◌, append-nil}
use Rattle.std.proofs.lemmas.Result.{err_from_is_err_and}
use Rattle.sqlite.specs.Held.{state}
use Rattle.job_record.specs.inner.Inside.{own_key}
use Rattle.job_record.proofs.WalkedPut.{put_lose_fails, put_done}
use Rattle.job_record.proofs.Traced.{blamed_then, goes_then}
use Rattle.job_record.proofs.Chain.{was_clean}
use Rattle.job_record.specs.Blame.{put_texts}
use Rattle.job_record.proofs.changes.put_in.Goals as goal
use Rattle.job_record.proofs.changes.put_in.Goals.{then-loses_own+in_ok-copied+in_ok-push, else-loses_own}

pub returns-in_err-lost-clause-step : goal.returns-in_err-lost-clause-step
returns-in_err-lost-clause-step g c =
    let old = state g.S.Store c.args.change.now.conn.now in
    let mid = state g.S.Store c.set_own.new.change.conn.now in
    let new = state g.S.Store c.lose_for.new.change.conn.now in
    let p = err_from_is_err_and c.from_residual-in_err-lost.result c.from_residual-in_err-lost.ensures.1 in
    rw (p.1, p.2) (put_lose_fails c.args.space.budget c.args.space.counted c.args.row.now old mid new c.in_ok-had.had c.in_err-lost.field-0.0 c.in_ok-had.ensures.step c.in_err-lost.ensures.step)

pub returns-clause-step : goal.returns-clause-step
returns-clause-step g c =
    let row = c.args.row.now in
    let had = c.in_ok-had.had in
    let lost = c.in_ok-lost.lost in
    let keys : c.if-loses_own.lost ≡ lost ++ own_key row had = elim c.if-loses_own.branch [
      | then-loses_own+in_ok-copied+in_ok-push w ↦ (w.lost-is ∙ w.in_ok-push.ensures.ok) ∙ ap (λ k. lost ++ k ∷ []) w.in_ok-copied.ensures ∙ ap (λ b. lost ++ (if b then row.stored.key ∷ [] else [])) (sym w.if-loses_own.true ∙ c.loses_own.ensures)
      | else-loses_own w ↦ w.lost-is ∙ sym (append-nil lost) ∙ ap (λ b. lost ++ (if b then row.stored.key ∷ [] else [])) (sym w.if-loses_own.false ∙ c.loses_own.ensures)
    ] in
    put_done c.args.space.budget c.args.space.counted row (state g.S.Store c.args.change.now.conn.now) (state g.S.Store c.set_own.new.change.conn.now) (state g.S.Store c.lose_for.new.change.conn.now) had (lost, c.in_ok-lost.left) c.if-loses_own.lost keys c.in_ok-had.ensures.step c.in_ok-lost.ensures.step

pub returns-in_err-had-clause-cause : goal.returns-in_err-had-clause-cause
returns-in_err-had-clause-cause g c clean going =
    let p = err_from_is_err_and c.from_residual.result c.from_residual.ensures.1 in
    rw (p.1, p.2) (c.in_err-had.ensures.cause clean going)

pub returns-in_err-lost-clause-cause : goal.returns-in_err-lost-clause-cause
returns-in_err-lost-clause-cause g c clean going =
    let p = err_from_is_err_and c.from_residual-in_err-lost.result c.from_residual-in_err-lost.ensures.1 in
    rw (p.1, p.2) (blamed_then g.S.Store put_texts (c.args.change.now.conn.now) (c.set_own.new.change.conn.now) c.in_err-lost.field-0.0 (c.in_ok-had.ensures.cause (was_clean _ _ _ c.lose_for.ensures.step.0 clean) going)
    (λ on-1. c.in_err-lost.ensures.cause clean on-1))

pub returns-clause-cause : goal.returns-clause-cause
returns-clause-cause g c clean going =
    goes_then g.S.Store put_texts (c.args.change.now.conn.now) (c.set_own.new.change.conn.now) (c.lose_for.new.change.conn.now) (c.in_ok-had.ensures.cause (was_clean _ _ _ c.lose_for.ensures.step.0 clean) going)
    (λ on-1. c.in_ok-lost.ensures.cause clean on-1)
