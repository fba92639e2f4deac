use Rattle.std.proofs.Common.{◌≡◌, [], Ok, refl, sym, ap, subst, subst₂, inl, inr, ◌∙◌}
use Rattle.std.proofs.lemmas.Result.{err_from_is_err_and}
use Rattle.sqlite.specs.State.{HasCleanDisk}
use Rattle.sqlite.specs.Held.{state}
use Rattle.job_record.specs.Blame.{put_texts}
use Rattle.job_record.specs.inner.Inside.{Always, GoesTo, LosesFrom, Never, Walks, WalksOn, total_after}
use Rattle.job_record.proofs.Chain.{was_clean, walk_of}
use Rattle.job_record.proofs.Traced.{blamed_then, goes_then, goes_none}
use Rattle.job_record.proofs.Walked.{CanLoseFrom}
use Rattle.job_record.proofs.WalkedPut.{TellsTotal, lose_counted, lose_totalled}
use Rattle.job_record.proofs.changes.lose_for.Goals as goal
use Rattle.job_record.proofs.changes.lose_for.Goals.{in-Some-counted, in-None+in_ok-total-in-None}

pub returns-in_err-total-in-None-clause-cause : goal.returns-in_err-total-in-None-clause-cause
returns-in_err-total-in-None-clause-cause g c clean going =
    let p = err_from_is_err_and c.from_residual.result c.from_residual.ensures.1 in
    rw (p.1, p.2) (c.in_err-total-in-None.ensures.cause put_texts (inr (inr (inr (inr (inr (inl refl)))))) clean going)

pub returns-in_err-left-clause-cause : goal.returns-in_err-left-clause-cause
returns-in_err-left-clause-cause g c clean going =
    let old = c.args.change.now.conn.now in
    let mid = c.match-space-2.change.conn.now in
    let one : HasCleanDisk (state g.S.Store mid) → GoesTo g.S.Store put_texts old mid = elim c.match-space-2.branch [
      | in-Some-counted w ↦ subst (λ x. HasCleanDisk (state g.S.Store x.conn.now) → GoesTo g.S.Store put_texts old x.conn.now) (sym w.change-is) (λ before. goes_none g.S.Store put_texts old going)
      | in-None+in_ok-total-in-None w ↦ subst (λ x. HasCleanDisk (state g.S.Store x.conn.now) → GoesTo g.S.Store put_texts old x.conn.now) (sym w.change-is) (λ before. w.in_ok-total-in-None.ensures.cause put_texts (inr (inr (inr (inr (inr (inl refl)))))) before going)
    ] in
    let p = err_from_is_err_and c.from_residual-in_err-left.result c.from_residual-in_err-left.ensures.1 in
    rw (p.1, p.2) (blamed_then g.S.Store put_texts old mid c.in_err-left.field-0.0 (one (was_clean _ _ _ c.lose.ensures.step.0 clean)) (λ on. c.in_err-left.ensures.cause clean on))

pub returns-clause-cause : goal.returns-clause-cause
returns-clause-cause g c clean going =
    let old = c.args.change.now.conn.now in
    let mid = c.match-space-2.change.conn.now in
    let one : HasCleanDisk (state g.S.Store mid) → GoesTo g.S.Store put_texts old mid = elim c.match-space-2.branch [
      | in-Some-counted w ↦ subst (λ x. HasCleanDisk (state g.S.Store x.conn.now) → GoesTo g.S.Store put_texts old x.conn.now) (sym w.change-is) (λ before. goes_none g.S.Store put_texts old going)
      | in-None+in_ok-total-in-None w ↦ subst (λ x. HasCleanDisk (state g.S.Store x.conn.now) → GoesTo g.S.Store put_texts old x.conn.now) (sym w.change-is) (λ before. w.in_ok-total-in-None.ensures.cause put_texts (inr (inr (inr (inr (inr (inl refl)))))) before going)
    ] in
    goes_then g.S.Store put_texts old mid c.lose.new.change.conn.now (one (was_clean _ _ _ c.lose.ensures.step.0 clean)) (λ on. c.in_ok-left.ensures.cause clean on)

pub returns-clause-step : goal.returns-clause-step
returns-clause-step g c =
    let budget = c.in-Some.budget in
    let row = c.args.row.now in
    let had = c.args.had in
    let old = state g.S.Store c.args.change.now.conn.now in
    let mid = state g.S.Store c.match-space-2.change.conn.now in
    let new = state g.S.Store c.lose.new.change.conn.now in
    let left = c.in_ok-left.left in
    let lost = c.lose.new.lost in
    let two = subst (λ l. WalksOn mid new (CanLoseFrom budget c.match-space-2.total) (LosesFrom l lost) Never (Ok left)) c.new-lost.ensures c.in_ok-left.ensures.step in
    rw c.in-Some.is (elim c.match-space-2.branch [
      | in-Some-counted w ↦
          let before = w.in-Some-counted.before in
          let total : c.match-space-2.total ≡ total_after before row had = w.total-is ∙ w.total_after-total.ensures in
          let start : mid ≡ old = ap (λ x. state g.S.Store x.conn.now) w.change-is in
          rw w.in-Some-counted.is (lose_counted budget row had old old new lost before (Ok left) (subst₂ (λ s t. WalksOn s new (CanLoseFrom budget t) (LosesFrom [] lost) Never (Ok left)) start total two))
      | in-None+in_ok-total-in-None w ↦
          let total = w.in_ok-total-in-None.total in
          let at = state g.S.Store w.total.new.change.conn.now in
          let start : mid ≡ at = ap (λ x. state g.S.Store x.conn.now) w.change-is in
          let one : Walks (Unit {0}) old at Always TellsTotal Never (Ok total) = walk_of (Unit {0}) old at Always TellsTotal Never (Ok total) w.total.ensures.survives w.in_ok-total-in-None.ensures.step in
          rw w.in-None.is (lose_totalled budget row had old at new lost total (Ok left) one (subst₂ (λ s t. WalksOn s new (CanLoseFrom budget t) (LosesFrom [] lost) Never (Ok left)) start w.total-is two))
    ])
