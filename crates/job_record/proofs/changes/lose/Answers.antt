use Rattle.std.proofs.Common.{◌≡◌, ◌+◌, ◌-◌, ◌≤◌, ◌<◌, ◌++◌, ◌∷◌, [], sym, subst, ◌∙◌, arith}
use Rattle.std.proofs.lemmas.Result.{err_from_is_err_and}
use Rattle.sqlite.specs.Held.{state}
use Rattle.job_rows.specs.Map.{greatest_number}
use Rattle.job_record.specs.Blame.{put_texts}
use Rattle.job_record.proofs.Chain.{was_clean}
use Rattle.job_record.proofs.Traced.{blamed_then, goes_then}
use Rattle.job_record.proofs.Walked.{HasWalked, lose_fails, lose_goes, lose_ends, lose_never}
use Rattle.job_record.proofs.changes.lose.Goals as goal

pub returns-in_err-key-clause-step : goal.returns-in_err-key-clause-step
returns-in_err-key-clause-step g c =
    let old = state g.S.Store c.args.change.now.conn.now in
    let now = state g.S.Store c.loop.change.conn.now in
    let next = state g.S.Store c.lose_oldest.new.change.conn.now in
    let over : c.args.budget < c.loop.left = omega (arith, c.from.ensures, c.if-left-from.false) in
    let p = err_from_is_err_and c.from_residual.result c.from_residual.ensures.1 in
    rw (p.1, p.2) (lose_fails c.args.budget c.args.total c.args.lost.now old now next c.loop.lost c.loop.left c.loop.counter c.loop.invariant.walked over c.in_err-key.field-0.0 c.in_err-key.ensures.step)

pub loop-preserved : goal.loop-preserved
loop-preserved g c =
    let old = state g.S.Store c.args.change.now.conn.now in
    let now = state g.S.Store c.loop.change.conn.now in
    let next = state g.S.Store c.lose_oldest.new.change.conn.now in
    let key = c.in_ok-key.key in
    let bytes = c.in_ok-key.bytes in
    let over : c.args.budget < c.loop.left = omega (arith, c.from.ensures, c.if-left-from.false) in
    let left : c.saturating_sub-left.result ≡ c.loop.left - bytes = omega (arith, c.saturating_sub-left.ensures, c.from-in-loop.ensures) in
    let goes = lose_goes c.args.budget c.args.total c.args.lost.now old now next c.loop.lost c.loop.left c.loop.counter c.loop.invariant.walked over key bytes c.in_ok-key.ensures.step in
    record {
      same = c.in_ok-key.ensures.same_reference ∙ c.loop.invariant.same;
      walked = subst (λ l. HasWalked c.args.budget c.args.total c.args.lost.now old next l c.saturating_sub-left.result (c.loop.counter + 1)) (sym c.in_ok-push.ensures.ok)
          (subst (λ n. HasWalked c.args.budget c.args.total c.args.lost.now old next (c.loop.lost ++ key ∷ []) n (c.loop.counter + 1)) (sym left) goes);
      traced = λ clean going. goes_then g.S.Store put_texts c.args.change.now.conn.now c.loop.change.conn.now c.lose_oldest.new.change.conn.now (c.loop.invariant.traced (was_clean _ _ _ c.lose_oldest.ensures.step.0 clean) going) (λ on. c.in_ok-key.ensures.cause clean on);
    }

pub returns-after-loop-clause-step : goal.returns-after-loop-clause-step
returns-after-loop-clause-step g c =
    let over : greatest_number < c.loop.counter = omega (arith, c.loop-test.false) in
    lose_never c.args.budget c.args.total c.args.lost.now (state g.S.Store c.args.change.now.conn.now) (state g.S.Store c.loop.change.conn.now) c.loop.lost c.loop.left c.loop.counter c.loop.invariant.walked over

pub returns-then-left-from-clause-step : goal.returns-then-left-from-clause-step
returns-then-left-from-clause-step g c =
    let under : c.loop.left ≤ c.args.budget = omega (arith, c.from.ensures, c.if-left-from.true) in
    lose_ends c.args.budget c.args.total c.args.lost.now (state g.S.Store c.args.change.now.conn.now) (state g.S.Store c.loop.change.conn.now) c.loop.lost c.loop.left c.loop.counter c.loop.invariant.walked under

pub returns-in_err-key-clause-cause : goal.returns-in_err-key-clause-cause
returns-in_err-key-clause-cause g c clean going =
    let p = err_from_is_err_and c.from_residual.result c.from_residual.ensures.1 in
    rw (p.1, p.2) (blamed_then g.S.Store put_texts c.args.change.now.conn.now c.loop.change.conn.now c.in_err-key.field-0.0 (c.loop.invariant.traced (was_clean _ _ _ c.lose_oldest.ensures.step.0 clean) going) (λ on. c.in_err-key.ensures.cause clean on))

pub returns-after-loop-clause-cause : goal.returns-after-loop-clause-cause
returns-after-loop-clause-cause g c clean going = c.loop.invariant.traced clean going

pub returns-then-left-from-clause-cause : goal.returns-then-left-from-clause-cause
returns-then-left-from-clause-cause g c clean going = c.loop.invariant.traced clean going
