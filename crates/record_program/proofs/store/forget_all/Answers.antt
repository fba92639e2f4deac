use Rattle.std.proofs.Common.{List, ℕ, subst, take}
use Rattle.std.proofs.lemmas.List.{take_all}
use Rattle.std.proofs.lemmas.Result.{err_from_is_err_and}
use Rattle.sqlite.specs.Held.{state}
use Rattle.job_record.specs.Map.{IsRecordOf}
use Rattle.record_program.specs.Forgetting.{forgotten}
use Rattle.record_program.proofs.LeavesOthers.{forgets_more, stops}
use Rattle.record_program.proofs.store.forget_all.Goals as goal

pub loop-key-preserved : goal.loop-key-preserved
loop-key-preserved g c clean =
    let new = state g.S.Store c.forget_one.new.kept.conn in
    let keys = c.args.keys.now in
    let key = c.key-item.result in
    let at = c.loop-key.key-index in
    let before = c.loop-key.invariant (c.forget_one.ensures.clean clean) in (
      before.0,
      λ map fits it.
          let first = before.1 map fits it in
          forgets_more keys at key c.as_str.result.now map c.forget_one.new.kept.space new c.loop-key-test.true c.key-item.is c.as_str.ensures.bytes
          (c.in_ok-forget_one.ensures.forgets clean (forgotten (take at keys) map) first.1 first.0),
    )

pub returns-clause-forgets : goal.returns-clause-forgets
returns-clause-forgets g c clean map fits it sum summed =
    let keys = c.args.keys.now in
    subst (λ (ks : List (List ℕ)). IsRecordOf (state g.S.Store c.loop-key.kept.conn) (forgotten ks map)) (take_all c.loop-key.key-index keys c.loop-key-test.false) ((c.loop-key.invariant clean).1 map fits it).0

pub returns-in_err-forget_one-clause-forgets : goal.returns-in_err-forget_one-clause-forgets
returns-in_err-forget_one-clause-forgets g c clean map fits it sum summed =
    let p = err_from_is_err_and c.from_residual.result c.from_residual.ensures.1 in
    let new = state g.S.Store c.forget_one.new.kept.conn in
    let keys = c.args.keys.now in
    let at = c.loop-key.key-index in
    let first = (c.loop-key.invariant (c.forget_one.ensures.clean clean)).1 map fits it in
    rw (p.1, p.2) (stops sum keys at c.as_str.result.now map c.forget_one.new.kept.space new _ summed (c.in_err-forget_one.ensures.forgets clean (forgotten (take at keys) map) first.1 first.0))
