use Rattle.std.proofs.Common.{arith}
use Rattle.std.proofs.lemmas.Result.{err_from_is_err_and}
use Rattle.sqlite.specs.Held.{state}
use Rattle.record_program.specs.Trimming.{without_first}
use Rattle.record_program.proofs.LosesFirst.{loses_next, all_lost, part_lost}
use Rattle.record_program.proofs.trimming.lose_all.Goals as goal

pub loop-key-preserved : goal.loop-key-preserved
loop-key-preserved g c =
    let new = state g.S.Store c.lose_one.new.kept.conn in
    let keys = c.args.keys.now in
    let key = c.key-item.result in
    let at = c.loop-key.key-index in
    let within = c.loop-key-test.true in (
      omega (arith, within),
      λ clean.
          let before = c.loop-key.invariant.1 (c.lose_one.ensures.clean clean) in (
            before.0,
            λ map fits it count are.
                let first = before.1 map fits it count are in
                loses_next keys at key c.as_str.result.now map count c.lose_one.new.kept.space new it.holds.archives.apart are within c.key-item.is c.as_str.ensures.bytes
                (c.in_ok-lose_one.ensures.loses clean (without_first at map) first.1 first.0),
          ),
    )

pub returns-clause-loses : goal.returns-clause-loses
returns-clause-loses g c clean map fits it count short are =
    all_lost c.args.keys.now c.loop-key.key-index count map (state g.S.Store c.loop-key.kept.conn) short are c.loop-key.invariant.0 c.loop-key-test.false
    ((c.loop-key.invariant.1 clean).1 map fits it count are).0

pub returns-in_err-lose_one-clause-loses : goal.returns-in_err-lose_one-clause-loses
returns-in_err-lose_one-clause-loses g c clean map fits it count short are =
    let p = err_from_is_err_and c.from_residual.result c.from_residual.ensures.1 in
    let new = state g.S.Store c.lose_one.new.kept.conn in
    let keys = c.args.keys.now in
    let at = c.loop-key.key-index in
    let first = (c.loop-key.invariant.1 (c.lose_one.ensures.clean clean)).1 map fits it count are in
    rw (p.1, p.2) (part_lost keys at count map c.as_str.result.now c.lose_one.new.kept.space new _ short are c.loop-key.invariant.0 (c.in_err-lose_one.ensures.loses clean (without_first at map) first.1 first.0))
