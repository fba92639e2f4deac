use Rattle.std.proofs.Common.{arith}
use Rattle.std.proofs.lemmas.List.Elements.{All-from_get_or}
use Rattle.plan_checker.specs.Format.{IsSmall}
use Rattle.plan_checker.proofs.Texts.{pairs_step}
use Rattle.plan_checker.proofs.writer.push_pairs.Goals as goal

pub loop-i-preserved : goal.loop-i-preserved
loop-i-preserved c =
    pairs_step _ _ _ _ c.args.parents.now c.args.amounts.now c.loop-i.i c.loop-i-test.true (omega arith) c.loop-i.invariant c.in_ok-push_number.ensures c.in_ok-push_number-2.ensures

pub returns-clause-small : goal.returns-clause-small
returns-clause-small c = All-from_get_or IsSmall c.args.amounts.now 0 (λ i within. omega (arith, c.type_inv.amounts i))
