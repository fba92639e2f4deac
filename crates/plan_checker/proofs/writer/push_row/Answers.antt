use Rattle.std.proofs.Common.{List, ℕ, All, subst, arith}
use Rattle.plan_checker.specs.Format.{IsSmall}
use Rattle.plan_checker.specs.inner.Claim.{graph_of, marks_of, charges_of}
use Rattle.plan_checker.proofs.Texts.{row_pushed}
use Rattle.plan_checker.proofs.writer.push_row.Goals as goal

pub returns-clause-text : goal.returns-clause-text
returns-clause-text c =
    row_pushed _ _ _ _ _ _ _ _ _ _
    (graph_of c.args.claim.now) (marks_of c.args.claim.now) (charges_of c.args.claim.now) c.args.i
    c.vertex-vertex.result.now c.mark.result c.enter.result c.through.result c.pay.result c.len.result c.as_slice.result.now c.passes.result.now
    c.vertex-vertex.ensures.value c.mark.ensures c.enter.ensures c.through.ensures c.pay.ensures c.len.ensures c.as_slice.ensures c.passes.ensures
    c.in_ok-push_start.ensures c.in_ok-push_load.ensures c.in_ok-push_number.ensures c.in_ok-push_number-2.ensures c.in_ok-push_number-3.ensures c.in_ok-push_number-4.ensures c.in_ok-push_number-5.ensures c.in_ok-push_pairs.ensures.text c.in_ok-push_str.ensures.bytes

pub returns-clause-small : goal.returns-clause-small
returns-clause-small c =
    let P : List ℕ → Type 0 = All IsSmall in
    record {
      enter = omega (arith, c.enter.ensures, c.enter.type_inv);
      through = omega (arith, c.through.ensures, c.through.type_inv);
      pay = omega (arith, c.pay.ensures, c.pay.type_inv);
      passing = subst P c.passes.ensures c.in_ok-push_pairs.ensures.small;
    }
