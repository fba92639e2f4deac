use Rattle.std.proofs.Common.{◌≡◌, ap, sum, ◌∙◌, arith}
use Rattle.plan_checker.specs.Plan.{cost}
use Rattle.plan_checker.specs.inner.Claim.{graph_of, marks_of, charges_of}
use Rattle.plan_checker.proofs.Duality.{certificate_is_cheapest}
use Rattle.plan_checker.proofs.Settled.{value_is_small, valid_from_rules, fair_from_rules}
use Rattle.plan_checker.proofs.checker.balance.Goals as goal

pub value-worth-requires : goal.value-worth-requires
value-worth-requires c =
    let small = value_is_small (graph_of c.args.claim.now) (charges_of c.args.claim.now) c.vertices.ensures.within (fair_from_rules c.args.claim.now c.requires) in
    let enters = ap sum c.as_slice-2.ensures in
    omega arith

pub returns-clause-decided : goal.returns-clause-decided
returns-clause-decided c =
    let total : c.plan_cost-total.result ≡ cost (graph_of c.args.claim.now) (marks_of c.args.claim.now) =
    c.plan_cost-total.ensures ∙ ap (λ graph. cost graph c.as_slice.result.now) c.vertices.ensures.list ∙ ap (cost (graph_of c.args.claim.now)) c.as_slice.ensures
    in
    let enters = ap sum c.as_slice-2.ensures in (
      record {
        valid = valid_from_rules c.args.claim.now c.requires;
        fair = fair_from_rules c.args.claim.now c.requires;
        balanced = omega arith;
      },
      total,
    )

pub returns-clause-cheapest : goal.returns-clause-cheapest
returns-clause-cheapest c =
    let total : c.plan_cost-total.result ≡ cost (graph_of c.args.claim.now) (marks_of c.args.claim.now) =
    c.plan_cost-total.ensures ∙ ap (λ graph. cost graph c.as_slice.result.now) c.vertices.ensures.list ∙ ap (cost (graph_of c.args.claim.now)) c.as_slice.ensures
    in
    let enters = ap sum c.as_slice-2.ensures in
    certificate_is_cheapest (graph_of c.args.claim.now) (marks_of c.args.claim.now) (charges_of c.args.claim.now) c.vertices.ensures.within
    (record {
      valid = valid_from_rules c.args.claim.now c.requires;
      fair = fair_from_rules c.args.claim.now c.requires;
      balanced = omega arith;
    })
