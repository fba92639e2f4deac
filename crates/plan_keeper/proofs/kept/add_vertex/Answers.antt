use Rattle.std.proofs.Common.{rules, ◌+◌, refl, ap, subst, ◌∙◌, arith}
use Rattle.plan_keeper.specs.Apart.{StandsApart, charge}
use Rattle.plan_keeper.proofs.Grown.{added_is, grown_from, grown_fits, grown_kept}
use Rattle.plan_keeper.proofs.kept.add_vertex.Goals as goal

pub overflow_add-cost : goal.overflow_add-cost
overflow_add-cost c =
    let stands : StandsApart c.vertices.result.now c.args.vertex = search rules in
    let is = added_is c.args.planned c.args.vertex c.in_ok-graph.graph c.vertices-vertices.result.now c.index-vertices-vertices.result c.in_ok-graph.ensures.ok c.vertices-vertices.ensures.list c.index-vertices-vertices.is in
    let grown = grown_from c.args.planned c.args.vertex c.in_ok-graph.graph c.vertices.result.now c.index-vertices-vertices.result c.in_ok-plan.plan c.in_ok-charges.charges
    c.requires c.vertices.ensures.list stands c.in_ok-graph.ensures.ok c.vertices-vertices.ensures.within is c.in_ok-plan.ensures c.in_ok-charges.ensures in
    let low = grown_fits c.args.planned c.args.vertex c.in_ok-graph.graph c.in_ok-plan.plan c.in_ok-charges.charges grown in
    let amount = c.charge_of.ensures ∙ ap charge is in
    omega arith

pub returns-clause-apart : goal.returns-clause-apart
returns-clause-apart c =
    let stands : StandsApart c.vertices.result.now c.args.vertex = search rules in
    ((λ e. subst (λ g. StandsApart g c.args.vertex) c.vertices.ensures.list stands), (λ s. refl))

pub returns-clause-kept : goal.returns-clause-kept
returns-clause-kept c =
    let stands : StandsApart c.vertices.result.now c.args.vertex = search rules in
    let is = added_is c.args.planned c.args.vertex c.in_ok-graph.graph c.vertices-vertices.result.now c.index-vertices-vertices.result c.in_ok-graph.ensures.ok c.vertices-vertices.ensures.list c.index-vertices-vertices.is in
    let grown = grown_from c.args.planned c.args.vertex c.in_ok-graph.graph c.vertices.result.now c.index-vertices-vertices.result c.in_ok-plan.plan c.in_ok-charges.charges
    c.requires c.vertices.ensures.list stands c.in_ok-graph.ensures.ok c.vertices-vertices.ensures.within is c.in_ok-plan.ensures c.in_ok-charges.ensures in
    let amount = c.charge_of.ensures ∙ ap charge is in
    (grown_kept c.args.planned c.args.vertex c.in_ok-graph.graph c.in_ok-plan.plan c.in_ok-charges.charges _ grown (ap (λ x. c.args.planned.cost + x) amount), c.in_ok-graph.ensures.ok)
