use Rattle.std.specs.Prelude.{slice_index_or}
use Rattle.std.proofs.Common.{rules, ◌<◌, ℕ, List, false, length, subst}
use Rattle.run_plan.specs.inner.Again.{IsBrought, vertex_of}
use Rattle.run_plan.proofs.FewBrought.{costs_brought, others_left, parents_brought}
use Rattle.run_plan.proofs.few.bring_costs.Goals as goal

pub returns-clause-costs : goal.returns-clause-costs
returns-clause-costs c =
    let there : c.args.number < length c.args.made.now.graph = search rules in
    λ yes. costs_brought c.args.made.now.graph c.bring_one.new.made.graph c.args.number _ c.args.costs _ there c.bring_one.ensures.count (c.bring_one.ensures.brought yes)

pub returns-clause-parents : goal.returns-clause-parents
returns-clause-parents c = λ yes.
    let old = c.args.made.now.graph in
    let new = c.bring_one.new.made.graph in
    let flag = slice_index_or c.args.needed.now c.args.number false in
    parents_brought c.args.known.now old new c.args.number c.args.costs flag c.bring_one.ensures.count c.requires.parents
    (subst (λ (parents : List ℕ). IsBrought old new c.args.number (vertex_of parents c.args.costs flag)) c.parents_of.ensures (c.bring_one.ensures.brought yes))

pub returns-clause-freed : goal.returns-clause-freed
returns-clause-freed c = λ yes.
    others_left c.args.made.now.graph c.bring_one.new.made.graph c.args.number c.parents_of.result.now c.args.costs c.args.needed.now (c.bring_one.ensures.exact.0 yes).0
    (c.bring_one.ensures.brought yes)
