use Rattle.std.proofs.Common.{rules, ◌≡◌, ◌≢◌, ap, refl, length, arith}
use Rattle.plan_checker.specs.declared.plan.Mark.TheVariants.{Compute}
use Rattle.plan_keeper.proofs.Remarked.{child_at, left_of, none_more, some_left}
use Rattle.plan_keeper.proofs.kept.is_left.Goals as goal

pub offset_bounds-vertices-child : goal.offset_bounds-vertices-child
offset_bounds-vertices-child c =
    let there = (child_at c.args.graph.now c.args.number c.children-child-items.result.now c.children-child-items.ensures c.loop-child.child-index c.loop-child-test.true).numbered in
    let count = ap length c.vertices-vertices.ensures.list in
    let most = c.vertices-vertices.type_inv.1 in
    omega arith

pub bounds-vertices-child : goal.bounds-vertices-child
bounds-vertices-child c =
    let there = (child_at c.args.graph.now c.args.number c.children-child-items.result.now c.children-child-items.ensures c.loop-child.child-index c.loop-child-test.true).numbered in
    let count = ap length c.vertices-vertices.ensures.list in
    omega arith

pub returns-then-eq : goal.returns-then-eq
returns-then-eq c =
    let computed : c.mark_alone.result ≡ Compute = search rules in (
      (λ is. absurd (cc)),
      (λ left. absurd (some_left c.args.graph.now c.vertices-vertices.result.now c.args.number c.children-child-items.result.now c.loop-child.child-index c.index-vertices-child.result c.mark_alone.result
          c.children-child-items.ensures c.loop-child-test.true c.vertices-vertices.ensures.list c.index-vertices-child.is c.mark_alone.ensures computed left)),
    )

pub loop-child-preserved : goal.loop-child-preserved
loop-child-preserved c =
    let spare : c.mark_alone.result ≢ Compute = search rules in
    none_more c.args.graph.now c.vertices-vertices.result.now c.args.number c.children-child-items.result.now c.loop-child.child-index c.index-vertices-child.result c.mark_alone.result
    c.children-child-items.ensures c.loop-child-test.true c.vertices-vertices.ensures.list c.index-vertices-child.is c.mark_alone.ensures spare c.loop-child.invariant

pub returns : goal.returns
returns c =
    let all = c.loop-child-test.false in
    ((λ is. left_of c.args.graph.now c.args.number c.children-child-items.result.now c.loop-child.child-index c.children-child-items.ensures (omega arith) c.loop-child.invariant), (λ left. refl))
