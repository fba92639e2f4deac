use Rattle.std.specs.Prelude.{◌↔◌, IfOk, IsSome}
use Rattle.std.proofs.Common.{◌∙◌, ◌++◌, List, arith, map, subst, sym, true≢false}
use Rattle.job_graph.specs.declared.costs.Costs.{Costs}
use Rattle.plan_checker.specs.declared.vertex.Vertex.{Vertex}
use Rattle.run_plan.specs.Brought.{AreFreeing, AreStaying, IsGraphApart}
use Rattle.run_plan.specs.Touched.{costs_after, costs_in}
use Rattle.run_plan.specs.inner.Again.{vertices_of}
use Rattle.run_plan.proofs.Apart.{few_found}
use Rattle.run_plan.proofs.FewBrought.{flagged_either, flags_by_staying, staying_by_flags}
use Rattle.run_plan.proofs.few.brought.Goals as goal

pub bring_flags-requires-clause-either : goal.bring_flags-requires-clause-either
bring_flags-requires-clause-either c = λ n within.
    flagged_either c.args.before.now c.args.needed.now c.args.made.graph c.bring_changed.new.made.graph n c.requires.before (omega (arith, within, c.bring_changed.ensures.count))
    (c.bring_changed.ensures.freed c.if-not-bring_changed.false n)

pub returns-then-not-bring_flags-clause-found : goal.returns-then-not-bring_flags-clause-found
returns-then-not-bring_flags-clause-found c =
    let yes = c.if-not-bring_changed.false in
    let known = c.args.known.now in
    let needed = c.args.needed.now in
    let later = c.args.later.now in
    let old : List Vertex = c.args.made.graph in
    let mid : List Vertex = c.bring_changed.new.made.graph in (
      (λ never. absurd cc),
      (λ both.
          let staying = subst (λ (costs : List Costs). AreStaying old (vertices_of known (costs ++ later) needed)) (sym (c.bring_changed.ensures.costs yes)) both.1.staying in
          absurd (true≢false (sym (c.bring_flags.ensures.exact.1
          (λ n within. flags_by_staying known needed old mid later c.requires.each c.requires.needed c.bring_changed.ensures.count c.requires.parents (c.bring_changed.ensures.parents yes)
          (c.bring_changed.ensures.freed yes) staying n (omega (arith, within, c.bring_changed.ensures.count)))) ∙ c.if-not-bring_flags.true))),
    )

pub returns-clause-found : goal.returns-clause-found
returns-clause-found c =
    let yes = c.if-not-bring_changed.false in
    let flagged = c.if-not-bring_flags.false in
    let known = c.args.known.now in
    let needed = c.args.needed.now in
    let later = c.args.later.now in
    let old : List Vertex = c.args.made.graph in
    let mid : List Vertex = c.bring_changed.new.made.graph in
    few_found (AreFreeing (map costs_in old) c.args.changed.now) old (vertices_of known (costs_after old c.args.changed.now later) needed) c.add_later.result
    (c.bring_changed.ensures.exact.0 yes) c.requires.kept.apart
    (subst (λ (costs : List Costs). AreStaying old (vertices_of known (costs ++ later) needed)) (c.bring_changed.ensures.costs yes)
    (staying_by_flags known needed old mid later c.requires.each c.requires.needed c.bring_changed.ensures.count c.requires.parents (c.bring_changed.ensures.parents yes)
    (c.bring_changed.ensures.freed yes) (λ n within. c.bring_flags.ensures.exact.0 flagged n (omega (arith, within, c.bring_changed.ensures.count)))))
    (subst (λ (costs : List Costs). IfOk c.add_later.result (λ found. IsSome found ↔ IsGraphApart (vertices_of known (costs ++ later) needed)))
    (c.bring_flags.ensures.costs flagged ∙ c.bring_changed.ensures.costs yes) c.add_later.ensures.found)
