use Rattle.std.specs.Prelude.{◌↔◌, IfSome, IsSome}
use Rattle.std.proofs.Common.{◌≡◌, ◌∙◌, List, Option, ap, arith, length, map, subst, sym}
use Rattle.std.proofs.lemmas.List.{length-append, length-map}
use Rattle.job_graph.specs.PresentJobGraph.{present_job_graph}
use Rattle.job_graph.specs.declared.costs.Costs.{Costs}
use Rattle.plan_checker.specs.Certificate.{IsCertificate}
use Rattle.plan_checker.specs.Least.{IsLeast}
use Rattle.plan_checker.specs.Plan.{cost}
use Rattle.plan_checker.specs.declared.vertex.Vertex.{Vertex}
use Rattle.plan_keeper.specs.Kept.{IsKeptApart}
use Rattle.plan_keeper.specs.declared.planned.Planned.{Planned}
use Rattle.run_plan.specs.inner.Again.{vertices_of}
use Rattle.run_plan.specs.Brought.{AreFreeing, StaysApart}
use Rattle.run_plan.specs.Planned.{IsPlanOf}
use Rattle.run_plan.specs.Touched.{costs_after, costs_in, patched}
use Rattle.run_plan.proofs.Brought.{are_present, flags_present}
use Rattle.run_plan.proofs.FewBrought.{have_parents, patched_count}
use Rattle.run_plan.proofs.few.plan_few.Goals as goal

pub brought-requires-clause-parents : goal.brought-requires-clause-parents
brought-requires-clause-parents c =
    have_parents c.args.apart.0.graph c.args.known.now.known c.known.result.now c.known.ensures.parents c.requires.first

pub apart-requires-clause-needed : goal.apart-requires-clause-needed
apart-requires-clause-needed c =
    let known = c.args.known.now in
    let graph : List Vertex = c.args.apart.0.graph in
    let changed = c.args.changed.now in
    let later = c.args.later.now in
    let costs : List Costs = costs_after graph changed later in
    let flags = c.as_slice.result.now in
    let brought = subst (λ (found : Option Planned). IfSome found (λ made. IsKeptApart made × (made.graph ≡ vertices_of c.known.result.now costs flags))) c.in-Some.is c.in_ok-made.ensures.made in
    let each : length costs ≡ length known.known =
    omega (arith, length-append (patched (map costs_in graph) changed) later, patched_count (map costs_in graph) changed, length-map graph costs_in, c.requires.each) in
    sym c.as_slice.ensures.value
    ∙ flags_present known.learned known.outs c.known.result.now costs flags known.known c.in-Some.made.graph c.known.ensures.jobs (c.as_slice.ensures.value ∙ c.requires.needed) each brought.1

pub returns-in-Some-clause-ok : goal.returns-in-Some-clause-ok
returns-in-Some-clause-ok c =
    let known = c.args.known.now in
    let made = c.in-Some.made in
    let costs : List Costs = costs_after c.args.apart.0.graph c.args.changed.now c.args.later.now in
    let brought = subst (λ (found : Option Planned). IfSome found (λ made. IsKeptApart made × (made.graph ≡ vertices_of c.known.result.now costs c.as_slice.result.now))) c.in-Some.is
    c.in_ok-made.ensures.made in
    let graph : made.graph ≡ present_job_graph known.learned known.known known.outs costs =
    brought.1 ∙ are_present known.learned known.outs c.known.result.now costs c.as_slice.result.now known.known c.known.ensures.jobs c.known.ensures.parents (c.as_slice.ensures.value ∙ c.requires.needed) in
    let plan = c.kept_is_planned.ensures made brought.0 in
    subst (IsPlanOf (present_job_graph known.learned known.known known.outs costs)) (sym c.apart.ensures) (record {
      its_graph = graph;
      least = subst (λ (vertices : List Vertex). IsLeast vertices made.plan.marks) graph plan.0;
      certified = subst (λ (vertices : List Vertex). IsCertificate vertices made.plan.marks made.charges) graph plan.1;
      its_cost = brought.0.its_cost ∙ ap (λ (vertices : List Vertex). cost vertices made.plan.marks) graph;
    })

pub returns-in-Some-clause-brought : goal.returns-in-Some-clause-brought
returns-in-Some-clause-brought c =
    let known = c.args.known.now in
    let costs : List Costs = costs_after c.args.apart.0.graph c.args.changed.now c.args.later.now in
    let exact =
    subst (λ (graph : List Vertex). IsSome c.in_ok-made.field-0 ↔ (AreFreeing (map costs_in c.args.apart.0.graph) c.args.changed.now × StaysApart c.args.apart.0.graph graph))
    (are_present known.learned known.outs c.known.result.now costs c.as_slice.result.now known.known c.known.ensures.jobs c.known.ensures.parents (c.as_slice.ensures.value ∙ c.requires.needed))
    c.in_ok-made.ensures.found in
    subst
    (λ (found : Option Planned).
    IsSome found ↔ (AreFreeing (map costs_in c.args.apart.0.graph) c.args.changed.now
    × StaysApart c.args.apart.0.graph (present_job_graph known.learned known.known known.outs costs)))
    c.in-Some.is exact

pub returns-in-None-clause-brought : goal.returns-in-None-clause-brought
returns-in-None-clause-brought c =
    let known = c.args.known.now in
    let costs : List Costs = costs_after c.args.apart.0.graph c.args.changed.now c.args.later.now in
    let exact =
    subst (λ (graph : List Vertex). IsSome c.in_ok-made.field-0 ↔ (AreFreeing (map costs_in c.args.apart.0.graph) c.args.changed.now × StaysApart c.args.apart.0.graph graph))
    (are_present known.learned known.outs c.known.result.now costs c.as_slice.result.now known.known c.known.ensures.jobs c.known.ensures.parents (c.as_slice.ensures.value ∙ c.requires.needed))
    c.in_ok-made.ensures.found in
    subst
    (λ (found : Option Planned).
    IsSome found ↔ (AreFreeing (map costs_in c.args.apart.0.graph) c.args.changed.now
    × StaysApart c.args.apart.0.graph (present_job_graph known.learned known.known known.outs costs)))
    c.in-None.is exact
