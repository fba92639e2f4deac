use Rattle.std.specs.Prelude.{◌↔◌, IfSome, IsSome, slice_index_or}
use Rattle.std.proofs.Common.{rules, ◌≡◌, ◌∙◌, ◌+◌, ◌++◌, ◌∷◌, ◌<◌, ◌≤◌, [], Bool, false, List, None, Option, arith, length, refl, subst, sym}
use Rattle.std.proofs.lemmas.List.{get_or_default}
use Rattle.job_graph.specs.declared.costs.Costs.{Costs}
use Rattle.plan_checker.specs.Graph.{vertex}
use Rattle.plan_checker.specs.declared.vertex.Vertex.{Vertex}
use Rattle.plan_keeper.specs.Kept.{IsKeptApart}
use Rattle.plan_keeper.specs.declared.planned.Planned.{Planned}
use Rattle.run_plan.specs.inner.Again.{vertices_of}
use Rattle.run_plan.specs.Brought.{IsGraphApart}
use Rattle.run_plan.proofs.Apart.{apart_taken}
use Rattle.run_plan.proofs.Brought.{all_first, first_more, vertex_at, vertices_count}
use Rattle.run_plan.proofs.again.add_new.Goals as goal

pub loop-number-preserved : goal.loop-number-preserved
loop-number-preserved c =
    let all : List Vertex = vertices_of c.args.known.now c.args.costs.now c.args.needed.now in
    let grown = subst (λ (found : Option Planned). IfSome found (λ more. IsKeptApart more × (more.graph ≡ c.loop-number.made.graph ++ c.in_ok-vertex.vertex ∷ []))) c.in-Some.is c.in_ok-more.ensures.made in
    let count = vertices_count c.args.known.now c.args.costs.now c.args.needed.now c.requires.costs c.requires.needed in
    let there : c.loop-number.number < length c.args.known.now = search rules in
    let its : Costs = slice_index_or c.args.costs.now c.loop-number.number (record { load = None; compute = 0 }) in
    let flag : Bool = slice_index_or c.args.needed.now c.loop-number.number false in
    let is : c.in_ok-vertex.vertex ≡ vertex all c.loop-number.number =
    c.in_ok-vertex.ensures
    ∙ vertex_at c.args.known.now c.args.costs.now c.args.needed.now c.requires.costs c.requires.needed c.loop-number.number c.index-known-number.result its flag there
    c.index-known-number.is
    (get_or_default c.args.costs.now c.loop-number.number (record { load = None; compute = 0 }) its (omega (arith, there, c.requires.costs)))
    (get_or_default c.args.needed.now c.loop-number.number false flag (omega (arith, there, c.requires.needed))) in
    record {
      kept = grown.0;
      first = grown.1 ∙ first_more c.loop-number.made.graph all c.loop-number.number c.in_ok-vertex.vertex c.loop-number.invariant.first (omega (arith, count, there)) is;
    }

pub returns : goal.returns
returns c =
    let all : List Vertex = vertices_of c.args.known.now c.args.costs.now c.args.needed.now in
    let count = vertices_count c.args.known.now c.args.costs.now c.args.needed.now c.requires.costs c.requires.needed in
    let past : length c.args.known.now ≤ c.loop-number.number = search rules in
    let first : c.loop-number.made.graph ≡ all = all_first c.loop-number.made.graph all c.loop-number.number c.loop-number.invariant.first (omega (arith, count, past)) in
    record {
      made = (c.loop-number.invariant.kept, first);
      found = (
        (λ some. subst IsGraphApart first (record { good = c.loop-number.invariant.kept.good; apart = c.loop-number.invariant.kept.apart })),
        (λ it. refl),
      );
    }

pub returns-in-None-clause-found : goal.returns-in-None-clause-found
returns-in-None-clause-found c =
    let all : List Vertex = vertices_of c.args.known.now c.args.costs.now c.args.needed.now in
    let number = c.loop-number.number in
    let count = vertices_count c.args.known.now c.args.costs.now c.args.needed.now c.requires.costs c.requires.needed in
    let there : number < length c.args.known.now = search rules in
    let its : Costs = slice_index_or c.args.costs.now number (record { load = None; compute = 0 }) in
    let flag : Bool = slice_index_or c.args.needed.now number false in
    let is : c.in_ok-vertex.vertex ≡ vertex all number =
    c.in_ok-vertex.ensures
    ∙ vertex_at c.args.known.now c.args.costs.now c.args.needed.now c.requires.costs c.requires.needed number c.index-known-number.result its flag there
    c.index-known-number.is
    (get_or_default c.args.costs.now number (record { load = None; compute = 0 }) its (omega (arith, there, c.requires.costs)))
    (get_or_default c.args.needed.now number false flag (omega (arith, there, c.requires.needed))) in
    let longer = first_more c.loop-number.made.graph all number c.in_ok-vertex.vertex c.loop-number.invariant.first (omega (arith, count, there)) is in
    let exact = subst (λ (found : Option Planned). IsSome found ↔ IsGraphApart (c.loop-number.made.graph ++ c.in_ok-vertex.vertex ∷ [])) c.in-None.is c.in_ok-more.ensures.found in
    ((λ never. absurd cc), (λ it. exact.1 (subst IsGraphApart (sym longer) (apart_taken (number + 1) all it))))
