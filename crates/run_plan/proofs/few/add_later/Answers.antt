use Rattle.std.specs.Prelude.{◌↔◌, IfSome, IsSome, slice_index_or}
use Rattle.std.proofs.Common.{rules, ◌≡◌, ◌∙◌, ◌+◌, ◌++◌, ◌∷◌, ◌<◌, ◌≤◌, ℕ, [], List, None, Option, ap, false, length, map, refl, subst, sym}
use Rattle.std.proofs.lemmas.List.{get_or_default}
use Rattle.job_graph.specs.declared.costs.Costs.{Costs}
use Rattle.plan_checker.specs.declared.vertex.Vertex.{Vertex}
use Rattle.plan_keeper.specs.Kept.{IsKeptApart}
use Rattle.plan_keeper.specs.declared.planned.Planned.{Planned}
use Rattle.run_plan.specs.inner.Again.{vertex_of, vertices_of}
use Rattle.run_plan.specs.Brought.{IsGraphApart}
use Rattle.run_plan.specs.Touched.{costs_in}
use Rattle.run_plan.specs.inner.Flagged.{parents_at}
use Rattle.run_plan.proofs.Apart.{apart_taken}
use Rattle.run_plan.proofs.FewBrought.{all_later, later_more, none_later}
use Rattle.run_plan.proofs.few.add_later.Goals as goal

pub loop-index-init : goal.loop-index-init
loop-index-init c = record {
  kept = c.requires.kept;
  first = none_later c.args.known.now c.args.made.graph c.args.later.now c.args.needed.now c.requires.each c.requires.needed c.requires.flagged;
}

pub loop-index-preserved : goal.loop-index-preserved
loop-index-preserved c =
    let k : ℕ = c.loop-index.index in
    let grown = subst (λ (found : Option Planned). IfSome found (λ more. IsKeptApart more × (more.graph ≡ c.loop-index.made.graph ++ c.in_ok-vertex.vertex ∷ []))) c.in-Some.is c.in_ok-more.ensures.made in
    let within : k < length c.args.later.now = search rules in
    let its : Costs = slice_index_or c.args.later.now k (record { load = None; compute = 0 }) in
    let count : length c.vertices-count.result.now ≡ length c.args.made.graph = ap (λ (vertices : List Vertex). length vertices) c.vertices-count.ensures.list in
    let is : c.in_ok-vertex.vertex ≡ vertex_of (parents_at c.args.known.now (length c.args.made.graph + k)) its (slice_index_or c.args.needed.now (length c.args.made.graph + k) false) =
    subst (λ (n : ℕ). c.in_ok-vertex.vertex ≡ vertex_of (parents_at c.args.known.now (n + k)) its (slice_index_or c.args.needed.now (n + k) false)) count c.in_ok-vertex.ensures in
    record {
      kept = grown.0;
      first = grown.1
          ∙ later_more c.args.known.now c.args.made.graph c.args.later.now c.args.needed.now c.requires.each c.requires.needed c.loop-index.made.graph k its c.in_ok-vertex.vertex
          c.loop-index.invariant.first within (get_or_default c.args.later.now k (record { load = None; compute = 0 }) its within) is;
    }

pub returns : goal.returns
returns c =
    let past : length c.args.later.now ≤ c.loop-index.index = search rules in
    let all : List Vertex = vertices_of c.args.known.now (map costs_in c.args.made.graph ++ c.args.later.now) c.args.needed.now in
    let whole : c.loop-index.made.graph ≡ all =
    all_later c.args.known.now c.args.made.graph c.args.later.now c.args.needed.now c.requires.each c.requires.needed c.loop-index.made.graph c.loop-index.index c.loop-index.invariant.first past in
    record {
      made = (c.loop-index.invariant.kept, whole);
      found = (
        (λ some. subst IsGraphApart whole (record { good = c.loop-index.invariant.kept.good; apart = c.loop-index.invariant.kept.apart })),
        (λ it. refl),
      );
    }

pub returns-in-None-clause-found : goal.returns-in-None-clause-found
returns-in-None-clause-found c =
    let k : ℕ = c.loop-index.index in
    let all : List Vertex = vertices_of c.args.known.now (map costs_in c.args.made.graph ++ c.args.later.now) c.args.needed.now in
    let within : k < length c.args.later.now = search rules in
    let its : Costs = slice_index_or c.args.later.now k (record { load = None; compute = 0 }) in
    let count : length c.vertices-count.result.now ≡ length c.args.made.graph = ap (λ (vertices : List Vertex). length vertices) c.vertices-count.ensures.list in
    let is : c.in_ok-vertex.vertex ≡ vertex_of (parents_at c.args.known.now (length c.args.made.graph + k)) its (slice_index_or c.args.needed.now (length c.args.made.graph + k) false) =
    subst (λ (n : ℕ). c.in_ok-vertex.vertex ≡ vertex_of (parents_at c.args.known.now (n + k)) its (slice_index_or c.args.needed.now (n + k) false)) count c.in_ok-vertex.ensures in
    let longer =
    later_more c.args.known.now c.args.made.graph c.args.later.now c.args.needed.now c.requires.each c.requires.needed c.loop-index.made.graph k its c.in_ok-vertex.vertex
    c.loop-index.invariant.first within (get_or_default c.args.later.now k (record { load = None; compute = 0 }) its within) is in
    let exact = subst (λ (found : Option Planned). IsSome found ↔ IsGraphApart (c.loop-index.made.graph ++ c.in_ok-vertex.vertex ∷ [])) c.in-None.is c.in_ok-more.ensures.found in
    ((λ never. absurd cc), (λ it. exact.1 (subst IsGraphApart (sym longer) (apart_taken (length c.args.made.graph + (k + 1)) all it))))
