use Rattle.std.specs.Prelude.{IsTrue, slice_index_or}
use Rattle.std.proofs.Common.{rules, ◌≡◌, ◌∙◌, ◌+◌, ◌<◌, ◌≤◌, ℕ, Bool, false, List, None, ap, arith, length, refl, subst, sym, true≢false}
use Rattle.std.proofs.lemmas.List.{get_or_default}
use Rattle.job_graph.specs.declared.costs.Costs.{Costs}
use Rattle.job_graph.specs.declared.growth.KnownJob.{KnownJob}
use Rattle.plan_checker.specs.Graph.{vertex}
use Rattle.plan_checker.specs.declared.vertex.Vertex.{Vertex}
use Rattle.run_plan.specs.inner.Again.{IsBrought, vertex_of, vertices_of}
use Rattle.run_plan.proofs.Brought.{AreBroughtBelow, all_brought, brought_more, brought_on, not_staying, staying_more, vertex_at, vertices_count}
use Rattle.run_plan.proofs.again.bring_old.Goals as goal

pub loop-number-preserved : goal.loop-number-preserved
loop-number-preserved c =
    let all : List Vertex = vertices_of c.args.known.now c.args.costs.now c.args.needed.now in
    let number : ℕ = c.loop-number.number in
    let below : number < length c.vertices-count.result.now = search rules in
    let few : length c.vertices-count.result.now ≤ length c.args.known.now = search rules in
    let there : number < length c.args.known.now = omega (arith, below, few) in
    let its : Costs = slice_index_or c.args.costs.now number (record { load = None; compute = 0 }) in
    let flag : Bool = slice_index_or c.args.needed.now number false in
    let now : IsBrought c.loop-number.made.graph c.bring_one.new.made.graph number (vertex_of c.as_slice-parents.result.now its flag) = search rules in
    let is : vertex_of c.as_slice-parents.result.now its flag ≡ vertex all number =
    ap (λ (parents : List ℕ). vertex_of parents its flag) c.as_slice-parents.ensures
    ∙ ap (λ (job : KnownJob). vertex_of job.parents its flag) (sym c.index-known-number.is)
    ∙ vertex_at c.args.known.now c.args.costs.now c.args.needed.now c.requires.costs c.requires.needed number c.index-known-number.result its flag there c.index-known-number.is
    (get_or_default c.args.costs.now number (record { load = None; compute = 0 }) its (omega (arith, there, c.requires.costs)))
    (get_or_default c.args.needed.now number false flag (omega (arith, there, c.requires.needed))) in
    let graph : List Vertex = c.bring_one.new.made.graph in
    let count : ℕ = length c.vertices-count.result.now in
    let next : AreBroughtBelow graph all count (number + 1) =
    brought_more c.loop-number.made.graph graph all count number (vertex_of c.as_slice-parents.result.now its flag) c.loop-number.invariant.brought now is c.bring_one.ensures.count in
    let following : ℕ = c.first_changed-number-in-loop-number.result in
    let same : (i : ℕ) → number + 1 ≤ i → i < following → vertex graph i ≡ vertex all i =
    subst (λ (vs : List Vertex). (i : ℕ) → number + 1 ≤ i → i < following → vertex vs i ≡ vertex all i) c.vertices-in-loop-number.ensures.list c.first_changed-number-in-loop-number.ensures.same in
    let other : following < length graph → vertex graph following ≡ vertex all following → ⊥ =
    subst (λ (vs : List Vertex). following < length vs → vertex vs following ≡ vertex all following → ⊥) c.vertices-in-loop-number.ensures.list c.first_changed-number-in-loop-number.ensures.other in
    let yes : IsTrue c.bring_one.result = search rules in
    let freed = c.bring_one.ensures.exact.0 yes in
    record {
      kept = c.bring_one.ensures.kept;
      brought = brought_on graph all count (number + 1) following next same;
      within = search rules;
      staying = staying_more c.args.made.now.graph c.loop-number.made.graph graph all number following c.as_slice-parents.result.now its flag c.loop-number.invariant.staying now is freed.0 freed.1 same
          c.first_changed-number-in-loop-number.ensures.within.0;
      other = λ below. other (omega (arith, below, next.as_many));
    }

pub returns-then-count-known-clause-exact : goal.returns-then-count-known-clause-exact
returns-then-count-known-clause-exact c =
    let count = vertices_count c.args.known.now c.args.costs.now c.args.needed.now c.requires.costs c.requires.needed in
    let many : length c.vertices-count.result.now ≡ length c.args.made.now.graph = ap (λ (vertices : List Vertex). length vertices) c.vertices-count.ensures.list in
    let more : length c.args.known.now < length c.vertices-count.result.now = search rules in
    ((λ never. absurd cc), (λ staying. absurd (omega (arith, staying.longer, count, many, more))))

pub returns-then-not-bring_one-clause-exact : goal.returns-then-not-bring_one-clause-exact
returns-then-not-bring_one-clause-exact c =
    let all : List Vertex = vertices_of c.args.known.now c.args.costs.now c.args.needed.now in
    let number : ℕ = c.loop-number.number in
    let below : number < length c.vertices-count.result.now = search rules in
    let few : length c.vertices-count.result.now ≤ length c.args.known.now = search rules in
    let many : length c.vertices-count.result.now ≡ length c.args.made.now.graph = ap (λ (vertices : List Vertex). length vertices) c.vertices-count.ensures.list in
    let there : number < length c.args.known.now = omega (arith, below, few) in
    let its : Costs = slice_index_or c.args.costs.now number (record { load = None; compute = 0 }) in
    let flag : Bool = slice_index_or c.args.needed.now number false in
    let is : vertex_of c.as_slice-parents.result.now its flag ≡ vertex all number =
    ap (λ (parents : List ℕ). vertex_of parents its flag) c.as_slice-parents.ensures
    ∙ ap (λ (job : KnownJob). vertex_of job.parents its flag) (sym c.index-known-number.is)
    ∙ vertex_at c.args.known.now c.args.costs.now c.args.needed.now c.requires.costs c.requires.needed number c.index-known-number.result its flag there c.index-known-number.is
    (get_or_default c.args.costs.now number (record { load = None; compute = 0 }) its (omega (arith, there, c.requires.costs)))
    (get_or_default c.args.needed.now number false flag (omega (arith, there, c.requires.needed))) in (
      (λ never. absurd cc),
      (λ staying.
          absurd
          (not_staying c.args.made.now.graph c.loop-number.made.graph all number c.as_slice-parents.result.now its flag c.loop-number.invariant.staying (c.loop-number.invariant.other below) is
          (λ freed. true≢false (sym (c.bring_one.ensures.exact.1 freed) ∙ c.if-not-bring_one.true))
          (omega (arith, below, many)) staying)),
    )

pub returns-clause-exact : goal.returns-clause-exact
returns-clause-exact c =
    let count = vertices_count c.args.known.now c.args.costs.now c.args.needed.now c.requires.costs c.requires.needed in
    let past : length c.vertices-count.result.now ≤ c.loop-number.number = search rules in
    let few : length c.vertices-count.result.now ≤ length c.args.known.now = search rules in
    let many : length c.vertices-count.result.now ≡ length c.args.made.now.graph = ap (λ (vertices : List Vertex). length vertices) c.vertices-count.ensures.list in (
      (λ yes.
          record {
            longer = omega (arith, few, count, many);
            each = λ n within. c.loop-number.invariant.staying.each n (omega (arith, within, past, many));
          }),
      (λ staying. refl),
    )

pub returns-clause-brought : goal.returns-clause-brought
returns-clause-brought c =
    let all : List Vertex = vertices_of c.args.known.now c.args.costs.now c.args.needed.now in
    let count = vertices_count c.args.known.now c.args.costs.now c.args.needed.now c.requires.costs c.requires.needed in
    let past : length c.vertices-count.result.now ≤ c.loop-number.number = search rules in
    let few : length c.vertices-count.result.now ≤ length c.args.known.now = search rules in
    λ yes. all_brought c.loop-number.made.graph all (length c.vertices-count.result.now) c.loop-number.number c.loop-number.invariant.brought past (omega (arith, few, count))
