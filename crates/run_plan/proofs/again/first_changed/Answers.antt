use Rattle.std.specs.Prelude.{slice_index_or}
use Rattle.std.proofs.Common.{rules, ◌≡◌, ◌∙◌, ◌<◌, ℕ, Bool, false, List, None, ap, arith, length, sym, true≢false}
use Rattle.std.proofs.lemmas.List.{get_or_default, get_or_read}
use Rattle.job_graph.specs.declared.costs.Costs.{Costs}
use Rattle.job_graph.specs.declared.growth.KnownJob.{KnownJob}
use Rattle.plan_checker.specs.Graph.{no_vertex, vertex}
use Rattle.plan_checker.specs.declared.vertex.Vertex.{Vertex}
use Rattle.run_plan.specs.inner.Again.{vertex_of, vertices_of}
use Rattle.run_plan.proofs.Brought.{same_more, vertex_at}
use Rattle.run_plan.proofs.again.first_changed.Goals as goal

pub loop-number-preserved : goal.loop-number-preserved
loop-number-preserved c =
    let all : List Vertex = vertices_of c.args.known.now c.args.costs.now c.args.needed.now in
    let number : ℕ = c.loop-number.number in
    let below : number < length c.args.vertices.now = search rules in
    let there : number < length c.args.known.now = omega (arith, below, c.requires.vertices) in
    let its : Costs = slice_index_or c.args.costs.now number (record { load = None; compute = 0 }) in
    let flag : Bool = slice_index_or c.args.needed.now number false in
    let is : c.index-vertices-number.result ≡ vertex_of c.as_slice-parents.result.now its flag = search rules in
    same_more c.args.vertices.now all c.args.from number c.loop-number.invariant
    (sym (get_or_read c.args.vertices.now number c.index-vertices-number.result below c.index-vertices-number.is no_vertex)
    ∙ is
    ∙ ap (λ (parents : List ℕ). vertex_of parents its flag) c.as_slice-parents.ensures
    ∙ ap (λ (job : KnownJob). vertex_of job.parents its flag) (sym c.index-known-number.is)
    ∙ vertex_at c.args.known.now c.args.costs.now c.args.needed.now c.requires.costs c.requires.needed number c.index-known-number.result its flag there c.index-known-number.is
    (get_or_default c.args.costs.now number (record { load = None; compute = 0 }) its (omega (arith, there, c.requires.costs)))
    (get_or_default c.args.needed.now number false flag (omega (arith, there, c.requires.needed))))

pub returns-then-not-is_as-clause-other : goal.returns-then-not-is_as-clause-other
returns-then-not-is_as-clause-other c = λ below same.
    let all : List Vertex = vertices_of c.args.known.now c.args.costs.now c.args.needed.now in
    let number : ℕ = c.loop-number.number in
    let there : number < length c.args.known.now = omega (arith, below, c.requires.vertices) in
    let its : Costs = slice_index_or c.args.costs.now number (record { load = None; compute = 0 }) in
    let flag : Bool = slice_index_or c.args.needed.now number false in
    let is : vertex_of c.as_slice-parents.result.now its flag ≡ vertex all number =
    ap (λ (parents : List ℕ). vertex_of parents its flag) c.as_slice-parents.ensures
    ∙ ap (λ (job : KnownJob). vertex_of job.parents its flag) (sym c.index-known-number.is)
    ∙ vertex_at c.args.known.now c.args.costs.now c.args.needed.now c.requires.costs c.requires.needed number c.index-known-number.result its flag there c.index-known-number.is
    (get_or_default c.args.costs.now number (record { load = None; compute = 0 }) its (omega (arith, there, c.requires.costs)))
    (get_or_default c.args.needed.now number false flag (omega (arith, there, c.requires.needed))) in
    let job : c.index-vertices-number.result ≡ vertex_of c.as_slice-parents.result.now its flag =
    get_or_read c.args.vertices.now number c.index-vertices-number.result below c.index-vertices-number.is no_vertex ∙ same ∙ sym is in
    true≢false (sym (c.is_as.ensures.1 job) ∙ c.if-not-is_as.true)
