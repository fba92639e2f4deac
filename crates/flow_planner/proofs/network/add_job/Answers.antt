use Rattle.std.proofs.Common.{◌≡◌, ◌+◌, ◌*◌, Bool, cond, unwrap_or, length, get_or, sym, refl, ap, ◌∙◌, subst, arith}
use Rattle.std.proofs.lemmas.List.{get_or_read}
use Rattle.plan_checker.specs.declared.vertex.Vertex.{Vertex}
use Rattle.plan_checker.specs.Graph.{vertex, no_vertex}
use Rattle.flow_planner.specs.declared.network.TheConstants.{NO_BOUND}
use Rattle.flow_planner.proofs.Bounds.{enter-le, through-le}
use Rattle.flow_planner.proofs.Laid.{laid_as, job_begun, nodes_on, ok_from_both}
use Rattle.flow_planner.proofs.network.add_job.Goals as goal
use Rattle.flow_planner.proofs.network.add_job.Goals.{then-vertex, else-vertex}

pub lay-requires-clause-amount : goal.lay-requires-clause-amount
lay-requires-clause-amount c =
    let graph = c.args.vertices.now in
    let start = c.args.start.now in
    let job = c.args.job in
    let read = get_or_read graph job c.index-vertices-job.result c.requires.job c.index-vertices-job.is no_vertex in
    let P : Bool → Type 0 = λ b. c.if-vertex.most ≡ cond b NO_BOUND 0 in
    let most : P c.index-vertices-job.result.needed =
    elim c.if-vertex.branch [
      | then-vertex w ↦ subst P (sym w.if-vertex.true) w.most-is
      | else-vertex w ↦ subst P (sym w.if-vertex.false) w.most-is
    ] in
    let capacity = most ∙ ap (λ (v : Vertex). cond v.needed NO_BOUND 0) read in
    let small = enter-le graph start c.requires.graph c.requires.flowing job c.requires.job (vertex graph job).needed refl in
    let amount = c.amount_at-enter.ensures ∙ ap (λ xs. get_or xs job 0) c.as_slice.ensures in
    omega arith

pub lay-requires-2-clause-amount : goal.lay-requires-2-clause-amount
lay-requires-2-clause-amount c =
    let graph = c.args.vertices.now in
    let start = c.args.start.now in
    let job = c.args.job in
    let read = get_or_read graph job c.index-vertices-job.result c.requires.job c.index-vertices-job.is no_vertex in
    let capacity = c.unwrap_or.ensures ∙ ap (λ (v : Vertex). unwrap_or v.load NO_BOUND) read in
    let small = through-le graph start c.requires.graph c.requires.flowing job c.requires.job (vertex graph job).load refl in
    let amount = c.amount_at-through.ensures ∙ ap (λ xs. get_or xs job 0) c.as_slice-2.ensures in
    omega arith

pub returns : goal.returns
returns c =
    let graph = c.args.vertices.now in
    let start = c.args.start.now in
    let job = c.args.job in
    let read = get_or_read graph job c.index-vertices-job.result c.requires.job c.index-vertices-job.is no_vertex in
    let P : Bool → Type 0 = λ b. c.if-vertex.most ≡ cond b NO_BOUND 0 in
    let most : P c.index-vertices-job.result.needed =
    elim c.if-vertex.branch [
      | then-vertex w ↦ subst P (sym w.if-vertex.true) w.most-is
      | else-vertex w ↦ subst P (sym w.if-vertex.false) w.most-is
    ] in
    let needed = most ∙ ap (λ (v : Vertex). cond v.needed NO_BOUND 0) read in
    let load = c.unwrap_or.ensures ∙ ap (λ (v : Vertex). unwrap_or v.load NO_BOUND) read in
    let compute = ap (λ (v : Vertex). v.compute) read in
    let enter = c.amount_at-enter.ensures ∙ ap (λ xs. get_or xs job 0) c.as_slice.ensures in
    let through = c.amount_at-through.ensures ∙ ap (λ xs. get_or xs job 0) c.as_slice-2.ensures in
    let pay = c.amount_at-pay.ensures ∙ ap (λ xs. get_or xs job 0) c.as_slice-3.ensures in
    let was = c.requires.network in
    let one = c.in_ok-lay.ensures in
    let two = c.in_ok-lay-2.ensures in
    let three = c.lay-3.ensures in
    let a = c.args.network.now in
    let b = c.lay.new.network in
    let d = c.lay-2.new.network in
    let e = c.lay-3.new.network in
    let n = length graph in
    let b_nodes = nodes_on n a b was.nodes one.network one.nodes one.source one.sink in
    let d_nodes = nodes_on n b d b_nodes two.network two.nodes two.source two.sink in
    let first = laid_as a.arcs.items b.arcs.items _ _ _ _ (2 * n) job _ _ one.laid (omega arith) refl needed enter in
    let second = laid_as b.arcs.items d.arcs.items _ _ _ _ job (n + job) _ _ two.laid refl (omega arith) load through in
    ok_from_both c.lay-3.result
    (λ network laid. record {
      nodes = nodes_on n d e d_nodes network three.nodes three.source three.sink;
      part = job_begun graph start job a.arcs.items b.arcs.items d.arcs.items e.arcs.items was.carries first second (laid_as d.arcs.items e.arcs.items _ _ _ _ (n + job) (2 * n + 1) _ _ laid (omega arith) (omega arith) compute pay);
    })
    three.network three.laid
