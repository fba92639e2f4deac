use Rattle.std.proofs.Common.{◌+◌, length, sym, ap, ◌∙◌, subst, arith}
use Rattle.std.proofs.lemmas.List.{get_or_read}
use Rattle.plan_checker.specs.declared.vertex.Vertex.{Vertex}
use Rattle.plan_checker.specs.Graph.{no_vertex}
use Rattle.level_graphs.specs.declared.network.Arc.{Arc}
use Rattle.level_graphs.specs.Arcs.{room_at}
use Rattle.flow_planner.specs.inner.Network.{AreFlows}
use Rattle.flow_planner.proofs.Arcs.{first_arc-le, first_arc_more}
use Rattle.flow_planner.proofs.Read.{flows_more}
use Rattle.flow_planner.proofs.flows.flows.Goals as goal

pub arc-requires : goal.arc-requires
arc-requires c =
    let graph = c.args.vertices.now in
    let le = first_arc-le graph c.loop-vertex.vertex-index (length graph) (omega arith) in
    let all = c.requires.arcs in
    let first = c.loop-vertex.invariant.first in
    let few = c.requires.place in
    omega (arith, c.args.network.now.arcs.ok.0)

pub loop-vertex-preserved : goal.loop-vertex-preserved
loop-vertex-preserved c =
    let graph = c.args.vertices.now in
    let arcs = c.args.network.now.arcs.items in
    let place = c.args.place in
    let i = c.loop-vertex.vertex-index in
    let same = get_or_read graph i c.vertex-item.result (omega arith) c.vertex-item.is no_vertex in
    let m = ap (λ (v : Vertex). length v.parents) same in
    let count = c.len.ensures in
    let step = first_arc_more graph i in
    let first = c.loop-vertex.invariant.first in
    let at = ap (λ k. room_at arcs (k + place + 1)) first in
    let more = flows_more graph arcs place c.loop-vertex.amounts.items _ i c.loop-vertex.invariant.amounts (ap (λ (a : Arc). a.room) c.arc.ensures ∙ at) in
    record {
      amounts = subst (λ xs. AreFlows graph arcs place xs (i + 1)) (sym c.in_ok-push.ensures.items) more;
      first = omega arith;
    }
