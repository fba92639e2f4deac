use Rattle.std.proofs.Common.{◌+◌, List, ℕ, length, sym, ap, ◌∙◌, subst, arith}
use Rattle.std.proofs.lemmas.List.{get_or_read}
use Rattle.plan_checker.specs.declared.vertex.Vertex.{Vertex}
use Rattle.plan_checker.specs.Graph.{no_vertex}
use Rattle.flow_planner.specs.Network.{first_arc}
use Rattle.flow_planner.specs.inner.Network.{IsRow, AreRows}
use Rattle.flow_planner.proofs.Arcs.{first_arc-le, first_arc_more}
use Rattle.flow_planner.proofs.Read.{rows_more}
use Rattle.flow_planner.proofs.flows.rows.Goals as goal

pub row-requires : goal.row-requires
row-requires c =
    let graph = c.args.vertices.now in
    let i = c.loop-vertex.vertex-index in
    let le = first_arc-le graph i (length graph) (omega arith) in
    let same = get_or_read graph i c.vertex-item.result (omega arith) c.vertex-item.is no_vertex in
    let m = ap (λ (v : Vertex). length v.parents) same in
    let count = c.len-parents.ensures in
    let all = c.requires.arcs in
    let first = c.loop-vertex.invariant.first in
    omega arith

pub loop-vertex-preserved : goal.loop-vertex-preserved
loop-vertex-preserved c =
    let graph = c.args.vertices.now in
    let arcs = c.args.network.now.arcs.items in
    let i = c.loop-vertex.vertex-index in
    let same = get_or_read graph i c.vertex-item.result (omega arith) c.vertex-item.is no_vertex in
    let m = c.len-parents.ensures ∙ ap (λ (v : Vertex). length v.parents) same in
    let step = first_arc_more graph i in
    let first = c.loop-vertex.invariant.first in
    let row = c.in_ok-row.ensures in
    let here = subst (λ k. IsRow arcs (first_arc graph i + 6) c.in_ok-row.field-0 k) m (subst (λ s. IsRow arcs (s + 6) c.in_ok-row.field-0 c.len-parents.result) first row) in
    let more = rows_more graph arcs c.loop-vertex.rows.items c.in_ok-row.field-0 i c.loop-vertex.invariant.rows here in
    record {
      rows = subst (λ xs. AreRows graph arcs xs (i + 1)) (sym {A = List (List ℕ)} c.in_ok-push.ensures.items) more;
      first = omega arith;
    }
