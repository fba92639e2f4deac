use Rattle.std.proofs.Common.{◌≡◌, length, arith}
use Rattle.std.proofs.lemmas.List.{get_or_read}
use Rattle.plan_checker.specs.Graph.{no_vertex}
use Rattle.plan_keeper.proofs.Marked.{all_marked, marked_at, marked_first, parents_marked}
use Rattle.plan_keeper.proofs.apart.marks_of.Goals as goal

pub loop-vertex-init : goal.loop-vertex-init
loop-vertex-init c = marked_first c.args.vertices.now c.in_ok-marks.marks.items c.in_ok-marks.ensures

pub load_parents-requires : goal.load_parents-requires
load_parents-requires c =
    parents_marked c.args.vertices.now c.loop-vertex.marks.items c.loop-vertex.vertex-index c.vertex-item.result
    c.requires c.loop-vertex-test.true (get_or_read c.args.vertices.now _ _ c.loop-vertex-test.true c.vertex-item.is no_vertex) c.loop-vertex.invariant.count

pub loop-vertex-preserved : goal.loop-vertex-preserved
loop-vertex-preserved c =
    marked_at c.args.vertices.now c.loop-vertex.marks.items c.load_parents.new.marks.items c.loop-vertex.vertex-index c.vertex-item.result
    (get_or_read c.args.vertices.now _ _ c.loop-vertex-test.true c.vertex-item.is no_vertex) c.loop-vertex.invariant c.load_parents.ensures

pub returns : goal.returns
returns c =
    let most = c.loop-vertex.auto.vertex-index-end in
    let least = c.loop-vertex-test.false in
    let end : c.loop-vertex.vertex-index ≡ length c.args.vertices.now = omega arith in
    all_marked c.args.vertices.now c.loop-vertex.marks.items c.loop-vertex.vertex-index end c.loop-vertex.invariant
