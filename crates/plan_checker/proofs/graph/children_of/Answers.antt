use Rattle.std.proofs.Common.{ap, ◌∙◌}
use Rattle.std.proofs.lemmas.List.{get_or_read}
use Rattle.plan_checker.specs.Graph.{no_vertex}
use Rattle.plan_checker.proofs.ChildLists.{one_more_child, same_parents}
use Rattle.plan_checker.proofs.graph.children_of.Goals as goal

-- src/graph.rt:111:5
pub loop-vertex-preserved : goal.loop-vertex-preserved
loop-vertex-preserved c =
    let job = get_or_read c.args.vertices.now _ _ c.loop-vertex-test.true c.index-vertices-vertex.is no_vertex in
    one_more_child c.args.vertices.now c.loop-vertex.children.items c.add_child.new.children.items c.loop-vertex.vertex c.loop-vertex-test.true c.loop-vertex.invariant
    (same_parents _ _ _ _ _ (c.as_slice.ensures ∙ ap (λ job. job.parents) job) c.in_ok-add_child.ensures)
