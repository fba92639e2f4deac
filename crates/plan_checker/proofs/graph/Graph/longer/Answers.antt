use Rattle.std.proofs.Common.{arith}
use Rattle.plan_checker.proofs.GraphChanges.{fits_after, parents_within, kept_longer}
use Rattle.plan_checker.proofs.graph.Graph.longer.Goals as goal

-- src/graph.rt:122:23
pub overflow_add-entries : goal.overflow_add-entries
overflow_add-entries c =
    let few = (fits_after c.self.inside.vertices.items c.args.self c.args.vertex c.self.view_is c.requires).few_entries in
    let entries = c.self.invariant.2 in
    let parents = c.len.ensures in
    omega arith

-- src/graph.rt:125:9
pub add_child-requires : goal.add_child-requires
add_child-requires c =
    parents_within c.self.inside.vertices.items c.args.vertex c.self.inside.children.items c.push.new.self.items _ c.as_slice.result.now
    (fits_after c.self.inside.vertices.items c.args.self c.args.vertex c.self.view_is c.requires) c.self.invariant.1 c.in_ok-push.ensures.items c.as_slice.ensures

-- src/graph.rt:127:9
pub invariant_of-result : goal.invariant_of-result
invariant_of-result c =
    kept_longer c.self.inside.vertices.items c.args.self c.push-2.new.self.items c.args.vertex c.self.inside.children.items c.push.new.self.items c.add_child.new.children.items _ c.self.inside.entries c.len.result c.len-number.result c.as_slice.result.now c.self.view_is c.requires c.self.invariant (omega arith) c.len.ensures c.as_slice.ensures c.new.ensures c.in_ok-push.ensures.items c.in_ok-add_child.ensures c.in_ok-push-2.ensures.items
