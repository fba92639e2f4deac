use Rattle.std.proofs.Common.{slice_index_or, [], ◌∷◌, ◌++◌, slice_set}
use Rattle.std.proofs.Common.{arith, ap, ◌∙◌}
use Rattle.std.proofs.lemmas.List.{get_or_read}
use Rattle.plan_checker.proofs.ChildLists.{adds_one}
use Rattle.plan_checker.proofs.graph.add_child.Goals as goal

-- src/graph.rt:126:5
pub loop-place-preserved : goal.loop-place-preserved
loop-place-preserved c =
    let within = c.requires c.loop-place.place 0 (omega arith) in
    let count = c.loop-place.invariant.one_each in
    adds_one c.args.children.now.items c.loop-place.children.items _ c.args.vertex c.args.parents.now c.loop-place.place (omega arith) (omega arith) c.loop-place.invariant
    (ap (slice_set c.loop-place.children.items (slice_index_or c.args.parents.now c.loop-place.place 0))
    (c.in_ok-push.ensures.ok ∙ ap (λ list. list ++ record { vertex = c.args.vertex; place = c.loop-place.place } ∷ []) (get_or_read c.loop-place.children.items _ _ (omega arith) c.index_mut.ensures.value [])))
