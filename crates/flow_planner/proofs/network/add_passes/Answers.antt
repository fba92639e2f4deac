use Rattle.std.proofs.Common.{◌+◌, ◌<◌, length, get_or, refl, ap, ◌∙◌, arith}
use Rattle.std.proofs.lemmas.List.{get_or_default}
use Rattle.plan_checker.specs.declared.vertex.Vertex.{Vertex}
use Rattle.plan_checker.specs.Graph.{vertex, no_vertex}
use Rattle.flow_planner.proofs.Bounds.{pass-le}
use Rattle.flow_planner.proofs.Laid.{laid_as, pass_laid, job_done, nodes_on}
use Rattle.flow_planner.proofs.network.add_passes.Goals as goal

pub lay-requires-clause-to : goal.lay-requires-clause-to
lay-requires-clause-to c =
    let graph = c.args.vertices.now in
    let job = c.args.job in
    let slot = c.loop-slot.slot in
    let parents = c.as_slice-parents.ensures ∙ ap (λ (v : Vertex). v.parents) (get_or_default graph job c.index-vertices-job.result no_vertex c.requires.job) in
    let parent_is = ap (λ xs. get_or xs slot 0) parents in
    let counted = ap length parents in
    let slot_test = c.loop-slot-test.true in
    let slot_in : slot < length (vertex graph job).parents = omega arith in
    let below = (c.requires.graph job c.requires.job).below slot 0 slot_in in
    let nodes = c.loop-slot.invariant.nodes.nodes in
    let in_range = c.requires.job in
    omega arith

pub lay-requires-clause-amount : goal.lay-requires-clause-amount
lay-requires-clause-amount c =
    let graph = c.args.vertices.now in
    let job = c.args.job in
    let slot = c.loop-slot.slot in
    let parents = c.as_slice-parents.ensures ∙ ap (λ (v : Vertex). v.parents) (get_or_default graph job c.index-vertices-job.result no_vertex c.requires.job) in
    let counted = ap length parents in
    let slot_test = c.loop-slot-test.true in
    let small = pass-le graph c.args.start.now c.requires.graph c.requires.flowing job slot c.requires.job (omega arith) in
    let amount = c.pass_at-amount.ensures in
    omega arith

pub loop-slot-preserved : goal.loop-slot-preserved
loop-slot-preserved c =
    let graph = c.args.vertices.now in
    let job = c.args.job in
    let slot = c.loop-slot.slot in
    let parents = c.as_slice-parents.ensures ∙ ap (λ (v : Vertex). v.parents) (get_or_default graph job c.index-vertices-job.result no_vertex c.requires.job) in
    let before = c.loop-slot.network in
    let after = c.lay.new.network in
    let made = c.in_ok-lay.ensures in
    let n = length graph in
    let laid = laid_as before.arcs.items after.arcs.items _ _ _ _ (n + job) (get_or (vertex graph job).parents slot 0) _ _ made.laid (omega arith) (ap (λ xs. get_or xs slot 0) parents) refl c.pass_at-amount.ensures in
    record {
      nodes = nodes_on n before after c.loop-slot.invariant.nodes made.network made.nodes made.source made.sink;
      part = pass_laid graph c.args.start.now job slot before.arcs.items after.arcs.items c.loop-slot.invariant.part laid;
    }

pub returns : goal.returns
returns c =
    let graph = c.args.vertices.now in
    let job = c.args.job in
    let parents = c.as_slice-parents.ensures ∙ ap (λ (v : Vertex). v.parents) (get_or_default graph job c.index-vertices-job.result no_vertex c.requires.job) in
    let counted = ap length parents in
    let past = c.loop-slot-test.false in
    let end = c.loop-slot.auto.slot-end in
    record {
      nodes = c.loop-slot.invariant.nodes;
      carries = job_done graph c.args.start.now job c.loop-slot.slot c.loop-slot.network.arcs.items c.loop-slot.invariant.part (omega arith);
    }
