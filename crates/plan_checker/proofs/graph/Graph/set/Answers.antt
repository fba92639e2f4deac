use Rattle.std.proofs.Common.{ap, refl, arith, length}
use Rattle.plan_checker.proofs.GraphChanges.{kept_after_set}
use Rattle.plan_checker.proofs.graph.Graph.set.Goals as goal

-- src/graph.rt:84:5
pub invariant_of-self : goal.invariant_of-self
invariant_of-self c =
    let count = ap length c.self.view_is in
    let there = c.requires.there in
    kept_after_set c.self.inside.vertices.items _ c.self.inside.entries c.args.number c.index_mut-job.result.now (record { load = c.args.load; compute = c.args.compute; parents = c.index_mut-job.result.now.parents; needed = c.args.needed }) c.self.invariant (omega arith) c.index_mut-job.ensures.value refl c.requires.load c.requires.compute
