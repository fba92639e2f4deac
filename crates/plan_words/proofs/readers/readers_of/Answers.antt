use Rattle.std.proofs.Common.{length, ap, arith}
use Rattle.plan_words.proofs.Counts.{readers_fit}
use Rattle.plan_words.proofs.readers.readers_of.Goals as goal

pub count_if-requires-clause-room : goal.count_if-requires-clause-room
count_if-requires-clause-room c = λ p h.
    let size = ap length c.vertices-count.ensures.list in
    let count = c.loop-number.invariant.one_each in
    let was = c.loop-number.invariant.counted p (omega arith) in
    let fits = readers_fit c.args.graph.now c.args.plan.now.marks c.args.mark c.loop-number.number p c.vertices-count.ensures.within (omega arith) in
    let parents = ap length c.parents_at.ensures.value in
    omega arith
