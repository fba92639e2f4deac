use Rattle.std.proofs.Common.{ℕ, get_or, arith}
use Rattle.std.proofs.lemmas.List.{get_or_read, length-take-le}
use Rattle.plan_words.proofs.Counts.{counted_fits}
use Rattle.plan_words.proofs.readers.count_each.Goals as goal

pub overflow_add-index_mut : goal.overflow_add-index_mut
overflow_add-index_mut c =
    let i = c.loop-job.job-index in
    let p : ℕ = get_or c.args.jobs.now i 0 in
    let inside = c.requires.there i 0 c.loop-job-test.true in
    let count = c.loop-job.invariant.one_each in
    let read = get_or_read c.loop-job.counts.items p c.index_mut.result.now (omega arith) c.index_mut.ensures.value 0 in
    let fits = counted_fits c.args.counts.now.items c.loop-job.counts.items c.args.jobs.now i p c.loop-job-test.true (c.loop-job.invariant.counted p inside) (c.requires.room p inside) (length-take-le i c.args.jobs.now (omega arith)) in
    omega arith
