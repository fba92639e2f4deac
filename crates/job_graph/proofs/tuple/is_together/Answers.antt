use Rattle.std.proofs.Common.{◌≡◌, ◌∙◌, arith, ap, length, replicate, slice_index_or}
use Rattle.job_graph.proofs.Once.{has_together}
use Rattle.job_graph.proofs.tuple.is_together.Goals as goal

pub returns-then-are_all : goal.returns-then-are_all
returns-then-are_all c = λ equal.
    let long : length c.args.tuple.now ≡ length c.args.lengths.now = omega arith in
    has_together c.args.lengths.now c.args.tuple.now (slice_index_or c.args.tuple.now 0 0) (c.are_all.ensures c.if-are_all.true) (omega arith) (omega arith)
    (c.are_all-then-are_all.ensures equal ∙ ap (λ n. replicate n (slice_index_or c.args.tuple.now 0 0)) long)
