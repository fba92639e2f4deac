use Rattle.std.proofs.Common.{arith}
use Rattle.job_graph.proofs.Once.{counted_from, none_counted}
use Rattle.job_graph.proofs.tuple.+count_of.Goals as goal

pub returns-in-empty : goal.returns-in-empty
returns-in-empty t c = λ few. none_counted c.args.lengths.now (omega (arith, c.in-empty.len_below))

pub returns-in-len1-up : goal.returns-in-len1-up
returns-in-len1-up t c =
    counted_from c.args.lengths.now c.count_of.result c.saturating_mul.result (omega (arith, c.in-len1-up.len_at_least)) c.count_of.ensures c.saturating_mul.ensures
