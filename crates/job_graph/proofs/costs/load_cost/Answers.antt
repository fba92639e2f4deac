use Rattle.std.proofs.Common.{arith}
use Rattle.job_graph.proofs.Quotients.{is_load_cost}
use Rattle.job_graph.proofs.costs.load_cost.Goals as goal

pub returns : goal.returns
returns c = is_load_cost c.args.base c.args.rate c.args.bytes c.div_ceil.result c.min.result (omega arith) c.div_ceil.ensures (omega (arith, c.min.ensures, c.saturating_add.ensures))
