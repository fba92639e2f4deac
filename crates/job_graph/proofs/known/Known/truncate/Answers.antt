use Rattle.job_graph.specs.inner.Index.{at_known}
use Rattle.job_graph.proofs.Index.{cut_apart, cut_indexed}
use Rattle.job_graph.proofs.known.Known.truncate.Goals as goal

pub invariant_of-self : goal.invariant_of-self
invariant_of-self c = rw c.truncate.ensures.items (cut_indexed at_known c.self.inside.firsts c.self.inside.list.items c.args.count c.self.invariant.0, cut_apart c.self.inside.list.items c.args.count c.self.invariant.1)
