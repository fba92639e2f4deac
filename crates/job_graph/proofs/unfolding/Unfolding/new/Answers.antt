use Rattle.std.proofs.Common.{[]}
use Rattle.job_graph.specs.Equations.{walker}
use Rattle.job_graph.proofs.Knowing.{knows_seen, stands_by}
use Rattle.job_graph.proofs.unfolding.Unfolding.new.Goals as goal

pub invariant_of-result : goal.invariant_of-result
invariant_of-result c = record {
  stands = stands_by (walker c.args.process.now c.args.inputs.now c.args.measures) [] c.in-Ok.progress c.in-Ok.ensures.ok;
  needed = tt;
}

pub returns-in-Ok-clause-ok : goal.returns-in-Ok-clause-ok
returns-in-Ok-clause-ok c = knows_seen (walker c.args.process.now c.args.inputs.now c.args.measures) [] c.in-Ok.progress c.in-Ok.ensures.ok c.in-Ok.ensures.fresh
