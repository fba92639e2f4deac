use Rattle.std.proofs.Common.{◌≡◌, drop}
use Rattle.plain_data.specs.ByName.{value_at}
use Rattle.job_graph.proofs.links.out_under.Given as goal

abbrev pub invariant-loop-out : goal.invariant-loop-out
invariant-loop-out l = value_at l.name l.outs ≡ value_at l.name (drop l.out-index l.outs)
