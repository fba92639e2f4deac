use Rattle.std.proofs.Common.{◌≡◌, take}
use Rattle.job_graph.specs.Jobs.{unknown}
use Rattle.job_graph.proofs.walk.unknown.Given as goal

abbrev pub invariant-loop-name : goal.invariant-loop-name
invariant-loop-name l = l.outs ≡ unknown (take l.name-index l.names)
