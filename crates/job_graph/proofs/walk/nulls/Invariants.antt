use Rattle.std.proofs.Common.{◌≡◌, take}
use Rattle.job_graph.specs.Equations.{skipped}
use Rattle.job_graph.proofs.walk.nulls.Given as goal

abbrev pub invariant-loop-name : goal.invariant-loop-name
invariant-loop-name l = l.outs ≡ (skipped (take l.name-index l.names)).outs
