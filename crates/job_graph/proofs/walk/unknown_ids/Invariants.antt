use Rattle.std.proofs.Common.{◌≡◌, take}
use Rattle.std.specs.Map.{keys_of}
use Rattle.job_graph.specs.Jobs.{unknown}
use Rattle.job_graph.proofs.walk.unknown_ids.Given as goal

abbrev pub invariant-loop-entry : goal.invariant-loop-entry
invariant-loop-entry g l = l.outs ≡ unknown (keys_of (take l.entry-index l.entry-items))
