use Rattle.std.proofs.Common.{◌≡◌, drop}
use Rattle.std.specs.List.{list_all}
use Rattle.job_graph.specs.inner.OneTuple.{lacks, lacks_one}
use Rattle.job_graph.proofs.held.lacks.Given as goal

abbrev pub invariant-loop-name : goal.invariant-loop-name
invariant-loop-name l = list_all (lacks_one l.outs l.others) (drop l.name-index l.names) ≡ lacks l.names l.outs l.others
