use Rattle.std.proofs.Common.{◌≡◌, ◌++◌, take}
use Rattle.std.specs.List.{flat_map}
use Rattle.plan_waits.specs.Waiting as spec
use Rattle.plan_waits.proofs.waiting.add_reads.Given as goal

abbrev pub invariant-loop-source : goal.invariant-loop-source
invariant-loop-source l = l.reads.items ≡ l.fn.reads.items ++ flat_map (spec.read_by l.steps) (take l.source-index l.sources)
