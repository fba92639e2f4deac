use Rattle.std.proofs.Common.{◌≡◌, take}
use Rattle.std.specs.List.{flat_map}
use Rattle.plan_waits.specs.Waiting as spec
use Rattle.plan_waits.proofs.waiting.reads_of.Given as goal

abbrev pub invariant-loop-input : goal.invariant-loop-input
invariant-loop-input l = l.reads.items ≡ flat_map (spec.reads_by l.steps) (take l.input-index l.inputs)
