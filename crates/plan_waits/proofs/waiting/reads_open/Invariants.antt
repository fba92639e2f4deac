use Rattle.std.proofs.Common.{◌≡◌, drop}
use Rattle.std.specs.List.{list_any}
use Rattle.plan_waits.specs.Waiting as spec
use Rattle.plan_waits.proofs.waiting.reads_open.Given as goal

abbrev pub invariant-loop-number : goal.invariant-loop-number
invariant-loop-number l = list_any (spec.open_at l.flags) (drop l.number-index l.reads) ≡ list_any (spec.open_at l.flags) l.reads
