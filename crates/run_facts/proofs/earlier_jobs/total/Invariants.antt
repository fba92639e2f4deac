use Rattle.std.proofs.Common.{◌≡◌, ◌-◌, ◌^◌, min, take}
use Rattle.std.specs.Prelude.{sum}
use Rattle.run_facts.proofs.earlier_jobs.total.Given as goal

abbrev pub invariant-loop-cost : goal.invariant-loop-cost
invariant-loop-cost l = l.total ≡ min (sum (take l.cost-index l.costs)) (2 ^ 64 - 1)
