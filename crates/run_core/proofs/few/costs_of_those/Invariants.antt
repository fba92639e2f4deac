use Rattle.std.proofs.Common.{◌≡◌, ℕ, map, take}
use Rattle.run_core.specs.inner.Course.{past_of}
use Rattle.run_core.specs.inner.Planning.{costs_at}
use Rattle.run_core.proofs.few.costs_of_those.Given as goal

abbrev pub invariant-loop-number : goal.invariant-loop-number
invariant-loop-number l = l.costs.items ≡ map (λ (n : ℕ). (n, costs_at l.given (past_of l.course) n)) (take l.number-index l.numbers)
