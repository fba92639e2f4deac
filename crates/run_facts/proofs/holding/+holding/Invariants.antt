use Rattle.std.proofs.Common.{◌≡◌, drop}
use Rattle.run_facts.specs.Holding as spec
use Rattle.run_facts.proofs.holding.+holding.Given as goal

abbrev pub invariant-some_hold-loop-member : goal.invariant-some_hold-loop-member
invariant-some_hold-loop-member l = spec.some_hold (drop l.member-index l.fn.members) ≡ spec.some_hold l.fn.members
