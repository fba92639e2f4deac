use Rattle.std.proofs.Common.{◌≡◌, ◌<◌, ◌≤◌, ◌+◌, ℕ, true}
use Rattle.run_core.specs.inner.JobStates.{is_there}
use Rattle.run_core.proofs.planning.some_are_away.Given as goal

abbrev pub invariant-loop-back : goal.invariant-loop-back
invariant-loop-back l = (n : ℕ) → n < l.count → l.count ≤ n + l.back → is_there l.course.jobs n ≡ true
