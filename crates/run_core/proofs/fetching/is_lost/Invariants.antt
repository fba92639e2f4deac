use Rattle.std.proofs.Common.{◌≡◌, drop}
use Rattle.run_core.specs.inner.Course.{is_lost_in}
use Rattle.run_core.proofs.fetching.is_lost.Given as goal

abbrev pub invariant-loop-other : goal.invariant-loop-other
invariant-loop-other l = is_lost_in l.lost l.key ≡ is_lost_in (drop l.other-index l.lost) l.key
