use Rattle.staging.specs.inner.Scans.{inside_of}
use Rattle.staging.proofs.Scanned.{RangesSoFar}
use Rattle.staging.proofs.bracket.ranges.Given as goal

abbrev pub invariant-loop-range : goal.invariant-loop-range
invariant-loop-range l = RangesSoFar (inside_of l.fn.inside) l.ranges (inside_of l.rest)

abbrev pub decreases-loop-range : goal.decreases-loop-range
decreases-loop-range l = l.rest.left
