use Rattle.staging.specs.inner.Scans.{inside_of}
use Rattle.staging.proofs.Scanned.{ranges_end}
use Rattle.staging.proofs.bracket.ranges.Goals as goal

pub returns : goal.returns
returns c = ranges_end (inside_of c.args.inside) (inside_of c.loop-range.rest) c.loop-range.ranges c.loop-range.invariant c.in_default.ensures.exact
