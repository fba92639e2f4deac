use Rattle.std.proofs.Common.{ne_eqb}
use Rattle.staging.proofs.Scanned.{range_then, single_range, no_range-end, no_range-last, no_range-other}
use Rattle.staging.specs.inner.Scans.{inside_of}
use Rattle.staging.proofs.bracket.first_range.Goals as goal
use Rattle.staging.proofs.bracket.first_range.Goals.{in-Some+then-hyphen-eq45+in_default-first_inside, in-Some+else-hyphen-eq45, in_default}

pub returns-in-Some-first_inside-clause-exact : goal.returns-in-Some-first_inside-clause-exact
returns-in-Some-first_inside-clause-exact c =
    range_then (inside_of c.args.inside) (inside_of c.in_ok-low.rest) (inside_of c.in-Some.dashed) (inside_of c.in-Some-first_inside.rest) c.in_ok-low.low c.in-Some.hyphen c.in-Some-first_inside.high
    c.in_ok-low.ensures.exact
    c.in-Some.ensures.exact
    c.if-hyphen-eq45.true
    c.in-Some-first_inside.ensures.exact

pub returns-clause-exact : goal.returns-clause-exact
returns-clause-exact c =
    single_range (inside_of c.args.inside) (inside_of c.in_ok-low.rest) c.in_ok-low.low c.in_ok-low.ensures.exact
    (elim c.match-first_inside.branch [
      | in-Some+then-hyphen-eq45+in_default-first_inside w ↦ no_range-last (inside_of c.in_ok-low.rest) (inside_of w.in-Some.dashed) w.in-Some.hyphen w.in-Some.ensures.exact w.in_default-first_inside.ensures.exact
      | in-Some+else-hyphen-eq45 w ↦ no_range-other (inside_of c.in_ok-low.rest) (inside_of w.in-Some.dashed) w.in-Some.hyphen w.in-Some.ensures.exact (ne_eqb w.in-Some.hyphen 45 w.if-hyphen-eq45.false)
      | in_default w ↦ no_range-end (inside_of c.in_ok-low.rest) w.in_default.ensures.exact
    ])
