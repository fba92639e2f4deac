use Rattle.std.specs.Str.{chars}
use Rattle.staging.specs.inner.Scans.{MembersThen}
use Rattle.staging.proofs.Scanned.{negated_then, listed_then}
use Rattle.staging.proofs.bracket.bracket.Goals as goal

pub returns-in-Some-2-clause-exact : goal.returns-in-Some-2-clause-exact
returns-in-Some-2-clause-exact c =
    let found : MembersThen (chars c.in-Some.listed.now) c.in-Some-2.ranges (chars c.in-Some-2.rest.now) = rw c.in-Some-2.is at c.in_ok-members.ensures.exact in
    negated_then (chars c.args.text.now) (chars c.in-Some.listed.now) (chars c.in-Some-2.rest.now) c.in-Some-2.ranges c.in-Some.ensures.exact found

pub returns-in-Some-3-clause-exact : goal.returns-in-Some-3-clause-exact
returns-in-Some-3-clause-exact c =
    let found : MembersThen (chars c.args.text.now) c.in-Some-3.ranges (chars c.in-Some-3.rest.now) = rw c.in-Some-3.is at c.in_ok-members-2.ensures.exact in
    listed_then (chars c.args.text.now) (chars c.in-Some-3.rest.now) c.in-Some-3.ranges c.in_default.ensures.exact found
