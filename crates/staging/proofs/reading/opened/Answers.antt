use Rattle.std.proofs.Common.{◌≡◌, false}
use Rattle.std.specs.Str.{chars}
use Rattle.staging.specs.Reading.{is_closed}
use Rattle.staging.specs.inner.Scans.{BracketThen}
use Rattle.staging.proofs.Scanned.{unclosed_item, bracket_item}
use Rattle.staging.proofs.Unclosed.{none_after, none_here}
use Rattle.staging.proofs.reading.opened.Goals as goal

pub returns-in-None-clause-exact : goal.returns-in-None-clause-exact
returns-in-None-clause-exact c =
    let unclosed : is_closed (chars c.args.text.now) ≡ false = rw c.in-None.is at c.in_ok-bracket.ensures.exact in
    unclosed_item (chars c.args.text.now) unclosed

pub returns-in-Some-clause-exact : goal.returns-in-Some-clause-exact
returns-in-Some-clause-exact c =
    let found : BracketThen (chars c.args.text.now) c.in-Some.bracket (chars c.in-Some.rest.now) = rw c.in-Some.is at c.in_ok-bracket.ensures.exact in
    bracket_item (chars c.args.text.now) (chars c.in-Some.rest.now) c.in-Some.bracket found

pub returns-then-unclosed-clause-exact : goal.returns-then-unclosed-clause-exact
returns-then-unclosed-clause-exact c = unclosed_item (chars c.args.text.now) (none_here (chars c.args.text.now) (c.requires c.if-unclosed.true))

pub returns-in-None-clause-unclosed : goal.returns-in-None-clause-unclosed
returns-in-None-clause-unclosed c = λ _.
    let unclosed : is_closed (chars c.args.text.now) ≡ false = rw c.in-None.is at c.in_ok-bracket.ensures.exact in
    none_after (chars c.args.text.now) unclosed
