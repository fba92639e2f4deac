use Rattle.std.proofs.Common.{sym, ap, ◌∙◌}
use Rattle.std.specs.List.{list_any}
use Rattle.std.specs.Str.{chars}
use Rattle.staging.specs.Reading.{has_falling}
use Rattle.staging.proofs.Scanned.{refused, falling, accepted}
use Rattle.staging.proofs.pattern.Pattern.read.Goals as goal

pub returns-in-Some-clause-err : goal.returns-in-Some-clause-err
returns-in-Some-clause-err c = refused (chars c.args.text.now) (chars c.body-body.result.now) c.in-Some.fault c.body-body.ensures (sym c.fault_of.ensures ∙ c.in-Some.is)

pub returns-then-has_falling-clause-err : goal.returns-then-has_falling-clause-err
returns-then-has_falling-clause-err c =
    falling (chars c.args.text.now) (chars c.body-body.result.now) c.in_ok-items.items c.body-body.ensures (sym c.fault_of.ensures ∙ c.in_default.is) c.in_ok-items.ensures
    (ap (list_any has_falling) (sym c.as_slice.ensures) ∙ sym c.has_falling.ensures ∙ c.if-has_falling.true)

pub returns-clause-ok : goal.returns-clause-ok
returns-clause-ok c =
    accepted (chars c.args.text.now) (chars c.body-body.result.now) c.in_ok-items.items c.body-body.ensures (sym c.fault_of.ensures ∙ c.in_default.is) c.in_ok-items.ensures
    (ap (list_any has_falling) (sym c.as_slice.ensures) ∙ sym c.has_falling.ensures ∙ c.if-has_falling.false)
