use Rattle.std.proofs.Common.{◌≡◌, ◌∙◌, [], refl, sym, subst}
use Rattle.run_core.specs.declared.state.Turn.{Turn}
use Rattle.run_core.specs.inner.Picks.{Picks, drains}
use Rattle.run_core.proofs.Choices.{ends_now}
use Rattle.run_core.proofs.Lists.{counted, uncounted}
use Rattle.run_core.proofs.choice.settled.Goals as goal

pub returns-then-not-is_empty : goal.returns-then-not-is_empty
returns-then-not-is_empty c = λ given.
    subst (λ (turn : Turn). Picks given c.args.course.now turn c.args.course.now) (sym c.collecting.ensures)
    (drains c.args.course.now c.requires
    (uncounted c.args.course.now.tickets.items c.args.course.now.tickets.len c.args.course.now.tickets.ok.0 (sym c.is_empty.ensures ∙ c.if-not-is_empty.true))
    refl refl)

pub returns : goal.returns
returns c = λ given.
    let none : c.args.course.now.tickets.items ≡ [] =
    counted c.args.course.now.tickets.items c.args.course.now.tickets.len c.args.course.now.tickets.ok.0 (sym c.is_empty.ensures ∙ c.if-not-is_empty.false) in
    ends_now given c.args.course.now _ c.ended.result c.in-Some.end c.ended.ensures (sym c.replace.ensures.value ∙ c.in-Some.is) none none refl
    (record { notes = refl; planned = refl; plans = refl })
