use Rattle.std.proofs.Common.{◌∙◌, sym, subst}
use Rattle.run_core.specs.inner.Turns.{PutsNext, no_turn, its_turn}
use Rattle.run_core.proofs.turns.put_next.Goals as goal

pub returns-in-None : goal.returns-in-None
returns-in-None g c =
    subst (λ left. PutsNext c.args.left.now c.args.found.now c.args.value left c.args.found.now) (c.in-None.ensures.0 ∙ sym c.in-None.ensures.1) (no_turn c.in-None.ensures.0)

pub returns-in_ok-insert-in-Some : goal.returns-in_ok-insert-in-Some
returns-in_ok-insert-in-Some g c =
    subst (λ found. PutsNext c.args.left.now c.args.found.now c.args.value c.pop.new.self found) (sym c.in_ok-insert-in-Some.ensures.new)
    (its_turn c.pop.new.self c.in-Some.name c.in-Some.ensures)
