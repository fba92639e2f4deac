use Rattle.std.proofs.Common.{◌∙◌, sym, ap, subst}
use Rattle.run_rules.specs.Blame.{Rise, given_tickets}
use Rattle.run_rules.specs.Reports.{entries_of}
use Rattle.run_core.specs.Machine.{Machine}
use Rattle.run_core.proofs.runner.RunCore.in_flight.Goals as goal

pub returns-clause-rising : goal.returns-clause-rising
returns-clause-rising c = λ asks rise.
    subst Rise (sym c.as_slice.ensures.value)
    ((c.self.invariant.started (λ finished. asks (ap (λ (core : Machine). core.asks) (sym c.self.view_is) ∙ finished))).rising
    (subst (λ (core : Machine). Rise (given_tickets (entries_of core.transcript))) (sym c.self.view_is) rise))
