use Rattle.std.proofs.Common.{◌∙◌, sym, ap, subst}
use Rattle.run_core.specs.Core.{GaveUp}
use Rattle.run_core.specs.Machine.{Machine}
use Rattle.run_core.specs.inner.Inside.{seen}
use Rattle.run_core.proofs.standing.GivenUp.{gave_up}
use Rattle.run_core.proofs.standing.Took.{core_with}
use Rattle.run_core.proofs.runner.RunCore.give_up.Goals as goal

pub invariant_of-self : goal.invariant_of-self
invariant_of-self c =
    (gave_up c.self.inside (λ ended. c.requires (ap (λ (core : Machine). core.asks) (sym c.self.view_is) ∙ ended)) c.self.invariant c.replace.new.dest c.told_of.result
    (c.replace.ensures.after ∙ c.given_up-next.ensures) c.told_of.ensures).0

pub returns : goal.returns
returns c =
    subst (λ (old : Machine). GaveUp old c.told_of.result (seen (core_with c.self.inside c.self.inside.pairs c.self.inside.course c.replace.new.dest))) c.self.view_is
    (gave_up c.self.inside (λ ended. c.requires (ap (λ (core : Machine). core.asks) (sym c.self.view_is) ∙ ended)) c.self.invariant c.replace.new.dest c.told_of.result
    (c.replace.ensures.after ∙ c.given_up-next.ensures) c.told_of.ensures).1
