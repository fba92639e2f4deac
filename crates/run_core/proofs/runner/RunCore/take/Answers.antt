use Rattle.std.proofs.Common.{◌∙◌, sym, subst}
use Rattle.run_rules.specs.Answers.{MayAnswer}
use Rattle.run_core.specs.Machine.{Machine}
use Rattle.run_core.proofs.standing.Ready.{never_told}
use Rattle.run_core.proofs.runner.RunCore.take.Goals as goal

pub returns-in-Err-clause-took : goal.returns-in-Err-clause-took
returns-in-Err-clause-took c = λ may.
    absurd (never_told c.self.inside c.args.answer c.self.invariant
    (subst (λ (core : Machine). MayAnswer core.flying core.asks c.args.answer) (sym c.self.view_is) may) c.in-Err.fault (sym c.told_of.ensures ∙ c.in-Err.is))
