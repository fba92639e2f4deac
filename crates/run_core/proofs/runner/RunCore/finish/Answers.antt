use Rattle.std.proofs.Common.{◌∙◌, sym, ap, subst}
use Rattle.run_rules.specs.Reports.{Concludes}
use Rattle.run_core.specs.Machine.{Machine}
use Rattle.run_core.specs.inner.Inside.{setting_in}
use Rattle.run_core.proofs.ending.Concluding.{concludes, has_ended}
use Rattle.run_core.specs.inner.Asked.{pairs_in}
use Rattle.run_core.proofs.runner.RunCore.finish.Goals as goal

pub phase_outcome-requires : goal.phase_outcome-requires
phase_outcome-requires c = has_ended c.self.inside c.self.invariant (ap (λ (core : Machine). core.asks) c.self.view_is ∙ c.requires)

pub returns-clause-concluded : goal.returns-clause-concluded
returns-clause-concluded c =
    subst (λ (core : Machine). Concludes core.setting core.transcript c.reported.result) c.self.view_is
    (subst (Concludes (setting_in c.self.inside.given) (pairs_in c.self.inside.pairs)) (sym c.reported.ensures)
    (concludes c.self.inside c.an_honest_run_is_reported_rightly.ensures c.phase_outcome.result c.self.invariant c.phase_outcome.ensures))
