use Rattle.std.proofs.Common.{◌≡◌, ◌∙◌, ◌+◌, ◌<◌, ℕ, ap, arith, subst}
use Rattle.std.specs.Prelude.{min}
use Rattle.plan_checker.specs.declared.graph.TheConstants.{MOST_COST}
use Rattle.run_plan.specs.Costs.{LoadRates, cost_to_load}
use Rattle.run_plan.proofs.RoundedUp.{rounded_is}
use Rattle.run_plan.proofs.costs.Rates.cost.Goals as goal

pub returns-clause-cost : goal.returns-clause-cost
returns-clause-cost c =
    let some : 0 < c.self.inside.rate = omega (arith, c.self.invariant.least_rate) in
    subst (λ (rates : LoadRates). c.load_cost.result ≡ cost_to_load rates c.args.bytes) c.self.view_is
    (c.load_cost.ensures.held
    ∙ ap (λ (quotient : ℕ). min (c.self.inside.base + quotient) MOST_COST)
    (rounded_is c.args.bytes c.self.inside.rate c.load_cost.ensures.quotient some c.load_cost.ensures.rounded))
