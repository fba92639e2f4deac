use Rattle.std.specs.Prelude.{◌↔◌, IsSome, IsTrue}
use Rattle.std.proofs.Common.{Bool, subst, sym}
use Rattle.plan_keeper.specs.Apart.{AreApart}
use Rattle.plan_keeper.specs.declared.planned.Planned.{Planned}
use Rattle.run_plan.proofs.Apart.{flags_exactly}
use Rattle.run_plan.proofs.kept.KeptPlan.is_apart.Goals as goal

pub returns : goal.returns
returns c =
    let exactly = flags_exactly c.self.inside.made c.self.inside.needed c.self.invariant in
    subst (λ (b : Bool). IsTrue b ↔ AreApart c.args.self.now.graph) (sym c.is_some.ensures)
    (subst (λ (made : Planned). IsSome c.self.inside.needed ↔ AreApart made.graph) c.self.view_is exactly)
