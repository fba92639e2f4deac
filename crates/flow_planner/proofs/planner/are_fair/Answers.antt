use Rattle.std.proofs.Common.{Bool, sym, subst}
use Rattle.std.specs.Prelude.{Result, IsTrue, IfOk}
use Rattle.std.specs.declared.alloc.AllocError.{AllocError}
use Rattle.plan_checker.specs.Charges.{AreFair}
use Rattle.plan_checker.specs.Broken.{IsFirstBroken}
use Rattle.flow_planner.proofs.Begin.{fair_unless_broken}
use Rattle.flow_planner.proofs.planner.are_fair.Goals as goal
use Rattle.flow_planner.proofs.planner.are_fair.Goals.{in-Sum, in_default}

pub returns : goal.returns
returns c =
    let graph = c.args.graph.now in
    let charges = c.args.charges.now in
    let P : Result Bool AllocError → Type 0 = λ r. IfOk r (λ fair. IsTrue fair → AreFair graph charges) in
    elim c.match-matches.branch [
      | in-Sum w ↦ subst P (sym w.result-is) (λ h. fair_unless_broken graph _ charges _ _ (subst (IsFirstBroken graph _ charges) w.in-Sum.is c.in-Err.ensures.broken))
      | in_default w ↦ subst P (sym w.result-is) (λ h. cc)
    ]
