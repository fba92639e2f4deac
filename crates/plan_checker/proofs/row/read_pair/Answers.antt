use Rattle.plan_checker.proofs.Numbers.{no_numbers, behind_number}
use Rattle.plan_checker.proofs.row.read_pair.Goals as goal

pub returns-in_err-amount : goal.returns-in_err-amount
returns-in_err-amount c =
    rw c.from_residual-in_err-amount.ensures
    (λ parent amount rest read. no_numbers _ _ _ _ c.in_err-amount.ensures (behind_number _ _ _ _ _ _ c.in_ok-parent.ensures read))
