use Rattle.plan_checker.proofs.Numbers.{no_numbers, behind_number, number_read, number_before}
use Rattle.plan_checker.proofs.row.read_costs.Goals as goal

pub returns-in_err-compute : goal.returns-in_err-compute
returns-in_err-compute c = rw c.from_residual.ensures (λ costs rest read. no_numbers _ _ _ _ c.in_err-compute.ensures read)

pub returns-in_err-enter : goal.returns-in_err-enter
returns-in_err-enter c =
    rw c.from_residual-in_err-enter.ensures
    (λ costs rest read. no_numbers _ _ _ _ c.in_err-enter.ensures (behind_number _ _ _ _ _ _ c.in_ok-compute.ensures read))

pub returns-in_err-through : goal.returns-in_err-through
returns-in_err-through c =
    rw c.from_residual-in_err-through.ensures
    (λ costs rest read. no_numbers _ _ _ _ c.in_err-through.ensures
    (behind_number _ _ _ _ _ _ c.in_ok-enter.ensures (behind_number _ _ _ _ _ _ c.in_ok-compute.ensures read)))

pub returns-in_err-pay : goal.returns-in_err-pay
returns-in_err-pay c =
    rw c.from_residual-in_err-pay.ensures
    (λ costs rest read. no_numbers _ _ _ _ c.in_err-pay.ensures
    (behind_number _ _ _ _ _ _ c.in_ok-through.ensures
    (behind_number _ _ _ _ _ _ c.in_ok-enter.ensures (behind_number _ _ _ _ _ _ c.in_ok-compute.ensures read))))

pub returns-in_err-parents : goal.returns-in_err-parents
returns-in_err-parents c =
    rw c.from_residual-in_err-parents.ensures
    (λ costs rest read. no_numbers _ _ _ _ c.in_err-parents.ensures
    (behind_number _ _ _ _ _ _ c.in_ok-pay.ensures
    (behind_number _ _ _ _ _ _ c.in_ok-through.ensures
    (behind_number _ _ _ _ _ _ c.in_ok-enter.ensures (behind_number _ _ _ _ _ _ c.in_ok-compute.ensures read)))))

pub returns : goal.returns
returns c =
    number_before _ _ _ _ _ c.in_ok-compute.ensures
    (number_before _ _ _ _ _ c.in_ok-enter.ensures
    (number_before _ _ _ _ _ c.in_ok-through.ensures
    (number_before _ _ _ _ _ c.in_ok-pay.ensures (number_read _ _ _ c.in_ok-parents.ensures))))
