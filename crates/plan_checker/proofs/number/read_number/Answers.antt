use Rattle.plan_checker.proofs.ReadNumbers.{no_space, no_digits}
use Rattle.plan_checker.proofs.number.read_number.Goals as goal

pub returns-in_default : goal.returns-in_default
returns-in_default c = no_space c.args.text.now c.as_slice.result.now c.as_slice.ensures c.in_default.ensures

pub returns-in_default-number_of : goal.returns-in_default-number_of
returns-in_default-number_of c =
    no_digits c.args.text.now c.as_slice.result.now _ _ _ c.as_slice.ensures c.in-Some.ensures c.split_digits.ensures.parts c.split_digits.ensures.digits c.split_digits.ensures.ends c.in_default-number_of.ensures
