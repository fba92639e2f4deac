use Rattle.plan_checker.proofs.ReadBack.{one_first}
use Rattle.plan_checker.proofs.laws.one_bad_line_is_first.Goals as goal

pub returns : goal.returns
returns c = one_first
