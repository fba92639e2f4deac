use Rattle.plan_keeper.proofs.Alone.{apart_is_planned}
use Rattle.plan_keeper.proofs.laws.kept_is_planned.Goals as goal

pub returns : goal.returns
returns c = λ planned kept. apart_is_planned planned.graph planned.plan.marks planned.charges kept.good kept.apart kept.marked kept.charged
