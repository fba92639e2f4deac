use Rattle.std.proofs.lemmas.Result.{IfOk-weaker}
use Rattle.record_call.specs.Listed.{lists}
use Rattle.record_call.proofs.record_exit.listed.Goals as goal

pub returns-in-Ok : goal.returns-in-Ok
returns-in-Ok g c = IfOk-weaker c.long_ending.result _ _ (λ ending is. lists c.in-Ok.listing c.in-Ok.ensures.whose is) c.long_ending.ensures
