use Rattle.std.proofs.Common.{refl}
use Rattle.run_core.specs.inner.Discards.{discards_one, none_left}
use Rattle.run_core.proofs.Lists.{if_ok}
use Rattle.run_core.proofs.discarding.discard_next.Goals as goal

pub returns-in-None-clause-is : goal.returns-in-None-clause-is
returns-in-None-clause-is c = if_ok c.pick.result (λ turn picked. none_left c.in-None.ensures.0 picked) c.pick.ensures.is

pub returns-in-Some-clause-is : goal.returns-in-Some-clause-is
returns-in-Some-clause-is c = if_ok c.discard_one.result (λ turn is. discards_one c.pop.new.self c.in-Some.key c.in-Some.ensures is refl refl) c.discard_one.ensures
