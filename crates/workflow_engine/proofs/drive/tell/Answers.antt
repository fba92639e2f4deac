use Rattle.std.proofs.Common.{Result, sym, subst}
use Rattle.std.specs.declared.alloc.AllocError.{AllocError}
use Rattle.run_rules.specs.declared.request.Answer.{Answer}
use Rattle.run_core.specs.Core.{answers}
use Rattle.workflow_engine.specs.inner.Told.{IsTold, MayBeTold}
use Rattle.workflow_engine.proofs.Telling.{took_told}
use Rattle.workflow_engine.proofs.drive.tell.Goals as goal

pub take-requires : goal.take-requires
take-requires c =
    answers (subst (λ (told : Result Answer AllocError). MayBeTold c.args.core.now told) c.in-Ok.is c.requires).answers

pub returns-in-Ok-clause-told : goal.returns-in-Ok-clause-told
returns-in-Ok-clause-told c =
    subst (λ (told : Result Answer AllocError). IsTold c.args.core.now told c.take.new.self) (sym c.in-Ok.is)
    (took_told c.args.core.now c.in-Ok.answer c.take.result c.take.new.self (c.take.ensures.took
    (subst (λ (told : Result Answer AllocError). MayBeTold c.args.core.now told) c.in-Ok.is c.requires).answers))
