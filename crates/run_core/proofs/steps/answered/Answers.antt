use Rattle.std.proofs.Common.{subst}
use Rattle.run_rules.specs.Answers.{MayAnswer}
use Rattle.run_rules.specs.declared.request.Answer.{Answer}
use Rattle.run_core.proofs.Asked.{at_record}
use Rattle.run_core.proofs.steps.answered.Goals as goal

pub told-requires-clause-ready : goal.told-requires-clause-ready
told-requires-clause-ready c =
    (at_record c.args.course.now.tickets.items c.args.course.now c.args.asks.now c.args.phase c.in-Record.answer
    (subst (λ (a : Answer). MayAnswer c.args.course.now.tickets.items c.args.asks.now a) c.in-Record.is c.requires.answers) c.requires.asks c.requires.ready).ready

pub told-requires-clause-waits : goal.told-requires-clause-waits
told-requires-clause-waits c =
    (at_record c.args.course.now.tickets.items c.args.course.now c.args.asks.now c.args.phase c.in-Record.answer
    (subst (λ (a : Answer). MayAnswer c.args.course.now.tickets.items c.args.asks.now a) c.in-Record.is c.requires.answers) c.requires.asks c.requires.ready).waits
