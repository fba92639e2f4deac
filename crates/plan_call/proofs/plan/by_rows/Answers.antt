use Rattle.program_words.specs.RunWords.{wish_of_run}
use Rattle.plan_call.proofs.Plans.{plans_so}
use Rattle.plan_call.proofs.plan.by_rows.Goals as goal

pub returns-clause-end : goal.returns-clause-end
returns-clause-end g c =
    plans_so c.args.call.now.here.now (wish_of_run c.args.call.now.words.now) c.args.dot c.args.call.now.path.now c.args.given.now c.in_ok-options.options _
    c.requires.one c.requires.ready c.in_ok-options.ensures.asked c.with_machine.ensures.exit
