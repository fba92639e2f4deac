use Rattle.program_words.specs.RunWords.{wish_of_run}
use Rattle.plan_call.proofs.Plans.{plan_without_record}
use Rattle.plan_call.proofs.plan.in_file.Goals as goal

pub returns-clause-end : goal.returns-clause-end
returns-clause-end g c =
    plan_without_record c.args.call.now.here.now (wish_of_run c.args.call.now.words.now) c.args.dot c.args.call.now.path.now c.args.given.now _ _ _
    c.requires.one c.requires.ready c.requires.file c.without_record.ensures.exit c.without_record.ensures.left
