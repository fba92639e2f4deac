use Rattle.program_words.specs.RunWords.{wish_of_run}
use Rattle.plan_call.proofs.Plans.{plan_without_folder, plan_without_given}
use Rattle.plan_call.proofs.plan.end_of_plan.Goals as goal

pub returns-in-Ok-clause-end : goal.returns-in-Ok-clause-end
returns-in-Ok-clause-end g c =
    plan_without_given c.as_str.result.now (wish_of_run c.args.words.now.run) c.args.words.now.dot c.args.path.now _ _ c.in-Err-ready_of.ensures.err
    c.stopped_call.ensures.exit c.stopped_call.ensures.left

pub returns-clause-end : goal.returns-clause-end
returns-clause-end g c =
    plan_without_folder (wish_of_run c.args.words.now.run) c.args.words.now.dot c.args.path.now _ c.without_folder.ensures.exit c.without_folder.ensures.left
