use Rattle.run_rules.specs.Answers.{by_host}
use Rattle.workflow_engine.proofs.looks.measure.Goals as goal

pub returns-in-Ok-clause-answers : goal.returns-in-Ok-clause-answers
returns-in-Ok-clause-answers g c = by_host c.args.place.now c.args.request.now c.in-Ok.answer c.in-Ok.ensures.answers
