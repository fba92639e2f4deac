use Rattle.program_words.specs.RunWords.{wish_of_run}
use Rattle.run_call.proofs.Runs.{leaves_so}
use Rattle.run_call.proofs.on_machine.on_machine.Goals as goal

pub returns-clause-end : goal.returns-clause-end
returns-clause-end g c =
    leaves_so c.args.call.now.here.now (wish_of_run c.args.call.now.words.now) c.args.call.now.path.now c.args.given.now c.in_ok-options.options _ _ _ _ _
    c.requires.ready c.in_ok-options.ensures.asked c.in_ok-end.ensures.exit c.requires.named.work c.leaving.ensures.exit c.leaving.ensures.left
