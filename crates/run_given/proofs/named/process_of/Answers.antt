use Rattle.program_words.specs.RunWords.{wish_of_run}
use Rattle.run_given.proofs.Stops.{hinted_process, named_process, no_named_process}
use Rattle.run_given.proofs.named.process_of.Goals as goal

pub returns-clause-ok : goal.returns-clause-ok
returns-clause-ok g c =
    named_process c.args.call.now.here.now (wish_of_run c.args.call.now.words.now) _ _ _ _
    c.in_ok-document.ensures.ok c.in_ok-base.ensures.ok c.process_at.ensures.ok

pub returns-clause-hints : goal.returns-clause-hints
returns-clause-hints g c =
    hinted_process c.args.call.now.here.now (wish_of_run c.args.call.now.words.now) _ _ _ _
    c.in_ok-document.ensures.ok c.in_ok-base.ensures.ok c.process_at.ensures.ok

pub returns-clause-err : goal.returns-clause-err
returns-clause-err g c =
    no_named_process c.args.call.now.here.now (wish_of_run c.args.call.now.words.now) _ _ _
    c.in_ok-document.ensures.ok c.in_ok-base.ensures.ok c.process_at.ensures.err
