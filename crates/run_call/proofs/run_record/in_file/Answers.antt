use Rattle.program_words.specs.RunWords.{wish_of_run}
use Rattle.run_call.specs.Runs.{IsEndOfRun}
use Rattle.run_call.proofs.Runs.{like_so, over_file, without_record}
use Rattle.run_call.proofs.run_record.in_file.Goals as goal

pub returns-in-Ok-clause-end : goal.returns-in-Ok-clause-end
returns-in-Ok-clause-end g c =
    let words = wish_of_run c.args.call.now.words.now in
    like_so (IsEndOfRun g.R.Records g.R.Kept.Record c.args.rt.now words c.args.call.now.path.now) _ _ c.kept_unless.ensures
    (over_file g.R.Records g.R.Kept.Record c.args.rt.now words c.args.call.now.path.now c.args.file.now _ _ _ _ _
    c.requires.one c.requires.file c.budget_of.ensures c.in-Ok.ensures.opened c.in-Ok.ensures.unasked c.on_disk-end.ensures.end c.close_record.ensures)

pub returns-clause-end : goal.returns-clause-end
returns-clause-end g c =
    without_record g.R.Records g.R.Kept.Record c.args.rt.now c.args.call.now.here.now (wish_of_run c.args.call.now.words.now) c.args.call.now.path.now c.args.given.now _ _ _
    c.requires.one c.requires.ready c.requires.file c.without_record.ensures.exit c.without_record.ensures.left
