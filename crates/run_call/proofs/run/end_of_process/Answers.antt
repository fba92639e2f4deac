use Rattle.program_words.specs.RunWords.{wish_of_run}
use Rattle.run_call.proofs.Runs.{without_folder, without_given}
use Rattle.run_call.proofs.run.end_of_process.Goals as goal

pub returns-in-Ok-clause-end : goal.returns-in-Ok-clause-end
returns-in-Ok-clause-end g c =
    without_given g.R.Records g.R.Kept.Record c.args.rt.now c.as_str.result.now (wish_of_run c.args.words.now) c.args.path.now _ _ c.in-Err-ready_of.ensures.err
    c.stopped_call.ensures.exit c.stopped_call.ensures.left

pub returns-clause-end : goal.returns-clause-end
returns-clause-end g c =
    without_folder g.R.Records g.R.Kept.Record c.args.rt.now (wish_of_run c.args.words.now) c.args.path.now _ c.without_folder.ensures.exit c.without_folder.ensures.left
