use Rattle.program_words.specs.RunWords.{wish_of_run}
use Rattle.run_call.specs.Runs.{IsRunExit}
use Rattle.run_call.proofs.Runs.{like_so, without_outdir, without_work}
use Rattle.run_call.proofs.folders.on_disk.Goals as goal

pub returns-in-Err-clause-end : goal.returns-in-Err-clause-end
returns-in-Err-clause-end g c =
    without_work c.args.call.now.here.now (wish_of_run c.args.call.now.words.now) c.args.call.now.path.now c.args.given.now _ _ _
    c.requires c.in_ok-places.ensures.work c.without_work-end.ensures.exit c.without_work-end.ensures.left

pub returns-in-Err-outdir_for-clause-end : goal.returns-in-Err-outdir_for-clause-end
returns-in-Err-outdir_for-clause-end g c =
    let words = wish_of_run c.args.call.now.words.now in
    like_so (IsRunExit words c.args.call.now.path.now _ _) _ _ c.left_as_said-in-Err-outdir_for.ensures
    (without_outdir c.args.call.now.here.now words c.args.call.now.path.now c.args.given.now _ _ _
    c.requires c.in-Err-outdir_for.ensures c.in_ok-places.ensures.outdir c.without_outdir-end.ensures.exit c.without_outdir-end.ensures.left)
