use Rattle.cwl_program.specs.Tells.{ends}
use Rattle.cwl_program.proofs.Ends.{explained}
use Rattle.cwl_program.proofs.entry.main_run.Goals as goal

pub returns-in-Ok : goal.returns-in-Ok
returns-in-Ok g c =
    ends c.in-Ok.end.run.exit c.in-Ok.end.run.left c.in-Ok.end.run.savings c.in-Ok.end.run.unkept c.in-Ok.end.explains c.in-Ok.end.telling _ c.in-Ok.ensures.ok c.in-Ok.ensures.told c.say-status.ensures

pub returns-in-Err : goal.returns-in-Err
returns-in-Err g c =
    explained g.R.Records g.R.Kept.Record c.args.rt.now _ _ _ _ _ _ _ c.in-Err.error _ c.in-Err.ensures.other c.in-Err.ensures.err c.in-Err.ensures.untold c.explain.ensures
