use Rattle.cwl_program.proofs.Ends.{demo_without_inputs}
use Rattle.cwl_program.proofs.demo.on_process.Goals as goal

pub returns-in-Err : goal.returns-in-Err
returns-in-Err c = demo_without_inputs c.args.path.now c.args.process _ _ c.requires c.in-Err.ensures.err c.stopped.ensures.ok
