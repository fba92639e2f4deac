use Rattle.cwl_program.proofs.Ends.{demo_without_process}
use Rattle.cwl_program.proofs.demo.exit_of_demo.Goals as goal

pub returns-in-Err : goal.returns-in-Err
returns-in-Err c = demo_without_process c.args.path.now _ _ c.in-Err.ensures.err c.stopped.ensures.ok
