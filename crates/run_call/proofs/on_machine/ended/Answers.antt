use Rattle.run_call.specs.Runs.{IsRanOver, ran}
use Rattle.run_call.proofs.Runs.{noted_so}
use Rattle.run_call.proofs.on_machine.ended.Goals as goal

pub returns : goal.returns
returns g c =
    noted_so (IsRanOver c.args.given.now.process c.args.given.now.inputs c.args.options _ _) _ c.exit_of_run-exit.result _
    (rw (c.log.ensures, c.machine.ensures) at c.exit_of_run-exit.ensures) c.noted-end.ensures.exit
    (ran _ _ _ c.run-report.ensures.run c.run-report.ensures.fault c.run-report.ensures.record)
