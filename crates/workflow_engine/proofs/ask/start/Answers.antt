use Rattle.proc_host.specs.Answers.{is_started}
use Rattle.proc_host.specs.declared.call.HostRequest.{HostRequest}
use Rattle.workflow_engine.proofs.Calls.{fault_told}
use Rattle.workflow_engine.proofs.ask.start.Goals as goal

pub returns-in-Ok-clause-answers : goal.returns-in-Ok-clause-answers
returns-in-Ok-clause-answers g c = rw c.number-number.ensures (is_started c.args.launch.now c.in-Ok.ticket c.in-Ok.ensures.fresh)

pub returns-in-Err-clause-answers : goal.returns-in-Err-clause-answers
returns-in-Err-clause-answers g c =
    fault_told (g.H.Host.running c.args.host.now) (HostRequest.Start c.args.launch.now) c.in-Err.error c.failed.result c.failed.ensures c.in-Err.ensures.own
