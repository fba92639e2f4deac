use Rattle.proc_host.specs.Answers.{has_ended}
use Rattle.proc_host.specs.declared.call.HostRequest.{HostRequest}
use Rattle.workflow_engine.proofs.Calls.{fault_told}
use Rattle.workflow_engine.proofs.ask.collect.Goals as goal

pub returns-in-Ok-clause-answers : goal.returns-in-Ok-clause-answers
returns-in-Ok-clause-answers g c = has_ended c.in-Ok.ending c.in-Ok.ensures.child

pub returns-in-Err-clause-answers : goal.returns-in-Err-clause-answers
returns-in-Err-clause-answers g c =
    fault_told (g.H.Host.running c.args.host.now) HostRequest.Collect c.in-Err.error c.failed.result c.failed.ensures c.in-Err.ensures.own
