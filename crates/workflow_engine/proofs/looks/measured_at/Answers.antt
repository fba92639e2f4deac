use Rattle.std.proofs.Common.{[]}
use Rattle.proc_host.specs.Answers.{is_measured}
use Rattle.proc_host.specs.declared.call.HostAnswer.{HostAnswer}
use Rattle.proc_host.specs.declared.call.HostRequest.{HostRequest}
use Rattle.workflow_engine.proofs.Calls.{answer_told}
use Rattle.workflow_engine.proofs.looks.measured_at.Goals as goal

pub returns-clause-answers : goal.returns-clause-answers
returns-clause-answers g c =
    rw c.in-Measure.is (answer_told [] (HostRequest.Measure c.in-Measure.path) (λ measure. HostAnswer.Measured measure) c.measure.result c.measured.result c.measured.ensures
    (λ measure. is_measured c.in-Measure.path measure) c.measure.ensures.own)
