use Rattle.std.proofs.Common.{[], refl}
use Rattle.job_graph.specs.Equations.{walker}
use Rattle.run_core.specs.inner.Knows.{knows}
use Rattle.run_core.proofs.Telling.{fails_first}
use Rattle.run_core.proofs.measuring.know.Goals as goal

pub returns-in-Ok-clause-is : goal.returns-in-Ok-clause-is
returns-in-Ok-clause-is c = knows c.in-Ok.unfolding _ c.in-Ok.ensures.ok refl refl

pub returns-in-Err-Refused-clause-is : goal.returns-in-Err-Refused-clause-is
returns-in-Err-Refused-clause-is c =
    fails_first c.args.course.now c.in-Err-Refused.fault c.end_by.result c.end_by.ensures
    (walker c.args.given.now.process.now c.args.given.now.inputs.now c.args.measures) [] c.settle.new.course
    c.in-Err-Refused.field-0 c.in-Err-Refused.ensures.err c.in-Err-Refused.field-0-is c.settle.ensures.past c.settle.ensures.known
