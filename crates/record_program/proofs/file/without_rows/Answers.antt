use Rattle.std.proofs.Common.{subst}
use Rattle.record_program.specs.Closing.{ForgetsForGood}
use Rattle.record_program.specs.Endings.{faulty}
use Rattle.record_program.specs.Opened.{forgotten, unopened}
use Rattle.record_program.proofs.file.without_rows.Goals as goal

pub returns-in-Ok-clause-forgotten : goal.returns-in-Ok-clause-forgotten
returns-in-Ok-clause-forgotten g c =
    let closes = c.forgotten_in.ensures.closes in
    forgotten c.in-Ok.kept.conn closes.0 c.in-Ok.ensures.of (subst (λ space. ForgetsForGood g.D.Disk c.args.sum.now space c.in-Ok.kept.conn c.forgotten_in.result closes.0) c.in-Ok.ensures.space closes.1)

pub returns-in-Err-clause-forgotten : goal.returns-in-Err-clause-forgotten
returns-in-Err-clause-forgotten g c = unopened tt

pub returns-in-Err-clause-ending : goal.returns-in-Err-clause-ending
returns-in-Err-clause-ending g c = faulty c.in-Err.fault
