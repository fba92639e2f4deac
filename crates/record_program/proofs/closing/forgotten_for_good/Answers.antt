use Rattle.std.proofs.Common.{subst}
use Rattle.record_program.specs.Closing.{ClosesAs}
use Rattle.record_program.proofs.ForGood.{for_good}
use Rattle.record_program.proofs.closing.forgotten_for_good.Goals as goal

pub returns-clause-closes : goal.returns-clause-closes
returns-clause-closes g c =
    let last = c.forgotten-ending.new.kept.conn in
    for_good g.D.Disk c.args.sum.now c.args.kept.space c.args.kept.conn last c.forgotten-ending.result c.closed.result.0 c.closed.result.1 c.forgotten-ending.ensures.clean c.forgotten-ending.ensures.forgets
    (subst (λ conn. ClosesAs g.D.Disk conn c.forgotten-ending.result c.closed.result.0 c.closed.result.1) c.into_connection.ensures c.closed.ensures.closes)
