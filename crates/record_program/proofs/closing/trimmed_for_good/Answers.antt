use Rattle.std.proofs.Common.{None, sym, subst}
use Rattle.record_program.specs.Closing.{ClosesAs, TrimsForGood}
use Rattle.record_program.proofs.GoneForGood.{trims_for_good, trims_unclosed}
use Rattle.record_program.proofs.closing.trimmed_for_good.Goals as goal

pub returns-in-Some-clause-closes : goal.returns-in-Some-clause-closes
returns-in-Some-clause-closes g c =
    let last = c.trimmed-ending.new.kept.conn in
    let closes = subst (λ files. ClosesAs g.D.Disk last c.trimmed-ending.result.0 c.closed-ending.result.0 files) c.in-Some.is (subst (λ conn. ClosesAs g.D.Disk conn c.trimmed-ending.result.0 c.closed-ending.result.0 c.closed-ending.result.1) c.into_connection.ensures c.closed-ending.ensures.closes) in
    trims_for_good g.D.Disk c.args.budget c.args.kept.space c.args.kept.conn last c.trimmed-ending.result.0 c.closed-ending.result.0 c.trimmed-ending.result.1 c.trimmed-ending.ensures.clean c.trimmed-ending.ensures.trims c.in-Some.files closes

pub returns-in-None-clause-closes : goal.returns-in-None-clause-closes
returns-in-None-clause-closes g c =
    let last = c.trimmed-ending.new.kept.conn in
    let closes = subst (λ files. ClosesAs g.D.Disk last c.trimmed-ending.result.0 c.closed-ending.result.0 files) c.in-None.is (subst (λ conn. ClosesAs g.D.Disk conn c.trimmed-ending.result.0 c.closed-ending.result.0 c.closed-ending.result.1) c.into_connection.ensures c.closed-ending.ensures.closes) in
    subst (λ lost. TrimsForGood g.D.Disk c.args.budget c.args.kept.space c.args.kept.conn c.closed-ending.result.0 lost None) (sym c.new.ensures)
    (trims_unclosed g.D.Disk c.args.budget c.args.kept.space c.args.kept.conn last c.trimmed-ending.result.0 c.closed-ending.result.0 c.trimmed-ending.result.1 c.trimmed-ending.ensures.clean c.trimmed-ending.ensures.trims closes)
