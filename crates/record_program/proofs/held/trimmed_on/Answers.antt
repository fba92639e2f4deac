use Rattle.std.proofs.Common.{subst}
use Rattle.record_program.specs.Closing.{TrimsForGood}
use Rattle.record_program.specs.Opened.{trims, untrimmed}
use Rattle.record_program.proofs.Unshown.{is_ending}
use Rattle.record_program.proofs.held.trimmed_on.Goals as goal

pub returns-in-Ok-clause-whose : goal.returns-in-Ok-clause-whose
returns-in-Ok-clause-whose g c =
    let closes = c.trimmed_in.ensures.closes in
    trims c.in-Ok.kept.conn closes.0 c.in-Ok.ensures.whose
    (subst (λ space. TrimsForGood g.R.Medium.Disk c.args.budget space c.in-Ok.kept.conn c.trimmed_in.result.0 c.trimmed_in.result.1 closes.0) c.in-Ok.ensures.space closes.1)

pub returns-in-Err-clause-whose : goal.returns-in-Err-clause-whose
returns-in-Err-clause-whose g c = untrimmed c.in-Err.ensures.err c.new.ensures

pub returns-in-Err-clause-ending : goal.returns-in-Err-clause-ending
returns-in-Err-clause-ending g c = is_ending c.in-Err.ending c.in-Err.ensures.err
