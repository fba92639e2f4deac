use Rattle.std.proofs.Common.{sym, subst}
use Rattle.sqlite.specs.Held.{state}
use Rattle.record_program.specs.declared.ending.Ending.TheVariants.{Record}
use Rattle.record_program.specs.Trimming.{TrimsFirst, shows, refuses, without_first, lost_in}
use Rattle.record_program.proofs.LeavesOthers.{record_of}
use Rattle.record_program.proofs.trimming.trimmed.Goals as goal

pub returns-in-Ok-clause-trims : goal.returns-in-Ok-clause-trims
returns-in-Ok-clause-trims g c clean map fits it =
    let trims = c.in-Ok.ensures.trims (c.shown.ensures.clean clean) map fits it in
    let left = c.lose_oldest.new.kept.conn in
    shows left c.shown.result c.in-Ok.lost trims (c.shown.ensures.shows clean (record_of (state g.S.Store left) (without_first (lost_in c.args.budget map) map) trims.1))

pub returns-in-Err-clause-trims : goal.returns-in-Err-clause-trims
returns-in-Err-clause-trims g c clean map fits it =
    subst (TrimsFirst g.S.Store map c.lose_oldest.new.kept.conn c.args.budget (Record c.in-Err.fault)) (sym c.new.ensures) (refuses c.in-Err.fault (c.in-Err.ensures.trims clean map fits it))
