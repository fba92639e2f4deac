use Rattle.std.proofs.Common.{sym, subst, ◌∙◌}
use Rattle.std.proofs.lemmas.Result.{err_from_is_err_and}
use Rattle.sqlite.specs.Held.{state}
use Rattle.job_record.specs.declared.changes.Space.{Space}
use Rattle.job_record.specs.Counted.{FitsSpace}
use Rattle.record_program.specs.Trimming.{lost_in}
use Rattle.record_program.proofs.LosesFirst.{few_lost, trims_part, trims_none}
use Rattle.record_program.proofs.trimming.lose_oldest.Goals as goal

pub returns-in_err-keys-clause-trims : goal.returns-in_err-keys-clause-trims
returns-in_err-keys-clause-trims g c clean map fits it =
    let p = err_from_is_err_and c.from_residual.result c.from_residual.ensures.1 in
    rw (p.1, p.2) (trims_none c.args.budget map (state g.S.Store c.keys_to_lose.new.kept.conn) _ (c.in_err-keys.ensures.holds clean map it))

pub returns-in_err-lose_all-clause-trims : goal.returns-in_err-lose_all-clause-trims
returns-in_err-lose_all-clause-trims g c clean map fits it =
    let p = err_from_is_err_and c.from_residual-in_err-lose_all.result c.from_residual-in_err-lose_all.ensures.1 in
    let held = c.in_ok-keys.ensures.holds (c.lose_all.ensures.clean clean) map it in
    let fits_still = subst (λ (s : Space). FitsSpace s map) (sym c.keys_to_lose.ensures.space) fits in
    rw (p.1, p.2) (trims_part c.args.budget map (state g.S.Store c.lose_all.new.kept.conn) _
    (c.in_err-lose_all.ensures.loses clean map fits_still held.1 (lost_in c.args.budget map) (few_lost c.args.budget map.archives) (c.as_slice.ensures ∙ held.0)))

pub returns-clause-trims : goal.returns-clause-trims
returns-clause-trims g c clean map fits it =
    let held = c.in_ok-keys.ensures.holds (c.lose_all.ensures.clean clean) map it in
    let fits_still = subst (λ (s : Space). FitsSpace s map) (sym c.keys_to_lose.ensures.space) fits in
    (held.0, c.in_ok-lose_all.ensures.loses clean map fits_still held.1 (lost_in c.args.budget map) (few_lost c.args.budget map.archives) (c.as_slice.ensures ∙ held.0))
