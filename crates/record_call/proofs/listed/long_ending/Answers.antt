use Rattle.std.proofs.Common.{◌<◌, ap, subst, ◌∙◌}
use Rattle.std.proofs.lemmas.Result.{IfOk-weaker}
use Rattle.plain_data.specs.ByName.{by_name, times}
use Rattle.record_call.specs.Listed.{uses, repeats}
use Rattle.record_call.proofs.RecordLines.{shows_so}
use Rattle.record_call.proofs.listed.long_ending.Goals as goal

pub returns-in-Ok : goal.returns-in-Ok
returns-in-Ok c =
    IfOk-weaker c.long_rows.result _ _ (λ ending is. shows_so c.args.listing.now c.in-Ok.uses ending (c.in-Ok.ensures.ok ∙ ap by_name (c.in_ok-uses.ensures ∙ ap uses c.as_slice.ensures)) is) c.long_rows.ensures

pub returns : goal.returns
returns c =
    let name = c.in-Err.field-0.name in
    repeats name (subst (λ entries. 1 < times name entries) (c.in_ok-uses.ensures ∙ ap uses c.as_slice.ensures) c.in-Err.ensures.err)
