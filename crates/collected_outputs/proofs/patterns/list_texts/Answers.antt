use Rattle.std.proofs.lemmas.Result.{err_from_is_err_and}
use Rattle.collected_outputs.specs.Patterns.{text_in}
use Rattle.collected_outputs.proofs.Giving.{slice_more, slice_stop}
use Rattle.collected_outputs.proofs.patterns.list_texts.Goals as goal

pub loop-value-preserved : goal.loop-value-preserved
loop-value-preserved c =
    slice_more text_in c.args.values.now c.loop-value.value-index c.value-item.result c.loop-value.texts c.push.new.self c.in_ok-text_in.field-0 c.loop-value-test.true c.value-item.is c.loop-value.invariant c.in_ok-text_in.ensures.ok c.in_ok-push.ensures.ok

pub returns-in_err-text_in-clause-err : goal.returns-in_err-text_in-clause-err
returns-in_err-text_in-clause-err c =
    let p = err_from_is_err_and c.from_residual.result c.from_residual.ensures.1 in
    let stop = slice_stop text_in c.args.values.now c.loop-value.value-index c.value-item.result c.loop-value.texts c.in_err-text_in.field-0.0 c.loop-value-test.true c.value-item.is c.loop-value.invariant c.in_err-text_in.ensures.err in
    rw (p.1, p.2) stop
