use Rattle.std.proofs.Common.{◌++◌, ap, ◌∙◌}
use Rattle.std.proofs.lemmas.Result.{err_from_is_err_and}
use Rattle.collected_outputs.proofs.Readings.{texts_more, texts_stop}
use Rattle.collected_outputs.proofs.patterns.texts_of.Goals as goal

pub loop-template-preserved : goal.loop-template-preserved
loop-template-preserved c =
    texts_more c.args.speaks.inputs.now c.args.speaks.runtime.now c.args.templates.now c.loop-template.template-index c.template-item.result c.loop-template.texts c.in_ok-more.more c.push_all.new.texts
    c.loop-template-test.true c.template-item.is c.loop-template.invariant c.in_ok-more.ensures.ok (c.in_ok-push_all.ensures ∙ ap (λ l. c.loop-template.texts ++ l) c.as_slice.ensures)

pub returns-in_err-more-clause-err : goal.returns-in_err-more-clause-err
returns-in_err-more-clause-err c =
    let p = err_from_is_err_and c.from_residual.result c.from_residual.ensures.1 in
    let stop = texts_stop c.args.speaks.inputs.now c.args.speaks.runtime.now c.args.templates.now c.loop-template.template-index c.template-item.result c.loop-template.texts c.in_err-more.field-0.0 c.loop-template-test.true c.template-item.is c.loop-template.invariant c.in_err-more.ensures.err in
    rw (p.1, p.2) stop
