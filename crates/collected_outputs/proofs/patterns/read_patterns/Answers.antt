use Rattle.std.proofs.Common.{[], Ok, List, sym, subst}
use Rattle.std.proofs.lemmas.Result.{err_from_is_err_and}
use Rattle.staging.specs.declared.item.PatternItem.{PatternItem}
use Rattle.collected_outputs.specs.Patterns.{AreRead}
use Rattle.collected_outputs.proofs.Readings.{read_more, none_read}
use Rattle.collected_outputs.proofs.patterns.read_patterns.Goals as goal

pub loop-text-init : goal.loop-text-init
loop-text-init c = subst (λ (ps : List (List PatternItem)). AreRead [] (Ok ps)) (sym c.new-patterns.ensures.items) AreRead.none

pub loop-text-preserved : goal.loop-text-preserved
loop-text-preserved c =
    read_more c.args.texts.now c.loop-text.text-index c.text-item.result c.as_str.result.now c.loop-text.patterns.items c.push_pattern.new.patterns.items c.loop-text-test.true c.text-item.is c.as_str.ensures.bytes c.in_ok-push_pattern.ensures.ok c.loop-text.invariant

pub returns-in_err-push_pattern-clause-err : goal.returns-in_err-push_pattern-clause-err
returns-in_err-push_pattern-clause-err c =
    let p = err_from_is_err_and c.from_residual.result c.from_residual.ensures.1 in
    let stop = none_read c.args.texts.now c.loop-text.text-index c.text-item.result c.as_str.result.now c.loop-text.patterns.items c.in_err-push_pattern.field-0.0 c.loop-text-test.true c.text-item.is c.as_str.ensures.bytes c.in_err-push_pattern.ensures.err c.loop-text.invariant in
    rw (p.1, p.2) stop
