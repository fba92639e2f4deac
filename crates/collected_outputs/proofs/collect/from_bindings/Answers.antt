use Rattle.std.proofs.Common.{Ok, List, [], sym, subst}
use Rattle.std.proofs.lemmas.Result.{err_from_is_err_and}
use Rattle.cwl_value.specs.declared.value.Value.{Value}
use Rattle.collected_outputs.specs.Matched.{Name}
use Rattle.collected_outputs.specs.Outputs.{AreOutputs}
use Rattle.collected_outputs.specs.inner.Steps.{left_of}
use Rattle.collected_outputs.proofs.Bound.{outputs_more, outputs_stop}
use Rattle.collected_outputs.proofs.collect.from_bindings.Goals as goal

pub loop-output-init : goal.loop-output-init
loop-output-init c = subst (λ (vs : List (Name × Value)). AreOutputs (left_of c.args.folder) [] (Ok vs)) (sym c.new-outputs.ensures) AreOutputs.none

pub loop-output-preserved : goal.loop-output-preserved
loop-output-preserved c =
    outputs_more (left_of c.args.folder) c.as_slice-output-items.result.now c.loop-output.output-index c.output-item.result c.loop-output.outputs c.bind_output.new.outputs c.loop-output-test.true c.output-item.is c.in_ok-bind_output.ensures.ok c.loop-output.invariant

pub returns-in_err-bind_output-clause-err : goal.returns-in_err-bind_output-clause-err
returns-in_err-bind_output-clause-err c =
    let p = err_from_is_err_and c.from_residual.result c.from_residual.ensures.1 in
    let stop = outputs_stop (left_of c.args.folder) c.as_slice-output-items.result.now c.loop-output.output-index c.output-item.result c.loop-output.outputs c.in_err-bind_output.field-0.0 c.loop-output-test.true c.output-item.is c.in_err-bind_output.ensures.err c.loop-output.invariant in
    rw (p.1, p.2, ← c.as_slice-output-items.ensures.entries) stop
