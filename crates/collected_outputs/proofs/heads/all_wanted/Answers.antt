use Rattle.std.proofs.Common.{Ok, List, [], sym, subst}
use Rattle.std.proofs.lemmas.Result.{err_from_is_err_and}
use Rattle.collected_outputs.specs.HeadsWanted.{AreWantedBy}
use Rattle.collected_outputs.specs.Matched.{Name}
use Rattle.collected_outputs.proofs.Wanting.{wanted_more, wanted_stop}
use Rattle.collected_outputs.proofs.heads.all_wanted.Goals as goal

pub loop-output-init : goal.loop-output-init
loop-output-init c =
    subst (λ (names : List Name). AreWantedBy c.args.folder.listing.now c.args.folder.speaks.inputs.now c.args.folder.speaks.runtime.now [] (Ok names)) (sym c.new-wanted.ensures) AreWantedBy.none

pub loop-output-preserved : goal.loop-output-preserved
loop-output-preserved c =
    wanted_more c.args.folder.listing.now c.args.folder.speaks.inputs.now c.args.folder.speaks.runtime.now c.args.outputs.now c.loop-output.output-index c.output-item.result c.loop-output.wanted c.push_wanted.new.wanted c.loop-output-test.true c.output-item.is c.in_ok-push_wanted.ensures.ok c.loop-output.invariant

pub returns-in_err-push_wanted-clause-err : goal.returns-in_err-push_wanted-clause-err
returns-in_err-push_wanted-clause-err c =
    let p = err_from_is_err_and c.from_residual.result c.from_residual.ensures.1 in
    let stop = wanted_stop c.args.folder.listing.now c.args.folder.speaks.inputs.now c.args.folder.speaks.runtime.now c.args.outputs.now c.loop-output.output-index c.output-item.result c.loop-output.wanted c.in_err-push_wanted.field-0.0 c.loop-output-test.true c.output-item.is c.in_err-push_wanted.ensures.err c.loop-output.invariant in
    rw (p.1, p.2) stop
