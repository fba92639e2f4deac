use Rattle.std.specs.Vec.Iter.{into_iter_items}
use Rattle.std.proofs.lemmas.Result.{err_from_is_err_and}
use Rattle.collected_outputs.specs.Beside.{one_beside}
use Rattle.collected_outputs.proofs.Giving.{given_more, given_stop, whole_more}
use Rattle.collected_outputs.proofs.secondary.all_with_secondary.Goals as goal

pub loop-value-preserved : goal.loop-value-preserved
loop-value-preserved c = record {
  whole = whole_more c.args.values c.loop-value.yielded (into_iter_items c.loop-value.value-iterator) (into_iter_items c.next.new.self) c.in-Some.value c.loop-value.invariant.whole c.in-Some.ensures.steps.0;
  so_far = given_more (one_beside c.args.listing.now c.args.declared.now) c.loop-value.yielded c.in-Some.value c.loop-value.found c.push.new.self c.in_ok-one_with_secondary.field-0 c.loop-value.invariant.so_far c.in_ok-one_with_secondary.ensures.ok c.in_ok-push.ensures.ok;
}

pub returns-in_err-one_with_secondary-clause-err : goal.returns-in_err-one_with_secondary-clause-err
returns-in_err-one_with_secondary-clause-err c =
    let p = err_from_is_err_and c.from_residual.result c.from_residual.ensures.1 in
    let stop = given_stop (one_beside c.args.listing.now c.args.declared.now) c.args.values c.loop-value.yielded (into_iter_items c.loop-value.value-iterator) c.in-Some.value (into_iter_items c.next.new.self) c.loop-value.found c.in_err-one_with_secondary.field-0.0 c.loop-value.invariant.whole c.in-Some.ensures.steps.0 c.loop-value.invariant.so_far c.in_err-one_with_secondary.ensures.err in
    rw (p.1, p.2) stop
