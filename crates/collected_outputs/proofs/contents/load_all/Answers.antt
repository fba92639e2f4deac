use Rattle.std.specs.Vec.Iter.{into_iter_items}
use Rattle.std.proofs.lemmas.Result.{err_from_is_err_and}
use Rattle.collected_outputs.specs.Contents.{loaded}
use Rattle.collected_outputs.proofs.Giving.{given_more, given_stop, whole_more}
use Rattle.collected_outputs.proofs.contents.load_all.Goals as goal

pub loop-value-preserved : goal.loop-value-preserved
loop-value-preserved c = record {
  whole = whole_more c.args.values c.loop-value.yielded (into_iter_items c.loop-value.value-iterator) (into_iter_items c.next.new.self) c.in-Some.value c.loop-value.invariant.whole c.in-Some.ensures.steps.0;
  so_far = given_more (loaded c.args.heads.now) c.loop-value.yielded c.in-Some.value c.loop-value.loaded c.push.new.self c.in_ok-load_one.field-0 c.loop-value.invariant.so_far c.in_ok-load_one.ensures.ok c.in_ok-push.ensures.ok;
}

pub returns-in_err-load_one-clause-err : goal.returns-in_err-load_one-clause-err
returns-in_err-load_one-clause-err c =
    let p = err_from_is_err_and c.from_residual.result c.from_residual.ensures.1 in
    let stop = given_stop (loaded c.args.heads.now) c.args.values c.loop-value.yielded (into_iter_items c.loop-value.value-iterator) c.in-Some.value (into_iter_items c.next.new.self) c.loop-value.loaded c.in_err-load_one.field-0.0 c.loop-value.invariant.whole c.in-Some.ensures.steps.0 c.loop-value.invariant.so_far c.in_err-load_one.ensures.err in
    rw (p.1, p.2) stop
