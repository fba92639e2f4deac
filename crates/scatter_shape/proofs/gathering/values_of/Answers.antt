use Rattle.std.proofs.Common.{◌≡◌, length, ap, sym, ◌∙◌}
use Rattle.std.specs.Vec.Iter.{into_iter_items}
use Rattle.scatter_shape.specs.Gathered.{values_in}
use Rattle.scatter_shape.proofs.Slots.{length-values_in, values_all, values_more, whole_more}
use Rattle.scatter_shape.proofs.gathering.values_of.Goals as goal

pub loop-slot-preserved : goal.loop-slot-preserved
loop-slot-preserved c = record {
  whole = whole_more c.args.slots.items c.loop-slot.yielded (into_iter_items c.loop-slot.slot-iterator) (into_iter_items c.next.new.self) c.in-Some.slot c.loop-slot.invariant.whole c.in-Some.ensures.steps.0;
  so_far = values_more c.loop-slot.yielded c.in-Some.slot c.in-Some-slot.value c.loop-slot.values.items c.push.new.self.items c.in-Some-slot.is c.loop-slot.invariant.so_far c.in_ok-push-in-Some-slot.ensures.items;
}

pub returns-clause-values : goal.returns-clause-values
returns-clause-values c =
    values_all c.args.slots.items c.loop-slot.yielded (into_iter_items c.loop-slot.slot-iterator) c.loop-slot.values.items c.loop-slot.invariant.whole (sym c.loop-slot.slot-iterator.rest.ok.0 ∙ c.in-None.ensures.steps.0) c.loop-slot.invariant.so_far

pub returns-clause-one_each : goal.returns-clause-one_each
returns-clause-one_each c =
    let all : c.loop-slot.values.items ≡ values_in c.args.slots.items = values_all c.args.slots.items c.loop-slot.yielded (into_iter_items c.loop-slot.slot-iterator) c.loop-slot.values.items c.loop-slot.invariant.whole (sym c.loop-slot.slot-iterator.rest.ok.0 ∙ c.in-None.ensures.steps.0) c.loop-slot.invariant.so_far in
    ap length all ∙ length-values_in c.args.slots.items c.requires
