use Rattle.std.proofs.Common.{◌≡◌, map, length}
use Rattle.std.specs.Prelude.{zip}
use Rattle.end_words.specs.RunEnds.{place_json}
use Rattle.plan_call.specs.Plans.{AreWaiting, steps_waiting}
use Rattle.plan_call.proofs.Plans.{are_texts}
use Rattle.plan_call.proofs.plan_texts.texts_of.Goals as goal

pub returns : goal.returns
returns c =
    let named : c.as_slice-6.result.now ≡ map place_json c.args.made.now.places = rw (c.as_slice-6.ensures.value, c.in_ok-places.ensures.texts, c.as_slice.ensures) in
    let each : length c.as_slice-7.result.now ≡ length c.args.made.now.graph = rw (c.as_slice-7.ensures.value, c.in_ok-known.ensures, c.as_slice-2.ensures) c.requires.places in
    let each_near : length c.as_slice-8.result.now ≡ length c.args.made.now.graph = rw (c.as_slice-8.ensures.value, c.in_ok-near.ensures, c.as_slice-3.ensures) c.requires.places in
    let past = zip c.args.kept.now.parts c.args.kept.now.costs in
    let waits : AreWaiting c.args.process.now past (steps_waiting c.args.process.now c.args.made.now.places c.as_slice-7.result.now) c.in_ok-waiting.waiting =
    rw (c.as_slice-7.ensures.value, ← c.as_slice-5.ensures.value, ← c.as_slice-4.ensures) c.in_ok-waiting.ensures in
    are_texts c.args.process.now past c.args.dot c.args.made.now _ _ _ _ c.texts_with.result named each each_near waits c.texts_with.ensures.paper c.texts_with.ensures.lines c.texts_with.ensures.reasons
