use Rattle.std.proofs.Common.{refl}
use Rattle.std.proofs.lemmas.Option.{slice_get_read}
use Rattle.workflow_check.proofs.Ways.{link_if}
use Rattle.workflow_check.proofs.circles.is_linked.Goals as goal

pub returns-in-Some-get : goal.returns-in-Some-get
returns-in-Some-get c =
    let here = slice_get_read c.args.steps.now _ c.args.waits c.in-Some.entry.now refl c.in-Some.ensures.lookup.3.0 c.in-Some.ensures.lookup.1 in
    let there = slice_get_read c.args.steps.now _ c.args.source c.in-Some-get.other.now refl c.in-Some-get.ensures.lookup.3.0 c.in-Some-get.ensures.lookup.1 in
    link_if c.args.steps.now c.args.waits c.args.source c.in-Some.entry.now c.in-Some-get.other.now here there c.is_fed_by.result c.is_fed_by.ensures
