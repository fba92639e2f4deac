use Rattle.std.proofs.Common.{◌∙◌, sym}
use Rattle.run_core.specs.inner.Course.{known_in, place_at}
use Rattle.run_core.proofs.Choosing.{is_none}
use Rattle.run_core.proofs.Telling.{fails_told, knows_told, unless_over}
use Rattle.run_core.proofs.course.note_outputs.Goals as goal

pub returns-in-Ok-clause-learned : goal.returns-in-Ok-clause-learned
returns-in-Ok-clause-learned c =
    unless_over (record { place = place_at (known_in c.args.course.now.known) c.args.number; outputs = c.args.outputs }) c.args.course.now c.learn.new.course
    (is_none c.args.course.now.end (sym c.is_some.ensures ∙ c.if-is_some.false))
    (knows_told (record { place = place_at (known_in c.args.course.now.known) c.args.number; outputs = c.args.outputs }) c.args.course.now c.learn.new.course
    c.in-Ok.field-0 c.in-Ok.ensures.told c.learn.ensures.past)

pub returns-in-Err-Refused-clause-learned : goal.returns-in-Err-Refused-clause-learned
returns-in-Err-Refused-clause-learned c =
    unless_over (record { place = place_at (known_in c.args.course.now.known) c.args.number; outputs = c.args.outputs }) c.args.course.now c.settle.new.course
    (is_none c.args.course.now.end (sym c.is_some.ensures ∙ c.if-is_some.false))
    (fails_told c.args.course.now c.in-Err-Refused.fault c.end_by.result c.end_by.ensures
    (record { place = place_at (known_in c.args.course.now.known) c.args.number; outputs = c.args.outputs }) c.learn.new.course c.settle.new.course
    c.in-Err-Refused.field-0 c.in-Err-Refused.ensures.told c.in-Err-Refused.field-0-is c.learn.ensures.past c.settle.ensures.past c.settle.ensures.known)
