use Rattle.std.proofs.Common.{Some, refl}
use Rattle.run_core.specs.inner.Picks.{gives}
use Rattle.run_core.proofs.steps.gave_row.Goals as goal

pub returns-in-Ok-note_success-clause-is : goal.returns-in-Ok-note_success-clause-is
returns-in-Ok-note_success-clause-is c =
    gives c.args.outputs (Some c.args.row) c.note_success.new.course c.in-Ok.turn c.note_success.new.course c.in-Ok-note_success.ensures.given
    (record { is = c.in-Ok.ensures; past = refl; known = refl })
