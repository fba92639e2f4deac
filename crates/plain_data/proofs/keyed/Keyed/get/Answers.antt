use Rattle.std.proofs.Common.{sym}
use Rattle.plain_data.proofs.Place.{value_at_read, value_at_gap}
use Rattle.plain_data.proofs.keyed.Keyed.get.Goals as goal

pub returns-in-Ok : goal.returns-in-Ok
returns-in-Ok g c = rw (← c.self.view_is) (value_at_read _ _ _ _ c.self.invariant (rw c.self.view_is c.in-Ok.ensures) c.index.ensures)

pub returns-in-Err : goal.returns-in-Err
returns-in-Err g c = rw (← c.self.view_is) (sym (value_at_gap _ _ c.in-Err.field-0 c.self.invariant (rw c.self.view_is c.in-Err.ensures)))
