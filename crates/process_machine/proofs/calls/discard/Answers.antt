use Rattle.process_machine.proofs.Steps.{nothing_gained}
use Rattle.process_machine.proofs.calls.discard.Goals as goal

pub returns-in_err-make_room-clause-logged : goal.returns-in_err-make_room-clause-logged
returns-in_err-make_room-clause-logged g c = nothing_gained _ _ c.from_residual.result _ _ c.make_room.ensures.items c.from_residual.ensures.1
