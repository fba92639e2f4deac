use Rattle.record_call.specs.RecordEnds.{checks}
use Rattle.record_call.proofs.record_exit.exit_of_check.Goals as goal

pub returns-in_ok-checked-in-None : goal.returns-in_ok-checked-in-None
returns-in_ok-checked-in-None g c = checks c.in_ok-checked-in-None.ensures
