use Rattle.std.proofs.Common.{ap}
use Rattle.run_facts.specs.MadeBy.{rest_after}
use Rattle.run_facts.specs.declared.made_by.TheConstants.{START_AFTER_NAME}
use Rattle.run_facts.proofs.made_by.start_in.Goals as goal

pub loop-done-init : goal.loop-done-init
loop-done-init c = (c.after_name-rest.utf8, ap (rest_after START_AFTER_NAME) c.after_name-rest.ensures)
