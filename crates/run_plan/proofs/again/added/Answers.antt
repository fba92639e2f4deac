use Rattle.run_plan.proofs.Apart.{added_exactly, misfit_exactly}
use Rattle.run_plan.proofs.again.added.Goals as goal

pub returns-in-Ok-clause-found : goal.returns-in-Ok-clause-found
returns-in-Ok-clause-found c = added_exactly c.args.made.graph c.args.vertex c.in-Ok.found c.in-Ok.ensures.apart c.in-Ok.ensures.kept

pub returns-in-Err-BadGraph-clause-found : goal.returns-in-Err-BadGraph-clause-found
returns-in-Err-BadGraph-clause-found c =
    misfit_exactly c.args.made.graph c.args.vertex c.in-Err-BadGraph.field-0 c.in-Err-BadGraph.field-0-0 c.in-Err-BadGraph.field-0-is c.in-Err-BadGraph.ensures.refused
